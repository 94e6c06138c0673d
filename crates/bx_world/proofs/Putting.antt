-- What a writer takes of what is written to it.
use Rattle.std.proofs.Common.{ℕ, List, Option, Result, Ok, Err, is_ok}
use Rattle.bx_devices.specs.declared.watched.Watched.{Watched}
use Rattle.bx_frames.specs.Writing.{Sends}
use Rattle.bx_world.specs.Peers.{Puts}

pub puts_of : {W E : Type 0} (contents : W → Option (List ℕ)) (old new : Watched W) (text : List ℕ) (r : Result (Unit {0}) E) → Sends contents old new r text → Puts contents old new text (is_ok r)
puts_of contents old new text (Ok done) sent = sent.written
puts_of contents old new text (Err fault) sent = sent.part
