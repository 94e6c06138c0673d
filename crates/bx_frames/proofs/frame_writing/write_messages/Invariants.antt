use Rattle.std.proofs.Common.{take}
use Rattle.std.specs.List.{flat_map}
use Rattle.bx_frames.specs.Frames.{frame_with}
use Rattle.bx_frames.specs.Writing.{Sends}
use Rattle.bx_frames.proofs.WritingFrames.{done}
use Rattle.bx_frames.proofs.frame_writing.write_messages.Given as goal

abbrev pub invariant-loop-message : goal.invariant-loop-message
invariant-loop-message g l = Sends g.W.Write.contents l.fn.w l.w done (flat_map frame_with (take l.message-index l.messages))
