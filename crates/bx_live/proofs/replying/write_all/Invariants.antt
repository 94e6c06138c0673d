use Rattle.std.proofs.Common.{ℕ, drop}
use Rattle.bx_day.specs.Day.{Day}
use Rattle.bx_live.specs.Runs.{writing}
use Rattle.bx_live.specs.Running.{RunsInside}
use Rattle.bx_live.specs.Inside.{texts_of}
use Rattle.bx_live.proofs.replying.write_all.Given as goal

abbrev pub invariant-loop-reply : goal.invariant-loop-reply
invariant-loop-reply g l = (d : Day) (room : ℕ) → RunsInside g.W.World.did l.fn.world l.world (writing d room (texts_of l.replies)) (writing d room (texts_of (drop l.reply-index l.replies)))
