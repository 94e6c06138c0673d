use Rattle.std.proofs.Common.{◌≡◌, ℕ, ◌<◌, true, get_or}
use Rattle.bx_base.specs.Channels.{has_channel}
use Rattle.bx_colour.proofs.sweep.lowest_free_at.Given as goal

abbrev pub invariant-loop-n : goal.invariant-loop-n
invariant-loop-n l = (k : ℕ) → k < l.n → has_channel l.channels k ≡ true → l.moment < get_or l.until k 0
