use Rattle.std.proofs.Common.{◌≡◌, ◌<◌, ◌+◌, ℕ, length, get_or, cond, ◌&&◌, leb, ltb}
use Rattle.bx_dist.proofs.carried.take_over.Given as goal

abbrev pub invariant-loop-gap : goal.invariant-loop-gap
invariant-loop-gap l =
    record {
      size : length l.idle ≡ length l.fn.idle;
      each : (v : ℕ) → v < length l.fn.idle → get_or l.idle v 0 + cond (leb l.fn.arc.from v && ltb v l.gap) 1 0 ≡ get_or l.fn.idle v 0;
    }
