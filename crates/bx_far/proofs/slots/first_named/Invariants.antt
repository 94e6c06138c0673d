use Rattle.std.proofs.Common.{◌≡◌, drop}
use Rattle.bx_q931.specs.Messages.{PlainMessage}
use Rattle.bx_calls.specs.Said.{said_of}
use Rattle.bx_far.specs.FarDay.{far_names, first_call}
use Rattle.bx_far.specs.Seats.{live_calls}
use Rattle.bx_far.proofs.slots.first_named.Given as goal

abbrev pub invariant-loop-i : goal.invariant-loop-i
invariant-loop-i l = (m : PlainMessage) → first_call (far_names (said_of l.reference l.flag m)) (live_calls (drop l.i l.calls)) ≡ first_call (far_names (said_of l.reference l.flag m)) (live_calls l.calls)
