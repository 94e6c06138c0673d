use Rattle.std.proofs.Common.{◌≡◌, false, take}
use Rattle.std.specs.List.{list_any}
use Rattle.bx_live.specs.Held.{is_up}
use Rattle.bx_live.proofs.holding.has_call.Given as goal

abbrev pub invariant-loop-entry : goal.invariant-loop-entry
invariant-loop-entry l = list_any is_up (take l.entry-index l.exchange.entries) ≡ false
