use Rattle.std.proofs.Common.{◌≡◌, ◌≤◌, ◌+◌, ◌++◌, length, drop}
use Rattle.bx_calls.specs.Sending.{in_order, spelled}
use Rattle.bx_calls.proofs.sending.spell.Given as goal

abbrev pub invariant-loop-message : goal.invariant-loop-message
invariant-loop-message l = record {
  whole : l.sent.items ++ spelled (in_order (drop l.message-index l.said)) ≡ spelled (in_order l.said);
  few : length l.sent.items + length (in_order (drop l.message-index l.said)) ≤ 30;
}
