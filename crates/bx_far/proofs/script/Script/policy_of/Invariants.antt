use Rattle.std.proofs.Common.{◌≡◌, drop}
use Rattle.bx_far.specs.Policies.{policy_of}
use Rattle.bx_far.proofs.script.Script.policy_of.Given as goal

abbrev pub invariant-loop-row : goal.invariant-loop-row
invariant-loop-row l = policy_of (drop l.row-index l.self) l.called ≡ policy_of l.self l.called
