use Rattle.bx_rounds.specs.Rounds.{ListsOpenSteps}
use Rattle.bx_rounds.proofs.steps.gap_steps.Given as goal

abbrev pub invariant-loop-v : goal.invariant-loop-v
invariant-loop-v l = ListsOpenSteps l.part l.line l.carried l.v 0 l.steps.items
