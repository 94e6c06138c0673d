use Rattle.bx_line.specs.Network.{places_of}
use Rattle.bx_rounds.specs.Rounds.{ListsOpenSteps}
use Rattle.bx_rounds.proofs.steps.listed.Given as goal

abbrev pub invariant-loop-i : goal.invariant-loop-i
invariant-loop-i l = ListsOpenSteps l.part l.line l.carried (places_of l.line) l.i l.steps.items
