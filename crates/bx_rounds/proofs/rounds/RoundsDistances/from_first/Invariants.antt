use Rattle.std.proofs.Common.{length}
use Rattle.bx_rounds.proofs.Rounding.{excess}
use Rattle.bx_rounds.proofs.Passes.{work_left}
use Rattle.bx_rounds.proofs.RoundSteps.{IsRound}
use Rattle.bx_rounds.proofs.rounds.RoundsDistances.from_first.Given as goal

abbrev pub invariant-loop-settled : goal.invariant-loop-settled
invariant-loop-settled l = IsRound l.fn.part l.line l.carried l.steps.items l.lengths.items l.at l.settled

abbrev pub decreases-loop-settled : goal.decreases-loop-settled
decreases-loop-settled l = work_left (excess l.line l.potentials l.lengths.items) (length l.steps.items) l.settled
