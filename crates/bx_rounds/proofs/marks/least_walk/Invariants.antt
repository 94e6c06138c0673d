use Rattle.std.proofs.Common.{ℕ, ◌-◌, ◌<◌, ◌≤◌, length, get_or}
use Rattle.bx_line.specs.Network.{places_of}
use Rattle.bx_dist.specs.declared.step.Step.TheVariants.{Idle}
use Rattle.bx_rounds.specs.Rounds.{AreMarks, ExtendsWalk}
use Rattle.bx_rounds.proofs.Passes.{IsPassed, work_left}
use Rattle.bx_rounds.proofs.marks.least_walk.Given as goal

abbrev pub invariant-loop-settled : goal.invariant-loop-settled
invariant-loop-settled l =
    record {
      marks : AreMarks l.line l.steps l.lengths l.marks.ranks.items l.marks.last.items l.marks.count;
      within : 0 < length l.steps → l.at < length l.steps;
      few : l.settled ≤ length l.steps;
      passed : (j : ℕ) → j < length l.steps → IsPassed l.at l.settled (length l.steps) j → ExtendsWalk l.line l.lengths l.marks.ranks.items (get_or l.steps j (Idle 0));
    }

abbrev pub decreases-loop-settled : goal.decreases-loop-settled
decreases-loop-settled l = work_left (places_of l.line - l.marks.count) (length l.steps) l.settled
