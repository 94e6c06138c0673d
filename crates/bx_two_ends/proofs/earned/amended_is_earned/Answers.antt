-- The turns of a day whose plan is amended, by those of the day of its last plan.
use Rattle.bx_two_ends.specs.Earning.{IsAllAnswered, IsCleared}
use Rattle.bx_two_ends.proofs.AmendedDays.{answered_onto, cleared_onto, turns_stay, earned_amended}
use Rattle.bx_two_ends.proofs.earned.amended_is_earned.Goals as goal

pub returns-clause-answered : goal.returns-clause-answered
returns-clause-answered c = turns_stay c.one_day_by_journal.ensures IsAllAnswered answered_onto

pub returns-clause-cleared : goal.returns-clause-cleared
returns-clause-cleared c = turns_stay c.one_day_by_journal.ensures IsCleared cleared_onto

pub returns-clause-earned : goal.returns-clause-earned
returns-clause-earned c = earned_amended c.one_day_by_journal.ensures c.planned_is_paid.ensures.carried c.planned_is_paid.ensures.unbroken
