-- The world of the last plan, of which both laws are known.
use Rattle.bx_two_ends.proofs.Amended.{two_ends_amended}
use Rattle.bx_two_ends.proofs.laws.two_ends_amended.Goals as goal

pub returns : goal.returns
returns c = two_ends_amended c.one_day_by_journal.ensures
