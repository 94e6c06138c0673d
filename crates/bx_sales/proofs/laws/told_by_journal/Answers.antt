use Rattle.bx_sales.proofs.Journal.{told_by}
use Rattle.bx_sales.proofs.laws.told_by_journal.Goals as goal

pub returns : goal.returns
returns c channels row_on rows accepted assigned events d count bookings carries first through last fit =
    told_by channels row_on rows accepted assigned events d count bookings carries first through last fit
