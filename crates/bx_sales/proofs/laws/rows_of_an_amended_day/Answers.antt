use Rattle.bx_sales.proofs.Journal.{amended_plan}
use Rattle.bx_sales.proofs.laws.rows_of_an_amended_day.Goals as goal

pub returns : goal.returns
returns c channels row_on rows assigned events d count bookings carries through = amended_plan channels row_on rows assigned events d count bookings carries through
