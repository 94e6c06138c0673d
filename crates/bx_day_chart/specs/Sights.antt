-- What a picture shows of a day that its exchange does not keep, as a value.
use Rattle.std.specs.Prelude.{Bool, List}
use Rattle.bx_day_chart.specs.declared.outages.DaySight.{DaySight}
use Rattle.bx_day_chart.specs.declared.outages.Outage.{Outage}

-- the outages of the link, and whether the day is over
pub record Sight : Type 0 where
  pub outages : List Outage
  pub is_over : Bool

abbrev pub sight_of : DaySight → Sight
sight_of sight = record { outages = sight.outages.spans.items; is_over = sight.is_over }
