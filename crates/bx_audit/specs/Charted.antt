-- A day that is drawn by its journal.
use Rattle.std.specs.Prelude.{◌≡◌, ℕ, Bool, List, Option}
use Rattle.bx_calendar.specs.declared.clock.Clock.{Clock}
use Rattle.bx_day.specs.Day.{Day}
use Rattle.bx_day_chart.specs.Charts.{IsDayDrawn}
use Rattle.bx_day_chart.specs.Counting.{is_day_over}
use Rattle.bx_day_chart.specs.Sights.{Sight}
use Rattle.bx_day_openings.specs.Recording.{IsClockOf}
use Rattle.bx_day_openings.specs.TiedDays.{IsOpeningOf}
use Rattle.bx_devices.specs.Devices.{Writing}
use Rattle.bx_journal.specs.Heads.{of_any_day}
use Rattle.bx_request.specs.declared.request.DayChartRequest.{DayChartRequest}
use Rattle.bx_audit.specs.Seen.{IsSeenThrough}

-- the day of the plan that one input gave, after just the events and amendments of the journal that another one gave, with the outages of its link; it is over where
-- no booking waits or is live
pub record IsDaySeen (gives : List ℕ → Option (List ℕ) → Type 0) (plan journal : List ℕ) (channels : List Bool) (day : Day) (sight : Sight) : Type 0 where
  pub opened : Day
  pub digest : List ℕ
  pub opens : IsOpeningOf gives plan opened channels digest
  pub before : Option (List ℕ)
  pub given : gives journal before
  pub through : IsSeenThrough channels (of_any_day digest) before opened day sight.outages
  pub over : sight.is_over ≡ is_day_over day

-- the picture of this day was written, with the clock that the words name
pub record IsDayCharted (gives : List ℕ → Option (List ℕ) → Type 0) (request : DayChartRequest) (output : Writing) : Type 0 where
  pub day : Day
  pub channels : List Bool
  pub sight : Sight
  pub seen : IsDaySeen gives request.plan.now request.journal.now channels day sight
  pub clock : Option Clock
  pub clock_of : IsClockOf request.day clock
  pub drawn : IsDayDrawn day channels sight clock output
