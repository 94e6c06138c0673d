-- Why a day is not drawn by its journal, and what was written then.
use Rattle.std.specs.Prelude.{◌≡◌, ◌⊎◌, ℕ, Bool, true, List, Option}
use Rattle.bx_calendar.specs.declared.clock.Clock.{Clock}
use Rattle.bx_check_commands.specs.declared.fault.CommandFault.TheVariants.{CannotWrite, Memory}
use Rattle.bx_day.specs.Day.{Day}
use Rattle.bx_day_chart.specs.Charts.{IsDayCut}
use Rattle.bx_day_chart.specs.Sights.{Sight}
use Rattle.bx_day_openings.specs.Recording.{IsClockOf, IsNoClock}
use Rattle.bx_day_openings.specs.declared.fault.DayCommandFault.{DayCommandFault}
use Rattle.bx_day_openings.specs.declared.fault.DayCommandFault.TheVariants.{Command}
use Rattle.bx_devices.specs.Devices.{Writing, writing_of, KeepsOutput}
use Rattle.bx_devices.specs.declared.watched.Watched.{Watched}
use Rattle.bx_request.specs.declared.request.DayChartRequest.{DayChartRequest}
use Rattle.bx_audit.specs.Charted.{IsDaySeen}
use Rattle.bx_audit.specs.Unrecorded.{IsDayUntold}

-- the day is not told, or memory ran out
abbrev pub IsDayUnseen : (List ℕ → Option (List ℕ) → Type 0) → List ℕ → List ℕ → DayCommandFault → Type 0
IsDayUnseen gives plan journal (Command Memory) = Unit {0}
IsDayUnseen gives plan journal fault = IsDayUntold gives plan journal fault

-- what is tested first is answered: the date and the zone, the plan, the journal
abbrev pub StopsChart : (List ℕ → Option (List ℕ) → Type 0) → DayChartRequest → DayCommandFault → Type 0
StopsChart gives request fault = IsNoClock request.day fault ⊎ (((clock : Option Clock) × IsClockOf request.day clock) × IsDayUnseen gives request.plan.now request.journal.now fault)

-- a prefix of the picture of such a day was written, and the output failed
pub record IsChartCut (gives : List ℕ → Option (List ℕ) → Type 0) (request : DayChartRequest) (output : Writing) : Type 0 where
  pub day : Day
  pub channels : List Bool
  pub sight : Sight
  pub seen : IsDaySeen gives request.plan.now request.journal.now channels day sight
  pub clock : Option Clock
  pub clock_of : IsClockOf request.day clock
  pub faulted : output.is_faulted ≡ true
  pub cut : IsDayCut day channels sight clock output

-- nothing was written, or a prefix of it where the output failed
abbrev pub IsDayChartCommandRefusal : {W : Type 0} → (List ℕ → Option (List ℕ) → Type 0) → DayChartRequest → (W → Option (List ℕ)) → Watched W → Watched W → DayCommandFault → Type 0
IsDayChartCommandRefusal gives request contents old new (Command CannotWrite) = IsChartCut gives request (writing_of contents old new)
IsDayChartCommandRefusal gives request contents old new (Command Memory) = KeepsOutput (writing_of contents old new)
IsDayChartCommandRefusal gives request contents old new fault = StopsChart gives request fault × (new ≡ old)
