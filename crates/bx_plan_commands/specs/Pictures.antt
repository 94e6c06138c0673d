-- What the command that draws a plan writes, and why it is refused.
use Rattle.std.specs.Borrow.{Bor}
use Rattle.std.specs.Prelude.{◌≡◌, ℕ, List, Option, Some, None, ◌⊎◌}
use Rattle.bx_devices.specs.Devices.{Writing, writing_of}
use Rattle.bx_base.specs.Channels.{count_of}
use Rattle.bx_base.specs.PlanParts.{Parts}
use Rattle.bx_devices.specs.declared.watched.Watched.{Watched}
use Rattle.bx_calendar.specs.Clocks.{IsClock}
use Rattle.bx_calendar.specs.declared.clock.Clock.{Clock}
use Rattle.bx_chart.specs.Charts.{IsDrawn, IsChartRefusal}
use Rattle.bx_chart.specs.declared.writing.ChartFault.{ChartFault}
use Rattle.bx_plan_commands.specs.FileRefusals.{IsNoDay, IsFileFault}
use Rattle.bx_plan_commands.specs.declared.fault.FileFault.{FileFault}
use Rattle.bx_plan_commands.specs.declared.fault.FileFault.TheVariants.{Chart}
use Rattle.bx_planner.specs.Earnings.{IsEarning}
use Rattle.bx_planner.specs.declared.earnings.Earning.TheVariants.{Most}
use Rattle.bx_check_commands.specs.Inputs.{IsPlanOf, IsProvedOf, IsNoProvedOf}
use Rattle.bx_check_commands.specs.declared.fault.CommandFault.{CommandFault}
use Rattle.bx_check_commands.specs.declared.fault.CommandFault.TheVariants.{Memory}

-- the clock of the date and the zone that are named, and none where none are
abbrev pub IsPictureClock : Option (Bor (List ℕ) × Bor (List ℕ)) → Option Clock → Type 0
IsPictureClock None None = Unit {0}
IsPictureClock (Some (date, zone)) (Some clock) = IsClock date.now zone.now clock
IsPictureClock _ _ = ⊥

-- a date and a zone are named, and name no day
abbrev pub IsNoPictureClock : Option (Bor (List ℕ) × Bor (List ℕ)) → FileFault → Type 0
IsNoPictureClock None fault = ⊥
IsNoPictureClock (Some (date, zone)) fault = IsNoDay date.now zone.now fault

-- the plan that an input of this name gave, which is proved for its own bookings and channels, what one more channel would add to its total, and that
-- clock
pub record IsDrawable (gives : List ℕ → Option (List ℕ) → Type 0) (day : Option (Bor (List ℕ) × Bor (List ℕ))) (name : List ℕ) : Type 0 where
  pub plan : Parts
  pub proved_of : IsProvedOf gives name plan
  pub gain : ℕ
  pub gain_of : IsEarning plan.rows (count_of plan.channels) (Most plan.total gain)
  pub clock : Option Clock
  pub clock_of : IsPictureClock day clock

-- a picture of such a plan was written, with that gain and the hours of that clock
abbrev pub IsPictured : (List ℕ → Option (List ℕ) → Type 0) → Option (Bor (List ℕ) × Bor (List ℕ)) → List ℕ → Writing → Type 0
IsPictured gives day name output = (sight : IsDrawable gives day name) × IsDrawn sight.plan sight.gain sight.clock output

-- or it was not
abbrev pub IsUndrawn : (List ℕ → Option (List ℕ) → Type 0) → Option (Bor (List ℕ) × Bor (List ℕ)) → List ℕ → Writing → ChartFault → Type 0
IsUndrawn gives day name output fault = (sight : IsDrawable gives day name) × IsChartRefusal sight.plan sight.gain sight.clock output fault

-- the words name a clock, or none
abbrev pub IsSomeClock : Option (Bor (List ℕ) × Bor (List ℕ)) → Type 0
IsSomeClock day = (clock : Option Clock) × IsPictureClock day clock

-- there is no such plan of the input, or memory ran out before anything was drawn of it
abbrev pub IsUnpictured : (List ℕ → Option (List ℕ) → Type 0) → List ℕ → CommandFault → Type 0
IsUnpictured gives name Memory = IsNoProvedOf gives name Memory ⊎ ((plan : Parts) × IsPlanOf gives name plan)
IsUnpictured gives name fault = IsNoProvedOf gives name fault

abbrev pub IsNotPictured : {W : Type 0} → (List ℕ → Option (List ℕ) → Type 0) → Option (Bor (List ℕ) × Bor (List ℕ)) → List ℕ → (W → Option (List ℕ)) → Watched W → Watched W → FileFault → Type 0
IsNotPictured gives day name contents old new (Chart fault) = IsUndrawn gives day name (writing_of contents old new) fault
IsNotPictured gives day name contents old new fault = (IsNoPictureClock day fault ⊎ (IsSomeClock day × IsFileFault (IsUnpictured gives name) fault)) × (new ≡ old)
