-- Why no picture was drawn, and what of.
use Rattle.std.proofs.Common.{ℕ, List, Option, Some, None, Result, Ok, Err, inl, inr, refl}
use Rattle.std.specs.Prelude.{IfErr}
use Rattle.std.specs.Borrow.{Bor}
use Rattle.bx_base.specs.PlanParts.{Parts}
use Rattle.bx_calendar.specs.declared.clock.Clock.{Clock}
use Rattle.bx_chart.specs.declared.writing.ChartFault.{ChartFault}
use Rattle.bx_check_commands.specs.Inputs.{IsProvedOf, IsNoProvedOf}
use Rattle.bx_check_commands.specs.declared.fault.CommandFault.{CommandFault}
use Rattle.bx_check_commands.specs.declared.fault.CommandFault.TheVariants.{Memory}
use Rattle.bx_devices.specs.Devices.{Writing}
use Rattle.bx_devices.specs.declared.watched.Watched.{Watched}
use Rattle.bx_plan_commands.specs.Inside.{IsDrawnWith, IsNotDrawnWith}
use Rattle.bx_plan_commands.specs.Pictures.{IsPictureClock, IsNoPictureClock, IsPictured, IsUnpictured, IsNotPictured}
use Rattle.bx_plan_commands.specs.declared.fault.FileFault.{FileFault}
use Rattle.bx_plan_commands.specs.declared.fault.FileFault.TheVariants as files

never_drawn : {C : Type 0} (day : Option (Bor (List ℕ) × Bor (List ℕ))) (fault : ChartFault) → IsNoPictureClock day (files.Chart fault) → C
never_drawn None fault why = absurd why
never_drawn (Some (date, zone)) fault why = absurd why

module _ (gives : List ℕ → Option (List ℕ) → Type 0) (day : Option (Bor (List ℕ) × Bor (List ℕ))) (name : List ℕ) where
  pub no_clock : {W : Type 0} (contents : W → Option (List ℕ)) (output : Watched W) (fault : FileFault) → IsNoPictureClock day fault → IsNotPictured gives day name contents output output fault
  no_clock contents output (files.Chart fault) why = never_drawn day fault why
  no_clock contents output fault why = (inl why, refl)

  pub no_proved_plan : (fault : CommandFault) → IsNoProvedOf gives name fault → IsUnpictured gives name fault
  no_proved_plan Memory why = inl why
  no_proved_plan fault why = why

  pub pictured : (plan : Parts) (clock : Option Clock) (output : Writing) → IsProvedOf gives name plan → IsPictureClock day clock → IsDrawnWith plan clock output → IsPictured gives day name output
  pictured plan clock output proved_of clock_of (gain, gain_of, drawn) = (record { plan = plan; proved_of = proved_of; gain = gain; gain_of = gain_of; clock = clock; clock_of = clock_of }, drawn)

  unpictured : {W : Type 0} (plan : Parts) (clock : Option Clock) (contents : W → Option (List ℕ)) (old new : Watched W) → IsProvedOf gives name plan → IsPictureClock day clock → (fault : FileFault)
      → IsNotDrawnWith plan clock contents old new fault → IsNotPictured gives day name contents old new fault
  unpictured plan clock contents old new proved_of clock_of (files.Chart fault) (gain, gain_of, refused) = (record { plan = plan; proved_of = proved_of; gain = gain; gain_of = gain_of; clock = clock; clock_of = clock_of }, refused)
  unpictured plan clock contents old new proved_of clock_of (files.Command Memory) same = (inr ((clock, clock_of), inr (plan, proved_of.plan_of)), same)
  unpictured plan clock contents old new proved_of clock_of fault why = absurd why

  pub not_pictured : {W : Type 0} (plan : Parts) (clock : Option Clock) (contents : W → Option (List ℕ)) (old new : Watched W) → IsProvedOf gives name plan → IsPictureClock day clock → (r : Result (Unit {0}) FileFault)
      → IfErr r (IsNotDrawnWith plan clock contents old new) → IfErr r (IsNotPictured gives day name contents old new)
  not_pictured plan clock contents old new proved_of clock_of (Ok done) why = why
  not_pictured plan clock contents old new proved_of clock_of (Err fault) why = unpictured plan clock contents old new proved_of clock_of fault why
