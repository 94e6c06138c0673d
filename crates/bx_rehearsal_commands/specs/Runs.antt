-- A day that was run over a world.
use Rattle.std.specs.Prelude.{◌≡◌, ℕ, Bool, false, max, min, List, Option, Result, OnOk}
use Rattle.bx_day.specs.Day.{Day}
use Rattle.bx_day.specs.Outages.{live_day_after}
use Rattle.bx_devices.specs.declared.watched.Watched.{Watched}
use Rattle.bx_live.specs.Acts.{Act, logged_by, ended}
use Rattle.bx_live.specs.Runs.{Between, Done}
use Rattle.bx_live.specs.Running.{Runs, or_over}
use Rattle.bx_live.specs.declared.world.CannotLog.{CannotLog}
use Rattle.bx_rehearsal_commands.specs.RunCaptures.{IsRunKept}
use Rattle.bx_events.specs.declared.moment.TheConstants.{LAST_MOMENT}

-- a world has gone through the acts of a run to its end, or to where something could not be logged; and these were captured
pub record RunsIn {W F : Type 0} (did : W → List Act → W → Type 0) (old new : W) (turns : ℕ) (from to : Day) (done : Result (Unit {0}) CannotLog) (contents : F → Option (List ℕ)) (file : Option (Watched F)) (first : ℕ) (is_whole : Bool) : Type 0 where
  pub ran : Runs did old new (Between from) (or_over (Done to) to done)
  pub after : to ≡ live_day_after (logged_by ran.acts) from
  pub reached : OnOk done (ended ran.acts ≡ false → to.moment ≡ max from.moment (min turns LAST_MOMENT))
  pub kept : IsRunKept contents file first ran.acts is_whole
