-- Runs over worlds.
use Rattle.std.proofs.Common.{◌≡◌, ℕ, max, min, Bool, false, List, Option, Result, Ok, OnOk, subst}
use Rattle.bx_day.specs.Day.{Day}
use Rattle.bx_devices.specs.declared.watched.Watched.{Watched}
use Rattle.bx_live.specs.Acts.{Act, ended}
use Rattle.bx_live.specs.Running.{or_over}
use Rattle.bx_live.specs.Runs.{Between, Done, IsRun}
use Rattle.bx_live.specs.declared.world.CannotLog.{CannotLog}
use Rattle.bx_rehearsal_commands.specs.WholeRuns.{IsWholeRun}
use Rattle.bx_rehearsal_commands.specs.Runs.{RunsIn}

-- a run that could be logged
module _ {W F : Type 0} (did : W → List Act → W → Type 0) (contents : F → Option (List ℕ)) where
  pub whole_run : (old new : W) (turns : ℕ) (from to : Day) (done : Result (Unit {0}) CannotLog) (file : Option (Watched F)) (first : ℕ) (is_whole : Bool) → done ≡ Ok tt → (r : RunsIn did old new turns from to done contents file first is_whole) → IsWholeRun turns from to r.ran.acts
  whole_run old new turns from to done file first is_whole is r = record {
    run = subst (λ (x : Result (Unit {0}) CannotLog). IsRun (Between from) r.ran.acts (or_over (Done to) to x)) is r.ran.goes;
    after = r.after;
    reached = subst (λ (x : Result (Unit {0}) CannotLog). OnOk x (ended r.ran.acts ≡ false → to.moment ≡ max from.moment (min turns 300000))) is r.reached;
  }
