-- Private: what the functions of such a day promise one another.
use Rattle.std.specs.Prelude.{◌≡◌, ℕ, Bool, List, Option}
use Rattle.bx_devices.specs.declared.watched.Watched.{Watched}
use Rattle.bx_far.specs.FarDay.{FarDay}
use Rattle.bx_far_commands.specs.LineDays.{IsFarRunIn, AreCaptured, IsLineRun}
use Rattle.bx_line_world.specs.Wires.{WireAct}
use Rattle.bx_live.specs.Acts.{Act}
use Rattle.bx_live.specs.declared.schedule.Schedule.{Schedule}
use Rattle.bx_world.specs.declared.telling.Telling.{Telling}

-- a day was run over a world, and captured
pub record RunsSeen {W F : Type 0} (H : Type 0) (did : W → List Act → W → Type 0) (old new : W) (turns : ℕ) (from to : FarDay) (contents : F → Option (List ℕ)) (file : Option (Watched F)) (first : ℕ) (is_whole : Bool) : Type 0 where
  pub acts : List Act
  pub run : IsFarRunIn did old acts new turns from to
  pub captured : AreCaptured (Telling W H) contents file first acts is_whole

-- a day was run over a wire, to this moment
pub record RunsTo {W F : Type 0} (H : Type 0) (did : W → List WireAct → W → Type 0) (contents : F → Option (List ℕ)) (wire : W) (schedule : Schedule) (turns : ℕ) (from : FarDay) (file : Option (Watched F)) (first moment : ℕ) (is_whole : Bool) : Type 0 where
  pub to : FarDay
  pub run : IsLineRun H did contents wire schedule turns from to file first is_whole
  pub is_moment : moment ≡ to.moment
