-- What the functions of a run do: the world has gone through the acts of a run.
use Rattle.std.specs.Prelude.{◌≡◌, true, List, Result, Ok, Err}
use Rattle.bx_day.specs.Day.{Day}
use Rattle.bx_live.specs.declared.world.CannotLog.{CannotLog}
use Rattle.bx_live.specs.Acts.{Act, begins_none}
use Rattle.bx_live.specs.Runs.{Place, Over, IsRun}

pub record Runs {W : Type 0} (did : W → List Act → W → Type 0) (old new : W) (from to : Place) : Type 0 where
  pub acts : List Act
  pub done : did old acts new
  pub goes : IsRun from acts to

-- a run in which no second begins: inside of one, or at the end of a day
pub record RunsInside {W : Type 0} (did : W → List Act → W → Type 0) (old new : W) (from to : Place) : Type 0 where
  pub acts : List Act
  pub done : did old acts new
  pub goes : IsRun from acts to
  pub inside : begins_none acts ≡ true

-- the place after what went well, or failed
abbrev pub or_over : {A : Type 0} → Place → Day → Result A CannotLog → Place
or_over place d (Ok _) = place
or_over place d (Err _) = Over d
