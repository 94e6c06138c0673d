-- What the functions of a far end's run do: the world has gone through the acts of a run.
use Rattle.std.specs.Prelude.{List}
use Rattle.bx_live.specs.Acts.{Act}
use Rattle.bx_link.specs.Runs.{FarPlace, IsFarRun}

pub record FarRuns {W : Type 0} (did : W → List Act → W → Type 0) (old new : W) (from to : FarPlace) : Type 0 where
  pub acts : List Act
  pub done : did old acts new
  pub goes : IsFarRun from acts to
