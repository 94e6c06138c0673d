-- Private: how a second of a run ends.
use Rattle.std.specs.Prelude.{◌≡◌, ◌+◌, ◌<◌, true, List}
use Rattle.bx_far.specs.FarDay.{FarDay}
use Rattle.bx_live.specs.declared.running.Second.{Second}
use Rattle.bx_live.specs.declared.running.Second.TheVariants.{Passed, Ended}
use Rattle.bx_live.specs.Acts.{Act, ended}
use Rattle.bx_link.specs.Running.{FarRuns}
use Rattle.bx_link.specs.Runs.{FarPlace, Between, Ending}
use Rattle.bx_events.specs.declared.moment.TheConstants.{LAST_MOMENT}

-- the place after a second that is over, or does not begin any more
abbrev pub far_after_second : FarDay → Second → FarPlace
far_after_second d Passed = Between d
far_after_second d Ended = Ending d

-- a second that passes raises the moment by one
abbrev pub Rises : FarDay → FarDay → Type 0
Rises d d1 = d.moment < LAST_MOMENT → d1.moment ≡ d.moment + 1

abbrev pub FarRisesBySecond : FarDay → FarDay → Second → Type 0
FarRisesBySecond d d1 Passed = Rises d d1
FarRisesBySecond d d1 Ended = d1.moment ≡ d.moment

-- that no second begins any more was said by the world
abbrev pub IsSaid : {W : Type 0} → (W → List Act → W → Type 0) → W → W → FarDay → FarDay → Second → Type 0
IsSaid did old new d d1 Ended = (ran : FarRuns did old new (Between d) (Ending d1)) × (ended ran.acts ≡ true)
IsSaid did old new d d1 Passed = Unit {0}
