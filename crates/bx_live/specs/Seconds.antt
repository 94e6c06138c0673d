-- How a second of a run ends.
use Rattle.std.specs.Prelude.{◌≡◌, ℕ, ◌+◌, ◌<◌, true, List, ◌∷◌, Result, Ok, Err, false, min, max, OnOk}
use Rattle.bx_day.specs.Day.{Day}
use Rattle.bx_live.specs.declared.world.CannotLog.{CannotLog}
use Rattle.bx_live.specs.declared.world.Begin.{Begin}
use Rattle.bx_live.specs.declared.running.Second.{Second}
use Rattle.bx_live.specs.declared.running.Second.TheVariants.{Passed, Ended}
use Rattle.bx_live.specs.Acts.{Act, Began, ended, begins_none, logged_by}
use Rattle.bx_live.specs.Running.{Runs, or_over}
use Rattle.bx_live.specs.Runs.{Place, Between, Over, Closing, Done}
use Rattle.bx_events.specs.declared.moment.TheConstants.{LAST_MOMENT}
use Rattle.bx_day.specs.Outages.{live_day_after}

-- the place after a second that is over, or does not begin any more; or after one that could not be logged
abbrev pub after_second : Day → Result Second CannotLog → Place
after_second d (Ok Passed) = Between d
after_second d (Ok Ended) = Closing d
after_second d (Err _) = Over d

abbrev pub RisesBySecond : Day → Day → Result Second CannotLog → Type 0
RisesBySecond d d1 (Ok Passed) = d.moment < LAST_MOMENT → d1.moment ≡ d.moment + 1
RisesBySecond d d1 (Ok Ended) = d1.moment ≡ d.moment
RisesBySecond d d1 (Err _) = Unit {0}

-- the acts of one second: it begins, and no other does
pub record IsOneSecond (moment : ℕ) (acts : List Act) : Type 0 where
  pub begin : Begin
  pub following : List Act
  pub are : acts ≡ Began (moment + 1) begin ∷ following
  pub one : begins_none following ≡ true

-- A second of a run was waited for, and the run has gone through it. That no second begins any more was said by the world
pub record IsSecondRun {W : Type 0} (did : W → List Act → W → Type 0) (old new : W) (d d1 : Day) (result : Result Second CannotLog) : Type 0 where
  pub run : Runs did old new (Between d) (after_second d1 result)
  pub one : IsOneSecond d.moment run.acts
  pub said : result ≡ Ok Ended → ended run.acts ≡ true

-- A day was run up to a second of it, and is the one after the logged events. Unless the world has said that no second begins any more,
-- it has come to that second
abbrev pub RunsUpTo : {W : Type 0} → (W → List Act → W → Type 0) → W → W → ℕ → Day → Day → Result (Unit {0}) CannotLog → Type 0
RunsUpTo did old new last d d1 result =
    (ran : Runs did old new (Between d) (or_over (Done d1) d1 result))
    × (d1 ≡ live_day_after (logged_by ran.acts) d)
    × OnOk result (ended ran.acts ≡ false → d1.moment ≡ max d.moment (min last LAST_MOMENT))
