-- A day that is held open while a call is up.
use Rattle.std.specs.Prelude.{◌≡◌, ◌⊎◌, ℕ, ◌≤◌, ◌<◌, min, Bool, true, false, List, [], ◌∷◌, Result, OnOk}
use Rattle.std.specs.List.{list_any}
use Rattle.bx_day.specs.Day.{Day, is_live}
use Rattle.bx_day.specs.Outages.{live_happens, live_day_after}
use Rattle.bx_day.specs.declared.entry.Entry.{Entry}
use Rattle.bx_events.specs.declared.moment.TheConstants.{LAST_MOMENT}
use Rattle.bx_live.specs.declared.world.CannotLog.{CannotLog}
use Rattle.bx_live.specs.Acts.{Act, Began, Logged, logged_by, ended}
use Rattle.bx_live.specs.Runs.{Between, Done}
use Rattle.bx_live.specs.Running.{Runs, or_over}

-- the call of a booking is up
abbrev pub is_up : Entry → Bool
is_up e = is_live e.standing

abbrev pub has_call : Day → Bool
has_call d = list_any is_up d.entries

-- Acts from this day on: no second begins after `LAST_MOMENT`, and after the last one that was asked for one begins only while a
-- call is up, by the day as it is then.
abbrev pub AreHeld : ℕ → Day → List Act → Type 0
AreHeld last d [] = Unit {0}
AreHeld last d (Began second begin ∷ acts) = (second ≤ LAST_MOMENT) × (last < second → has_call d ≡ true) × AreHeld last d acts
AreHeld last d (Logged event true ∷ acts) = AreHeld last (live_happens d event).day acts
AreHeld last d (act ∷ acts) = AreHeld last d acts

-- the last second has come, and no call is up; or there are no more seconds
pub record IsHeldOut (last : ℕ) (d : Day) : Type 0 where
  pub reached : min last LAST_MOMENT ≤ d.moment
  pub clear : (has_call d ≡ false) ⊎ (d.moment ≡ LAST_MOMENT)

-- The day of a run that is held open is the one after just the logged events. Unless the world has said that no second begins any
-- more, it is held out
pub record IsHeldRun (last : ℕ) (d d1 : Day) (acts : List Act) (result : Result (Unit {0}) CannotLog) : Type 0 where
  pub after : d1 ≡ live_day_after (logged_by acts) d
  pub held : AreHeld last d acts
  pub out : OnOk result (ended acts ≡ false → IsHeldOut last d1)

-- the rest of a day that is held open was run
abbrev pub RunsHeld : {W : Type 0} → (W → List Act → W → Type 0) → W → W → ℕ → Day → Day → Result (Unit {0}) CannotLog → Type 0
RunsHeld did old new last d d1 result =
    (ran : Runs did old new (Between d) (or_over (Done d1) d1 result)) × IsHeldRun last d d1 ran.acts result
