-- Private: a run of a day to its end.
use Rattle.std.specs.Prelude.{◌≡◌, ℕ, max, min, false, List}
use Rattle.bx_day.specs.Day.{Day}
use Rattle.bx_day.specs.Outages.{live_day_after}
use Rattle.bx_live.specs.Acts.{Act, logged_by, ended}
use Rattle.bx_live.specs.Runs.{Between, Done, IsRun}
use Rattle.bx_events.specs.declared.moment.TheConstants.{LAST_MOMENT}

-- these acts are a live run of a day from here to its end, up to so many turns
pub record IsWholeRun (turns : ℕ) (from to : Day) (acts : List Act) : Type 0 where
  pub run : IsRun (Between from) acts (Done to)
  pub after : to ≡ live_day_after (logged_by acts) from
  pub reached : ended acts ≡ false → to.moment ≡ max from.moment (min turns LAST_MOMENT)
