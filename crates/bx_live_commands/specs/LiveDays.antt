-- A live day of a plan, and what is told of it.
use Rattle.std.specs.Prelude.{◌≡◌, ◌&&◌, ◌-◌, ℕ, max, Bool, true, false, List, Option, None, Some, is_some, unwrap_or}
use Rattle.std.specs.Io.KnownBytes.{Appends}
use Rattle.bx_calendar.specs.DayParts.{length_of}
use Rattle.bx_calls.specs.Timers.{clearing_time}
use Rattle.bx_day.specs.Day.{Day}
use Rattle.bx_day.specs.declared.entry.Entry.{Entry}
use Rattle.bx_day.specs.declared.outcome.GivenUp.{GivenUp}
use Rattle.bx_day.specs.Telling.{outcomes_text}
use Rattle.bx_day_openings.specs.Hours.{AreHours}
use Rattle.bx_day_openings.specs.declared.hours.Hours.{Hours}
use Rattle.bx_devices.specs.Octets.{AppendsPrefix}
use Rattle.bx_journal.specs.declared.file.FileDisk.{FileDisk}
use Rattle.bx_day_openings.specs.Openings.{AreDayTurns}
use Rattle.bx_day_openings.specs.TiedDays.{IsTiedOpening}
use Rattle.bx_line_world.specs.declared.udp.UdpWire.{UdpWire}
use Rattle.bx_line_world.specs.Wires.{did_on}
use Rattle.bx_live.specs.Held.{has_call}
use Rattle.bx_events.specs.declared.moment.TheConstants.{LAST_MOMENT}
use Rattle.bx_live.specs.declared.log.Log.{Log}
use Rattle.bx_request.specs.declared.request.LiveRequest.{LiveRequest}
use Rattle.bx_live_commands.specs.Heads.{live_head}
use Rattle.bx_journal.specs.Files.{holds_unknown, may_leave_any, no_moment, any_since, has_failed_in}
use Rattle.bx_live_commands.specs.OfficeRuns.{RunsOn, StopsOn}
use Rattle.bx_journal_files.specs.declared.named_file.NamedFile.{NamedFile}
use Rattle.bx_journal_files.specs.Resuming.{GoesOnBy, IsKeptBy, IsNotedBy}

-- a booking office stands at the day that the words want: nothing is sold outside the journal, so there is none without a journal
abbrev pub has_office : LiveRequest → Bool
has_office request = is_some request.office && is_some request.journal

-- the least seconds of a live day: where an office is open it is so all day
abbrev pub least_turns : Bool → ℕ → ℕ
least_turns true length = length
least_turns false length = 1

-- How many seconds a live day has that goes on from here: as many as were asked for, or up to the end of the last of its accepted bookings, and where an
-- office is open to the end of its date: what is up then is cleared in the seconds that go on while a call is up.
abbrev pub AreLiveTurns : Bool → Option ℕ → ℕ → List Entry → ℕ → Type 0
AreLiveTurns is_open None length entries turns = (least : ℕ) × AreDayTurns None entries least × (turns ≡ max (least - clearing_time) (least_turns is_open length))
AreLiveTurns is_open (Some asked) length entries turns = AreDayTurns (Some asked) entries turns

-- a plan was read and proved, and the day's hours are those of the words
pub record IsAtHand (request : LiveRequest) : Type 0 where
  pub hours : Hours
  pub are_hours : AreHours request.hours hours
  pub opened : Day
  pub channels : List Bool
  pub digest : List ℕ
  pub opens : IsTiedOpening opened channels digest

-- The day of such a plan after the events and sales of its journal. Where there is a journal it was that of this plan on this day, all of it was read, and
-- what happens is logged in just this journal, which has told how bookings were given up before.
pub record IsGoingOn (H F : Type 0) (request : LiveRequest) : Type 0 where
  pub at_hand : IsAtHand request
  pub resumed : Day
  pub kept : Log (FileDisk (NamedFile H F))
  pub goes_on : GoesOnBy (live_head at_hand.digest at_hand.hours) at_hand.channels request.journal at_hand.opened resumed
  pub is_kept : IsKeptBy (live_head at_hand.digest at_hand.hours) at_hand.channels request.journal at_hand.opened resumed kept
  pub given_up : List (Option GivenUp)
  pub noted : IsNotedBy (live_head at_hand.digest at_hand.hours) at_hand.channels request.journal at_hand.opened resumed given_up

-- That day after a live run too, on which an office sells where there is one, to the turn that was asked for, or that its accepted bookings need by then;
-- the run goes by the hours of the words. How its bookings were given up is told by all of its journal: by what was read of it, and by what
-- was logged since.
pub record IsLiveDay {F : Type 0} (H : Type 0) (files : F → Option (List ℕ)) (request : LiveRequest) (day : Day) (told : List (Option GivenUp)) : Type 0 where
  pub going : IsGoingOn H F request
  pub turns : ℕ
  pub are_turns : AreLiveTurns (has_office request) request.turns (length_of going.at_hand.hours.day) going.resumed.entries turns
  pub wire : UdpWire H
  pub ran : RunsOn (has_office request) did_on holds_unknown may_leave_any no_moment any_since has_failed_in wire going.at_hand.hours.schedule going.kept going.at_hand.channels going.at_hand.hours.day (unwrap_or request.rate 0) turns going.resumed day going.given_up told

-- Or such a run was over before its end, and why: the disk of the journal has failed, or what came is no event of a journal.
pub record IsLiveStopped (H F : Type 0) (request : LiveRequest) : Type 0 where
  pub going : IsGoingOn H F request
  pub turns : ℕ
  pub wire : UdpWire H
  pub stopped : StopsOn (has_office request) did_on holds_unknown may_leave_any no_moment any_since has_failed_in wire going.at_hand.hours.schedule going.kept going.at_hand.channels going.at_hand.hours.day (unwrap_or request.rate 0) turns going.resumed

-- what became of each booking of such a day was written, and no call is up
pub record IsLiveTold {F : Type 0} (H : Type 0) (files : F → Option (List ℕ)) (request : LiveRequest) (before after : Option (List ℕ)) : Type 0 where
  pub day : Day
  pub told : List (Option GivenUp)
  pub live : IsLiveDay H files request day told
  pub clear : has_call day ≡ false
  pub written : Appends before after (outcomes_text told day)

-- or it was written, and the day has no more seconds in which its calls can be cleared
pub record IsLiveUp {F : Type 0} (H : Type 0) (files : F → Option (List ℕ)) (request : LiveRequest) (before after : Option (List ℕ)) : Type 0 where
  pub day : Day
  pub told : List (Option GivenUp)
  pub live : IsLiveDay H files request day told
  pub up : has_call day ≡ true
  pub last : day.moment ≡ LAST_MOMENT
  pub written : Appends before after (outcomes_text told day)

-- or a prefix of it was
pub record IsLiveCut {F : Type 0} (H : Type 0) (files : F → Option (List ℕ)) (request : LiveRequest) (before after : Option (List ℕ)) : Type 0 where
  pub day : Day
  pub told : List (Option GivenUp)
  pub live : IsLiveDay H files request day told
  pub written : AppendsPrefix before after (outcomes_text told day)
