-- What is told of a day by its journal.
use Rattle.std.specs.Prelude.{◌≡◌, ℕ, Bool, List, Option, true}
use Rattle.std.specs.Io.KnownBytes.{Appends}
use Rattle.bx_devices.specs.declared.watched.Watched.{Watched}
use Rattle.bx_devices.specs.Octets.{AppendsPrefix}
use Rattle.bx_capture.specs.Captures.{Keeps, is_unfaulted}
use Rattle.bx_day.specs.Day.{Day}
use Rattle.bx_day.specs.Telling.{outcomes_text}
use Rattle.bx_day.specs.declared.outcome.GivenUp.{GivenUp}
use Rattle.bx_day_openings.specs.CaptureOpenings.{IsFirstOf, IsFileFor}
use Rattle.bx_events.specs.Events.{LiveEvent}
use Rattle.bx_journal.specs.Heads.{of_any_day}
use Rattle.bx_day_openings.specs.Selling.{notes_go}
use Rattle.bx_day_openings.specs.TiedDays.{IsOpeningOf}
use Rattle.bx_request.specs.declared.request.AuditRequest.{AuditRequest}
use Rattle.bx_sales.specs.GivenUps.{none_given_up}
use Rattle.bx_audit.specs.Given.{TellsNothing, GivesByName}
use Rattle.bx_audit.specs.LiveCaptures.{CapturesThrough}
use Rattle.bx_day_openings.specs.Journals.{IsJournal}
use Rattle.bx_devices.specs.Devices.{Writing, Reading}
use Rattle.bx_day_openings.specs.declared.plan_opening.DayOpening.{DayOpening}
use Rattle.bx_day_openings.specs.Replays.{IsNoReplayAsRead}
use Rattle.bx_day_openings.specs.declared.fault.DayCommandFault.{DayCommandFault}

-- the day after just the events and amendments of a journal, the file took the packets of its messages, and how bookings were given up was noted of
-- the same events
pub record IsAudited {F : Type 0} (plan : List ℕ) (channels : List Bool) (before : Option (List ℕ)) (contents : F → Option (List ℕ)) (file closed : Option (Watched F)) (first : ℕ) (opened day : Day) (given_up : List (Option GivenUp)) : Type 0 where
  pub events : List LiveEvent
  pub journal : IsJournal (of_any_day plan) before events
  pub octets : List ℕ
  pub through : CapturesThrough channels first events opened day octets
  pub kept : Keeps contents file closed octets
  pub noted : notes_go none_given_up events given_up

-- the journal that was given under its name, of the day of the plan that an input gave, was followed, and captured as the words say, and this
-- is whether all of it was captured
pub record IsDayAuditedBy {F : Type 0} (gives journals : List ℕ → Option (List ℕ) → Type 0) (contents : F → Option (List ℕ)) (request : AuditRequest) (day : Day) (given_up : List (Option GivenUp)) (is_whole : Bool) : Type 0 where
  pub opened : Day
  pub channels : List Bool
  pub digest : List ℕ
  pub opens : IsOpeningOf gives request.plan.now opened channels digest
  pub first : ℕ
  pub begins : IsFirstOf request.capture first
  pub file : Option (Watched F)
  pub file_opens : IsFileFor contents request.capture file
  pub before : Option (List ℕ)
  pub given : journals request.journal.now before
  pub closed : Option (Watched F)
  pub audited : IsAudited digest channels before contents file closed first opened day given_up
  pub whole : is_whole ≡ is_unfaulted closed

-- what became of each booking by such a journal was written
pub record IsAuditToldBy {F : Type 0} (gives journals : List ℕ → Option (List ℕ) → Type 0) (contents : F → Option (List ℕ)) (request : AuditRequest) (before after : Option (List ℕ)) (is_whole : Bool) : Type 0 where
  pub day : Day
  pub given_up : List (Option GivenUp)
  pub audit : IsDayAuditedBy gives journals contents request day given_up is_whole
  pub written : Appends before after (outcomes_text given_up day)

-- or a prefix of it
pub record IsAuditCutBy {F : Type 0} (gives journals : List ℕ → Option (List ℕ) → Type 0) (contents : F → Option (List ℕ)) (request : AuditRequest) (before after : Option (List ℕ)) : Type 0 where
  pub day : Day
  pub given_up : List (Option GivenUp)
  pub is_whole : Bool
  pub audit : IsDayAuditedBy gives journals contents request day given_up is_whole
  pub written : AppendsPrefix before after (outcomes_text given_up day)

-- the same of a journal in a file, which does not tell its octets
abbrev pub IsAuditTold : {F : Type 0} → (List ℕ → Option (List ℕ) → Type 0) → (F → Option (List ℕ)) → AuditRequest → Option (List ℕ) → Option (List ℕ) → Bool → Type 0
IsAuditTold gives contents request before after is_whole = IsAuditToldBy gives TellsNothing contents request before after is_whole

-- the file took the packets of some events and amendments, from the first on
pub record IsKeptSoFar {F : Type 0} (contents : F → Option (List ℕ)) (channels : List Bool) (file closed : Option (Watched F)) (first : ℕ) (opened : Day) : Type 0 where
  pub events : List LiveEvent
  pub day : Day
  pub octets : List ℕ
  pub through : CapturesThrough channels first events opened day octets
  pub kept : Keeps contents file closed octets

-- the same of the opening of a day
abbrev pub IsOpeningAudited : {F : Type 0} → DayOpening → Option (List ℕ) → (F → Option (List ℕ)) → Option (Watched F) → Option (Watched F) → ℕ → Day → List (Option GivenUp) → Type 0
IsOpeningAudited opening before contents file closed first = IsAudited opening.digest opening.channels before contents file closed first opening.exchange

-- what became of each booking was written, and all of the day was captured
abbrev pub IsAuditToldWhole : {F : Type 0} → (List ℕ → Option (List ℕ) → Type 0) → (F → Option (List ℕ)) → AuditRequest → Writing → Type 0
IsAuditToldWhole gives contents request output = IsAuditTold gives contents request output.before output.after true

-- the same by the file that the system has opened by the name of the journal
abbrev pub IsAuditToldByName : {F : Type 0} → (List ℕ → F → Type 0) → (F → Option (List ℕ)) → (List ℕ → Option (List ℕ) → Type 0) → (F → Option (List ℕ)) → AuditRequest → Writing → Type 0
IsAuditToldByName opens remaining gives contents request output = IsAuditToldBy gives (GivesByName opens remaining) contents request output.before output.after true

-- why the day of this opening has not gone through its journal, whatever day that is of
abbrev pub IsNotAuditedAsRead : List ℕ → DayOpening → Reading → DayCommandFault → Type 0
IsNotAuditedAsRead name opening reading = IsNoReplayAsRead name (of_any_day opening.digest) opening.channels opening.exchange reading
