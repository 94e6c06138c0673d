-- Private: what its functions promise one another.
use Rattle.std.specs.Prelude.{◌≡◌, ◌⊎◌, ℕ, Bool, true, List, Option, Some, None}
use Rattle.std.specs.Io.KnownBytes.{Appends}
use Rattle.bx_base.specs.PlanParts.{Parts, IsPlan}
use Rattle.bx_calendar.specs.declared.clock.Clock.{Clock}
use Rattle.bx_capture.specs.Captures.{is_unfaulted}
use Rattle.bx_check_commands.specs.declared.fault.CommandFault.TheVariants.{CannotWrite, Memory}
use Rattle.bx_day.specs.Day.{Day}
use Rattle.bx_day.specs.declared.entry.Entry.{Entry}
use Rattle.bx_day.specs.declared.outcome.GivenUp.{GivenUp}
use Rattle.bx_request.specs.declared.request.CaptureWords.{CaptureWords}
use Rattle.bx_day_chart.specs.Charts.{IsDayCut}
use Rattle.bx_day_chart.specs.Counting.{is_day_over}
use Rattle.bx_day_chart.specs.Sights.{Sight}
use Rattle.bx_day_openings.specs.OpeningRefusals.{IsNoOpening}
use Rattle.bx_day_openings.specs.Recording.{answer_for}
use Rattle.bx_day_openings.specs.Replays.{IsDayThrough}
use Rattle.bx_day_openings.specs.TiedDays.{IsOpeningOf}
use Rattle.bx_day_openings.specs.declared.fault.DayCommandFault.{DayCommandFault}
use Rattle.bx_day_openings.specs.declared.fault.DayCommandFault.TheVariants.{Command}
use Rattle.bx_day_openings.specs.declared.plan_opening.DayOpening.{DayOpening}
use Rattle.bx_devices.specs.Devices.{Writing, writing_of, KeepsOutput}
use Rattle.bx_devices.specs.Octets.{AppendsPrefix}
use Rattle.bx_devices.specs.declared.watched.Watched.{Watched}
use Rattle.bx_journal.specs.Heads.{of_any_day}
use Rattle.bx_planfile.specs.Text.{plan_text}
use Rattle.bx_planfile.specs.declared.version.Version.TheVariants.{Three}
use Rattle.bx_records.specs.Writing.{IsRecordsRefusal}
use Rattle.bx_records.specs.declared.fault.RecordsFault.{RecordsFault}
use Rattle.bx_audit.specs.Audits.{IsOpeningAudited}
use Rattle.bx_audit.specs.PlansOfDays.{IsPlanOfDay}
use Rattle.bx_audit.specs.Seen.{IsSeenThrough}
use Rattle.bx_audit.specs.Unrecorded.{IsNoJournalOf}

-- ---- of an audit

-- the day from this opening after just the events and amendments of a journal, and whether the file has taken all of its packets
pub record IsAuditedInto {F : Type 0} (contents : F → Option (List ℕ)) (opening : DayOpening) (before : Option (List ℕ)) (file : Option (Watched F)) (first : ℕ) (day : Day) (given_up : List (Option GivenUp)) (is_whole : Bool) : Type 0 where
  pub closed : Option (Watched F)
  pub audited : IsOpeningAudited opening before contents file closed first day given_up
  pub whole : is_whole ≡ is_unfaulted closed

-- whatever the name, this is there to read
abbrev pub GivesJust : Option (List ℕ) → List ℕ → Option (List ℕ) → Type 0
GivesJust before name text = text ≡ before

-- where there is to be a capture, this holds
abbrev pub IsReadFor : Option CaptureWords → Type 0 → Type 0
IsReadFor None P = Unit {0}
IsReadFor (Some capture) P = P

-- there is no plan that is proved, or one, and its journal is none
abbrev pub IsUnreadThrough : (List ℕ → Option (List ℕ) → Type 0) → (List ℕ → Option (List ℕ) → Type 0) → List ℕ → List ℕ → DayCommandFault → Type 0
IsUnreadThrough gives journals plan journal fault = IsNoOpening plan fault ⊎ ((opened : Day) × (channels : List Bool) × (digest : List ℕ) × IsOpeningOf gives plan opened channels digest × IsNoJournalOf journals journal digest channels opened fault)

-- ---- of records

-- from this opening on, the day after just the events and amendments of the journal that an input gave
pub record IsGivenThrough (gives : List ℕ → Option (List ℕ) → Type 0) (journal : List ℕ) (opening : DayOpening) (day : Day) : Type 0 where
  pub before : Option (List ℕ)
  pub given : gives journal before
  pub through : IsDayThrough opening.channels (of_any_day opening.digest) before opening.exchange day

-- why records were not written, or not whole
pub record AreRecordsUnwritten (clock : Option Clock) (entries : List Entry) (output : Writing) (fault : DayCommandFault) : Type 0 where
  pub cause : RecordsFault
  pub answered : fault ≡ answer_for (Command CannotWrite) cause
  pub refused : IsRecordsRefusal clock entries output cause

-- ---- of a picture

-- from this opening on, the day after just the events and amendments of the journal that an input gave, with the outages of its link
pub record IsGivenSeen (gives : List ℕ → Option (List ℕ) → Type 0) (journal : List ℕ) (opening : DayOpening) (day : Day) (sight : Sight) : Type 0 where
  pub before : Option (List ℕ)
  pub given : gives journal before
  pub through : IsSeenThrough opening.channels (of_any_day opening.digest) before opening.exchange day sight.outages
  pub over : sight.is_over ≡ is_day_over day

-- from this opening on there is no such day, or memory ran out
abbrev pub IsJournalUnseen : (List ℕ → Option (List ℕ) → Type 0) → List ℕ → DayOpening → DayCommandFault → Type 0
IsJournalUnseen gives journal opening (Command Memory) = Unit {0}
IsJournalUnseen gives journal opening fault = IsNoJournalOf gives journal opening.digest opening.channels opening.exchange fault

-- a prefix of the picture was written, and the output failed; or nothing was, and memory ran out
abbrev pub IsDayUndrawn : Day → List Bool → Sight → Option Clock → Writing → DayCommandFault → Type 0
IsDayUndrawn day channels sight clock output (Command CannotWrite) = (output.is_faulted ≡ true) × IsDayCut day channels sight clock output
IsDayUndrawn day channels sight clock output (Command Memory) = KeepsOutput output
IsDayUndrawn day channels sight clock output _ = ⊥

-- ---- of a last plan

-- the text of the last plan of a day was written
pub record IsPlanWritten (d : Day) (channels : List Bool) (output : Writing) : Type 0 where
  pub last : Parts
  pub is : IsPlanOfDay d channels last
  pub limits : IsPlan last
  pub written : Appends output.before output.after (plan_text Three last)

-- a prefix of it was, and the output failed
pub record IsLastPlanCut (d : Day) (channels : List Bool) (output : Writing) : Type 0 where
  pub last : Parts
  pub is : IsPlanOfDay d channels last
  pub faulted : output.is_faulted ≡ true
  pub written : AppendsPrefix output.before output.after (plan_text Three last)

-- so the output failed, or memory ran out before anything was written
abbrev pub IsPlanUnwritten : {W : Type 0} → Day → List Bool → (W → Option (List ℕ)) → Watched W → Watched W → DayCommandFault → Type 0
IsPlanUnwritten d channels contents old new (Command CannotWrite) = IsLastPlanCut d channels (writing_of contents old new)
IsPlanUnwritten d channels contents old new (Command Memory) = new ≡ old
IsPlanUnwritten d channels contents old new _ = ⊥
