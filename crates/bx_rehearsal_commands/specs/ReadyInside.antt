-- Private: what a rehearsal runs over, and how it ends.
use Rattle.std.specs.Prelude.{◌≡◌, ◌⊎◌, ℕ, is_some, List, Option, Some, None}
use Rattle.bx_calendar.specs.declared.clock.Clock.{Clock}
use Rattle.bx_day_openings.specs.AtHand.{HasFile}
use Rattle.bx_day_openings.specs.CaptureOpenings.{IsFileFor}
use Rattle.bx_day_openings.specs.OpeningRefusals.{IsNoFile}
use Rattle.bx_day_openings.specs.Recording.{IsRecordsFileFor, IsNoRecordsFile}
use Rattle.bx_day_openings.specs.declared.fault.DayCommandFault.TheVariants.{Link}
use Rattle.bx_day_openings.specs.declared.recording.RecordsFile.{RecordsFile}
use Rattle.bx_devices.specs.declared.watched.Watched.{Watched}
use Rattle.bx_frames.specs.declared.fault.LinkFault.{LinkFault}
use Rattle.bx_request.specs.declared.request.RehearsalRequest.{RehearsalRequest}
use Rattle.bx_journal_files.specs.OpeningFaults.{OfOpening}
use Rattle.bx_journal_files.specs.NewJournals.{HasNoNewJournal}
use Rattle.bx_journal_files.specs.JournalDisks.{JournalDisk}
use Rattle.bx_journal_files.specs.declared.fault.LiveFault.{LiveFault}
use Rattle.bx_journal_files.specs.declared.fault.LiveFault.TheVariants.{Day as OfDay}
use Rattle.bx_journal.specs.declared.head.Head.{Head}
use Rattle.bx_journal.specs.declared.head.JournalDay.TheVariants as days
use Rattle.bx_day_openings.specs.declared.plan_opening.Opening.{Opening}
use Rattle.bx_rehearsal_commands.specs.declared.rehearsing.Opened.{Opened}
use Rattle.bx_rehearsal_commands.specs.declared.rehearsing.Rehearsed.{Rehearsed}
use Rattle.bx_rehearsal_commands.specs.declared.telling.Ended.{Ended}

-- what the journal of a rehearsal is of
abbrev pub rehearsed_head : List ℕ → Head
rehearsed_head digest = record { plan = digest; day = days.Rehearsed }

-- the day of this opening, with the disk of its journal, where one is named, and the files of its capture and its records
pub record IsReadied {F : Type 0} (files : F → Option (List ℕ)) (request : RehearsalRequest) (opening : Opening) (first : ℕ) (opened : Opened (JournalDisk F)) (file : Option (Watched F)) (second : ℕ) (clock : Option Clock) (records : Option (RecordsFile F)) : Type 0 where
  pub exchange : opened.exchange ≡ opening.exchange
  pub head : opened.head ≡ rehearsed_head opening.digest
  pub turns : opened.turns ≡ opening.turns
  pub disk : is_some opened.disk ≡ is_some request.journal
  pub first_is : second ≡ first
  pub file_opens : IsFileFor files request.sight.capture file
  pub records_open : IsRecordsFileFor request.records clock records

abbrev pub IsNotReadied : {F : Type 0} → (F → Option (List ℕ)) → RehearsalRequest → LiveFault → Type 0
IsNotReadied files request fault =
    HasNoNewJournal request.journal fault
    ⊎ OfOpening (IsNoFile request.sight.capture) fault
    ⊎ (HasFile files request.sight.capture × OfOpening (IsNoRecordsFile request.records) fault)

-- its link was not lost
pub record IsEnded {D F : Type 0} (rehearsed : Rehearsed D) (records : Option (RecordsFile F)) (ended : Ended F) : Type 0 where
  pub unlost : rehearsed.lost ≡ None
  pub day_is : ended.exchange ≡ rehearsed.exchange
  pub whole_is : ended.is_whole ≡ rehearsed.is_whole
  pub records_are : ended.records ≡ records

abbrev pub IsLostBy : Option LinkFault → LiveFault → Type 0
IsLostBy lost (OfDay (Link fault)) = lost ≡ Some fault
IsLostBy lost fault = ⊥
