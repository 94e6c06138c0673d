-- Why nothing is told of a day by its journal, and what was written then.
use Rattle.std.specs.Prelude.{◌≡◌, ◌⊎◌, ℕ, Bool, true, false, List, Option}
use Rattle.bx_check_commands.specs.declared.fault.CommandFault.TheVariants.{CannotWrite}
use Rattle.bx_day.specs.Day.{Day}
use Rattle.bx_day_openings.specs.AtHand.{HasFirst}
use Rattle.bx_day_openings.specs.OpeningRefusals.{IsNoFirst, IsNoOpening, IsNoFile}
use Rattle.bx_day_openings.specs.declared.fault.DayCommandFault.{DayCommandFault}
use Rattle.bx_day_openings.specs.declared.fault.DayCommandFault.TheVariants.{Command}
use Rattle.bx_devices.specs.Watching.{device_of, is_faulted}
use Rattle.bx_devices.specs.declared.watched.Watched.{Watched}
use Rattle.bx_journal.specs.Heads.{of_any_day}
use Rattle.bx_request.specs.declared.request.AuditRequest.{AuditRequest}
use Rattle.bx_audit.specs.Audits.{IsAuditToldBy, IsAuditCutBy}
use Rattle.bx_audit.specs.Given.{TellsNothing, GivesByName}
use Rattle.bx_audit.specs.Unrecorded.{IsNoJournalOf}
use Rattle.bx_day_openings.specs.Replays.{IsDayThrough}
use Rattle.bx_day_openings.specs.TiedDays.{IsOpeningOf}

-- the journal that was given under this name, of the plan that the input of that name gave, whose amendments are right
abbrev pub HasJournal : (List ℕ → Option (List ℕ) → Type 0) → (List ℕ → Option (List ℕ) → Type 0) → List ℕ → List ℕ → Type 0
HasJournal gives journals plan journal =
    (opened : Day) × (channels : List Bool) × (digest : List ℕ) × IsOpeningOf gives plan opened channels digest
    × ((before : Option (List ℕ)) × journals journal before × ((day : Day) × IsDayThrough channels (of_any_day digest) before opened day))

-- why an audit stops before anything is told: what it needs is opened in this order, and what is tested first is answered; where
-- there is to be a capture, the journal is read through before the file of that is made
abbrev pub StopsAudit : (List ℕ → Option (List ℕ) → Type 0) → (List ℕ → Option (List ℕ) → Type 0) → AuditRequest → DayCommandFault → Type 0
StopsAudit gives journals request fault =
    IsNoFirst request.capture fault
    ⊎ (HasFirst request.capture × IsNoOpening request.plan.now fault)
    ⊎ (HasFirst request.capture × ((opened : Day) × (channels : List Bool) × (digest : List ℕ) × IsOpeningOf gives request.plan.now opened channels digest × IsNoJournalOf journals request.journal.now digest channels opened fault))
    ⊎ (HasFirst request.capture × HasJournal gives journals request.plan.now request.journal.now × IsNoFile request.capture fault)

-- the output has failed, and a prefix of what was to be told was; or the audit stopped, and the output is as it was; or all was
-- told, and the file of its capture was not written whole
abbrev pub IsAuditRefusalBy : {F W : Type 0} → (List ℕ → Option (List ℕ) → Type 0) → (List ℕ → Option (List ℕ) → Type 0) → AuditRequest → (F → Option (List ℕ)) → (W → Option (List ℕ)) → Watched W → Watched W → DayCommandFault → Type 0
IsAuditRefusalBy gives journals request files contents old new (Command CannotWrite) = (is_faulted new ≡ true) × IsAuditCutBy gives journals files request (contents (device_of old)) (contents (device_of new))
IsAuditRefusalBy gives journals request files contents old new fault =
    (StopsAudit gives journals request fault × (new ≡ old)) ⊎ (IsAuditToldBy gives journals files request (contents (device_of old)) (contents (device_of new)) false × IsNoFile request.capture fault)

-- the same of a journal in a file, which does not tell its octets
abbrev pub IsAuditRefusal : {F W : Type 0} → (List ℕ → Option (List ℕ) → Type 0) → AuditRequest → (F → Option (List ℕ)) → (W → Option (List ℕ)) → Watched W → Watched W → DayCommandFault → Type 0
IsAuditRefusal gives request files contents old new fault = IsAuditRefusalBy gives TellsNothing request files contents old new fault

-- the same of the file that the system has opened by the name of the journal
abbrev pub IsAuditRefusalByName : {F W : Type 0} → (List ℕ → F → Type 0) → (F → Option (List ℕ)) → (List ℕ → Option (List ℕ) → Type 0) → AuditRequest → (F → Option (List ℕ)) → (W → Option (List ℕ)) → Watched W → Watched W → DayCommandFault → Type 0
IsAuditRefusalByName opens remaining gives request files contents old new fault = IsAuditRefusalBy gives (GivesByName opens remaining) request files contents old new fault
