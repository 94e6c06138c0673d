-- Why a day is not rehearsed, and what was written then.
use Rattle.std.specs.Prelude.{◌≡◌, ◌⊎◌, ⊤, ℕ, Bool, true, List, Option, Some, Result}
use Rattle.bx_check_commands.specs.declared.fault.CommandFault.TheVariants.{CannotWrite}
use Rattle.bx_day.specs.Day.{Day}
use Rattle.bx_day_openings.specs.AtHand.{HasFirst, HasFarEnd, HasFile}
use Rattle.bx_day_openings.specs.Recording.{HasRecordsClock, HasRecordsFile, IsNoRecordsClock, IsNoRecordsFile, IsUnkept as IsNotKept}
use Rattle.bx_day_openings.specs.OpeningRefusals.{IsNoFirst, IsNoOpening, IsNoFarEnd, IsNoFile, IsUnheard, IsUnconnected}
use Rattle.bx_day_openings.specs.declared.fault.DayCommandFault.{DayCommandFault}
use Rattle.bx_day_openings.specs.declared.fault.DayCommandFault.TheVariants.{Command, Link}
use Rattle.bx_devices.specs.Watching.{device_of, is_faulted}
use Rattle.bx_devices.specs.declared.watched.Watched.{Watched}
use Rattle.bx_request.specs.declared.request.Peer.{Peer}
use Rattle.bx_request.specs.declared.request.Peer.TheVariants.{Script, At}
use Rattle.bx_request.specs.declared.request.RehearsalRequest.{RehearsalRequest}
use Rattle.bx_day_openings.specs.TiedDays.{IsTiedDay}
use Rattle.bx_journal_files.specs.OpeningFaults.{OfOpening, IsUnlogged}
use Rattle.bx_journal_files.specs.NewJournals.{HasNoNewJournal}
use Rattle.bx_rehearsal_commands.specs.RehearsedDays.{IsRehearsal, IsRehearsalTold, IsRehearsalCut}
use Rattle.bx_journal_files.specs.JournalDisks.{JournalDisk}
use Rattle.bx_journal_files.specs.declared.fault.LiveFault.{LiveFault}
use Rattle.bx_journal_files.specs.declared.fault.LiveFault.TheVariants.{Day as OfDay}
use Rattle.bx_rehearsal_commands.specs.declared.rehearsing.Rehearsed.{Rehearsed}

-- the exchange is at hand, with the digest of its plan
abbrev pub HasTiedDay : Option ℕ → Type 0
HasTiedDay asked = (opened : Day) × (digest : List ℕ) × (turns : ℕ) × IsTiedDay asked opened digest turns

-- a far end of the same process is opened with the exchange; another one comes later
abbrev pub IsNoPeer : Peer → DayCommandFault → Type 0
IsNoPeer (Script script) fault = IsNoFarEnd script.now fault
IsNoPeer (At place) fault = ⊥

abbrev pub HasPeer : Peer → Type 0
HasPeer (Script script) = HasFarEnd
HasPeer (At place) = ⊤

-- they have no connection
abbrev pub IsUnmet : Peer → DayCommandFault → Type 0
IsUnmet (Script script) fault = IsUnheard fault ⊎ IsUnconnected fault
IsUnmet (At place) fault = IsUnheard fault

-- the day was rehearsed until its link had this fault
abbrev pub IsLost : {F : Type 0} → (F → Option (List ℕ)) → RehearsalRequest → LiveFault → Type 0
IsLost {F = F} files request (OfDay (Link fault)) = (rehearsed : Rehearsed (JournalDisk F)) × IsRehearsal files request rehearsed × (rehearsed.lost ≡ Some fault)
IsLost files request fault = ⊥

-- why a day whose ends are opened stops: what it needs is opened in this order, and what is tested first is answered
abbrev pub StopsAfterPeer : {F : Type 0} → (F → Option (List ℕ)) → Peer → RehearsalRequest → LiveFault → Type 0
StopsAfterPeer {F = F} files peer request fault =
    HasNoNewJournal request.journal fault
    ⊎ OfOpening (IsNoFile request.sight.capture) fault
    ⊎ (HasFile files request.sight.capture × OfOpening (IsNoRecordsFile request.records) fault)
    ⊎ (HasFile files request.sight.capture × HasRecordsFile F request.records × (OfOpening (IsUnmet peer) fault ⊎ IsUnlogged request.journal fault))

abbrev pub StopsAtPeer : {F : Type 0} → (F → Option (List ℕ)) → Peer → RehearsalRequest → LiveFault → Type 0
StopsAtPeer files peer request fault = OfOpening (IsNoPeer peer) fault ⊎ (HasPeer peer × StopsAfterPeer files peer request fault)

-- the date and the zone of the capture name no day that it can have, or those of the records none; the capture's are tested first
abbrev pub IsUnseen : RehearsalRequest → DayCommandFault → Type 0
IsUnseen request fault = IsNoFirst request.sight.capture fault ⊎ (HasFirst request.sight.capture × IsNoRecordsClock request.records fault)

abbrev pub StopsRehearsal : {F : Type 0} → (F → Option (List ℕ)) → RehearsalRequest → LiveFault → Type 0
StopsRehearsal files request fault =
    OfOpening (IsUnseen request) fault
    ⊎ (HasFirst request.sight.capture × HasRecordsClock request.records × OfOpening (IsNoOpening request.plan.now) fault)
    ⊎ (HasFirst request.sight.capture × HasRecordsClock request.records × HasTiedDay request.turns × StopsAtPeer files request.peer request fault)
    ⊎ IsLost files request fault

-- all was told, but the capture or the records were not written whole
pub record IsRehearsalUnwhole {F : Type 0} (files : F → Option (List ℕ)) (request : RehearsalRequest) (before after : Option (List ℕ)) (fault : LiveFault) : Type 0 where
  pub is_whole : Bool
  pub recorded : Result (Unit {0}) DayCommandFault
  pub told : IsRehearsalTold files request before after is_whole recorded
  pub unkept : OfOpening (IsNotKept request.sight.capture is_whole recorded) fault

-- the output has failed, and a prefix of what was to be told was; or the day stopped, and the output is as it was; or all was told,
-- and the file of its capture or of its records was not written whole
abbrev pub IsRehearsalRefusal : {F W : Type 0} → (F → Option (List ℕ)) → RehearsalRequest → (W → Option (List ℕ)) → Watched W → Watched W → LiveFault → Type 0
IsRehearsalRefusal files request contents old new (OfDay (Command CannotWrite)) = (is_faulted new ≡ true) × IsRehearsalCut files request (contents (device_of old)) (contents (device_of new))
IsRehearsalRefusal files request contents old new fault =
    (StopsRehearsal files request fault × (new ≡ old)) ⊎ IsRehearsalUnwhole files request (contents (device_of old)) (contents (device_of new)) fault
