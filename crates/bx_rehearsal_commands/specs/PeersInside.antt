-- Private: a day that is rehearsed with a peer, by what its words say of its time.
use Rattle.std.specs.Prelude.{◌⊎◌, ℕ, List, Option}
use Rattle.std.specs.Borrow.{Bor}
use Rattle.bx_calendar.specs.declared.clock.Clock.{Clock}
use Rattle.bx_day_openings.specs.CaptureOpenings.{IsFirstOf}
use Rattle.bx_day_openings.specs.OpeningRefusals.{IsUnheard, IsUnconnected}
use Rattle.bx_day_openings.specs.Recording.{IsRecordsClock}
use Rattle.bx_day_openings.specs.TiedDays.{IsTiedDay}
use Rattle.bx_day_openings.specs.declared.fault.DayCommandFault.{DayCommandFault}
use Rattle.bx_day_openings.specs.declared.plan_opening.Opening.{Opening}
use Rattle.bx_request.specs.declared.request.Peer.{Peer}
use Rattle.bx_request.specs.declared.request.RehearsalRequest.{RehearsalRequest}
use Rattle.bx_journal_files.specs.JournalDisks.{JournalDisk}
use Rattle.bx_journal_files.specs.OpeningFaults.{OfOpening, IsUnlogged}
use Rattle.bx_rehearsal_commands.specs.RehearsalRefusals.{StopsAtPeer, StopsAfterPeer}
use Rattle.bx_rehearsal_commands.specs.RehearsedDays.{RehearsalWith}
use Rattle.bx_journal_files.specs.declared.fault.LiveFault.{LiveFault}
use Rattle.bx_rehearsal_commands.specs.declared.rehearsing.Rehearsed.{Rehearsed}

-- where this is the first second of the capture, and the opening that of a tied day, the day was rehearsed with this peer
abbrev pub IsRehearsedFrom : {F : Type 0} → (F → Option (List ℕ)) → Peer → RehearsalRequest → ℕ → Opening → Rehearsed (JournalDisk F) → Type 0
IsRehearsedFrom files peer request first opening rehearsed =
    IsFirstOf request.sight.capture first →
    IsTiedDay request.turns opening.exchange opening.digest opening.turns →
    RehearsalWith files peer request rehearsed

-- where this is the clock of the records, this is why the day stops, from the opening of its peer on
abbrev pub StopsAtPeerByClock : {F : Type 0} → (F → Option (List ℕ)) → Peer → RehearsalRequest → Option Clock → LiveFault → Type 0
StopsAtPeerByClock files peer request clock fault = IsRecordsClock request.records clock → StopsAtPeer files peer request fault

-- the same once its peer is opened
abbrev pub StopsAfterPeerByClock : {F : Type 0} → (F → Option (List ℕ)) → Peer → RehearsalRequest → Option Clock → LiveFault → Type 0
StopsAfterPeerByClock files peer request clock fault = IsRecordsClock request.records clock → StopsAfterPeer files peer request fault

-- two ends in this process have no connection
abbrev pub IsUnmetHere : DayCommandFault → Type 0
IsUnmetHere fault = IsUnheard fault ⊎ IsUnconnected fault

-- why a day that is ready stops: its peer is not met, or an event cannot be logged
abbrev pub StopsMeeting : (DayCommandFault → Type 0) → Option (Bor (List ℕ)) → LiveFault → Type 0
StopsMeeting unmet journal fault = OfOpening unmet fault ⊎ IsUnlogged journal fault
