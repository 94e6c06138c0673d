-- A rehearsal with the peer of the words.
use Rattle.std.proofs.Common.{ℕ, List, Option, ap, inl, inr, sym, subst}
use Rattle.std.specs.Borrow.{Bor}
use Rattle.bx_calendar.specs.declared.clock.Clock.{Clock}
use Rattle.bx_day.specs.Day.{Day}
use Rattle.bx_day_openings.specs.CaptureOpenings.{IsFirstOf}
use Rattle.bx_day_openings.specs.declared.recording.RecordsFile.{RecordsFile}
use Rattle.bx_devices.specs.declared.watched.Watched.{Watched}
use Rattle.bx_far.specs.FarDay.{FarDay}
use Rattle.bx_request.specs.declared.request.Peer.{Peer}
use Rattle.bx_request.specs.declared.request.RehearsalRequest.{RehearsalRequest}
use Rattle.bx_journal.specs.declared.head.Head.{Head}
use Rattle.bx_journal.specs.Files.{holds_unknown, may_leave_any, has_failed_in}
use Rattle.bx_day_openings.specs.TiedDays.{IsTiedDay}
use Rattle.bx_rehearsal_commands.specs.ReadyInside.{IsReadied, IsNotReadied}
use Rattle.bx_rehearsal_commands.specs.RehearsalRefusals.{StopsAfterPeer}
use Rattle.bx_journal_files.specs.declared.fault.LiveFault.{LiveFault}
use Rattle.bx_rehearsal_commands.specs.RehearsedDays.{Known, Stream, RanBoth, RanWith, RehearsalWith}
use Rattle.bx_world.specs.BothEnds.{IsOpening, WroteNear, GaveBoth, PartedBoth}
use Rattle.bx_world.specs.declared.both_ends.BothEnds.{BothEnds}
use Rattle.bx_rehearsal_commands.specs.Rehearsals.{RehearsesTowards}
use Rattle.bx_journal_files.specs.JournalDisks.{JournalDisk}
use Rattle.bx_day_openings.specs.declared.plan_opening.Opening.{Opening}
use Rattle.bx_rehearsal_commands.specs.declared.rehearsing.Opened.{Opened}
use Rattle.bx_rehearsal_commands.specs.declared.rehearsing.Rehearsed.{Rehearsed}

module _ {F : Type 0} (files : F → Option (List ℕ)) (request : RehearsalRequest) (opening : Opening) (first : ℕ) (opened : Opened (JournalDisk F)) (file : Option (Watched F)) (second : ℕ) (clock : Option Clock) (records : Option (RecordsFile F)) (ready : IsReadied files request opening first opened file second clock records) (begins : IsFirstOf request.sight.capture first) (opens : IsTiedDay request.turns opening.exchange opening.digest opening.turns) (rehearsed : Rehearsed (JournalDisk F)) where
  tied : IsTiedDay request.turns opened.exchange opened.head.plan opened.turns
  tied = subst (λ (n : ℕ). IsTiedDay request.turns opened.exchange opened.head.plan n) (sym ready.turns)
      (subst (λ (digest : List ℕ). IsTiedDay request.turns opened.exchange digest opening.turns) (sym (ap (λ (h : Head). h.plan) ready.head))
      (subst (λ (day : Day). IsTiedDay request.turns day opening.digest opening.turns) (sym ready.exchange) opens))

  pub with_peer : (peer : Peer) → RanWith files peer opened file second rehearsed → RehearsalWith files peer request rehearsed
  with_peer peer ran = record {
    opened = opened;
    opens = tied;
    of_rehearsal = ap (λ (h : Head). h.day) ready.head;
    is_kept = ready.disk;
    first = second;
    begins = subst (IsFirstOf request.sight.capture) (sym ready.first_is) begins;
    file = file;
    file_opens = ready.file_opens;
    ran = ran;
  }

-- a far end of the same process is met, and the day was rehearsed with it
module _ {S F : Type 0} (files : F → Option (List ℕ)) (far : FarDay) (opened : Opened (JournalDisk F)) (file : Option (Watched F)) (first : ℕ) (rehearsed : Rehearsed (JournalDisk F)) where
  pub ran_both : (remaining contents far_remaining far_contents : Known S) {near distant : Stream S} {both : BothEnds (Bor S) (Bor S) (Bor S) (Bor S)} → IsOpening near far distant both
      → RehearsesTowards (WroteNear contents) (GaveBoth remaining far_remaining far_contents) (PartedBoth contents far_remaining far_contents) holds_unknown may_leave_any has_failed_in files opened both file first rehearsed → RanBoth S files far opened file first rehearsed
  ran_both remaining contents far_remaining far_contents {near = near} {distant = distant} {both = both} opens ran =
      record { remaining = remaining; contents = contents; far_remaining = far_remaining; far_contents = far_contents; near = near; distant = distant; both = both; opens = opens; ran = ran }

-- a day that is not ready stops
pub unready : {F : Type 0} (files : F → Option (List ℕ)) (peer : Peer) (request : RehearsalRequest) (fault : LiveFault) → IsNotReadied files request fault → StopsAfterPeer files peer request fault
unready files peer request fault (inl journal) = inl journal
unready files peer request fault (inr (inl capture)) = inr (inl capture)
unready files peer request fault (inr (inr records)) = inr (inr (inl records))
