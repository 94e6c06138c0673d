-- A rehearsal that was told, or not whole.
use Rattle.std.proofs.Common.{◌≡◌, ◌⊎◌, ◌∙◌, ℕ, Bool, true, List, Option, Some, None, Ok, inl, inr, refl, subst}
use Rattle.std.specs.Borrow.{Bor}
use Rattle.bx_check_commands.specs.declared.fault.CommandFault.TheVariants as commands
use Rattle.bx_day_openings.specs.Recording.{IsMade}
use Rattle.bx_day_openings.specs.declared.fault.DayCommandFault.TheVariants.{Command, Link}
use Rattle.bx_devices.specs.Devices.{writing_of}
use Rattle.bx_devices.specs.Watching.{device_of}
use Rattle.bx_devices.specs.declared.watched.Watched.{Watched}
use Rattle.bx_request.specs.declared.request.Peer.{Peer}
use Rattle.bx_request.specs.declared.request.Peer.TheVariants.{Script, At}
use Rattle.bx_request.specs.declared.request.Place.TheVariants.{Port, Socket}
use Rattle.bx_request.specs.declared.request.RehearsalRequest.{RehearsalRequest}
use Rattle.bx_rehearsal_commands.specs.RehearsedDays.{RehearsalWith, IsRehearsedDay, IsRehearsalTold}
use Rattle.bx_journal_files.specs.NewJournals.{HasNoNewJournal}
use Rattle.bx_rehearsal_commands.specs.ReadyInside.{IsLostBy}
use Rattle.bx_rehearsal_commands.specs.RehearsalRefusals.{IsNoPeer, IsUnmet, StopsAfterPeer, StopsRehearsal, IsRehearsalRefusal}
use Rattle.bx_rehearsal_commands.specs.Telling.{IsToldWhole, IsNotToldWhole}
use Rattle.bx_journal_files.specs.JournalDisks.{JournalDisk}
use Rattle.bx_journal_files.specs.declared.fault.LiveFault.{LiveFault}
use Rattle.bx_journal_files.specs.declared.fault.LiveFault.TheVariants.{Day as OfDay}
use Rattle.bx_rehearsal_commands.specs.declared.rehearsing.Rehearsed.{Rehearsed}
use Rattle.bx_rehearsal_commands.specs.declared.telling.Ended.{Ended}
use Rattle.bx_journal_files.proofs.NoOutput.{no_output}
use Rattle.bx_rehearsal_commands.proofs.Refused.{whole_run_kept, no_clock}

whole_with : {F : Type 0} (files : F → Option (List ℕ)) (peer : Peer) (request : RehearsalRequest) (rehearsed : Rehearsed (JournalDisk F)) → RehearsalWith files peer request rehearsed → (rehearsed.is_whole ≡ true) ⊎ (request.sight.capture ≡ None) → rehearsed.is_whole ≡ true
whole_with files (Script script) request rehearsed r all = let day = r.ran.2.ran.day in whole_run_kept files request.sight.capture r.file _ _ rehearsed.is_whole r.file_opens day.captured all
whole_with files (At (Port port)) request rehearsed r all = let day = r.ran.2.1.day in whole_run_kept files request.sight.capture r.file _ _ rehearsed.is_whole r.file_opens day.captured all
whole_with files (At (Socket path)) request rehearsed r all = let day = r.ran.2.1.day in whole_run_kept files request.sight.capture r.file _ _ rehearsed.is_whole r.file_opens day.captured all

module _ {F W : Type 0} (files : F → Option (List ℕ)) (request : RehearsalRequest) (contents : W → Option (List ℕ)) (old new : Watched W) (ended : Ended F) (ran : IsRehearsedDay files request ended.exchange ended.is_whole) (made : IsMade request.records ended.records) where
  whole_day : (ended.is_whole ≡ true) ⊎ (request.sight.capture ≡ None) → ended.is_whole ≡ true
  whole_day all = ran.whole_is ∙ whole_with files request.peer request ran.rehearsed ran.ran (subst (λ (b : Bool). (b ≡ true) ⊎ (request.sight.capture ≡ None)) ran.whole_is all)

  pub rehearsal_told : IsToldWhole files request.sight.capture ended (writing_of contents old new) → IsRehearsalTold files request (contents (device_of old)) (contents (device_of new)) true (Ok tt)
  rehearsal_told told = record {
    day = ended.exchange;
    ran = subst (IsRehearsedDay files request ended.exchange) (whole_day told.kept.0) ran;
    written = told.told.written;
    records = record { file = ended.records; made = made; ends = told.told.records };
  }

  pub rehearsal_refused : (fault : LiveFault) → IsNotToldWhole files request.sight.capture ended (writing_of contents old new) fault → IsRehearsalRefusal files request contents old new fault
  rehearsal_refused (OfDay (Command commands.CannotWrite)) cut =
      (cut.faulted, record { day = ended.exchange; is_whole = ended.is_whole; ran = ran; written = cut.written; recorded = cut.recorded; records = record { file = ended.records; made = made; ends = cut.records } })
  rehearsal_refused (OfDay fault) cut = inr (record {
    is_whole = ended.is_whole;
    recorded = cut.recorded;
    told = record { day = ended.exchange; ran = ran; written = cut.told.written; records = record { file = ended.records; made = made; ends = cut.told.records } };
    unkept = cut.unkept;
  })
  rehearsal_refused fault cut = absurd cut

-- ---- a rehearsal that stopped did not fail by its output

no_peer : (peer : Peer) → IsNoPeer peer (Command commands.CannotWrite) → ⊥
no_peer (Script script) none = none
no_peer (At place) none = none

met : (peer : Peer) → IsUnmet peer (Command commands.CannotWrite) → ⊥
met (Script script) (inl unheard) = unheard
met (Script script) (inr unconnected) = unconnected
met (At place) unheard = unheard

no_journal : (name : Option (Bor (List ℕ))) → HasNoNewJournal name (OfDay (Command commands.CannotWrite)) → ⊥
no_journal None none = none
no_journal (Some name) none = none

module _ {F : Type 0} (files : F → Option (List ℕ)) (request : RehearsalRequest) where
  after_writes : (peer : Peer) → StopsAfterPeer files peer request (OfDay (Command commands.CannotWrite)) → ⊥
  after_writes peer (inl journal) = no_journal request.journal journal
  after_writes peer (inr (inl file)) = file
  after_writes peer (inr (inr (inl (has, records)))) = records
  after_writes peer (inr (inr (inr (has, there, inl unmet)))) = met peer unmet
  after_writes peer (inr (inr (inr (has, there, inr unkept)))) = no_output request.journal unkept

  writes : StopsRehearsal files request (OfDay (Command commands.CannotWrite)) → ⊥
  writes (inl (inl first)) = first
  writes (inl (inr (has, clock))) = no_clock request.records clock
  writes (inr (inl (has, clock, plan))) = plan
  writes (inr (inr (inl (has, clock, tied, inl peer)))) = no_peer request.peer peer
  writes (inr (inr (inl (has, clock, tied, inr (there, following))))) = after_writes request.peer following
  writes (inr (inr (inr lost))) = lost

  pub rehearsal_stopped : {W : Type 0} (contents : W → Option (List ℕ)) (output : Watched W) (fault : LiveFault) → StopsRehearsal files request fault → IsRehearsalRefusal files request contents output output fault
  rehearsal_stopped contents output (OfDay (Command commands.CannotWrite)) stops = absurd (writes stops)
  rehearsal_stopped contents output fault stops = inl (stops, refl)

  -- a link was lost
  pub lost_rehearsal : (rehearsed : Rehearsed (JournalDisk F)) → RehearsalWith files request.peer request rehearsed → (fault : LiveFault) → IsLostBy rehearsed.lost fault → StopsRehearsal files request fault
  lost_rehearsal rehearsed ran (OfDay (Link fault)) is = inr (inr (inr (rehearsed, ran, is)))
  lost_rehearsal rehearsed ran fault is = absurd is
