-- Journals that are ready to go on.
use Rattle.std.proofs.Common.{◌≡◌, ℕ, Bool, false, List, Option, Some, None, Result, Ok, sym, subst}
use Rattle.std.specs.Borrow.{Bor}
use Rattle.bx_day.specs.Day.{Day}
use Rattle.bx_events.specs.Events.{LiveEvent}
use Rattle.bx_journal.specs.Follows.{IsFollowed}
use Rattle.bx_journal.specs.Heads.{wanted_of}
use Rattle.bx_journal.specs.Reading.{journal_in}
use Rattle.bx_journal.specs.Logging.{IsSettled}
use Rattle.bx_journal.specs.declared.file.FileDisk.{FileDisk}
use Rattle.bx_journal.specs.declared.fault.JournalFault.{JournalFault}
use Rattle.bx_journal.specs.declared.head.Head.{Head}
use Rattle.bx_journal.specs.declared.head.Wanted.{Wanted}
use Rattle.bx_live.specs.declared.log.Log.{Log}
use Rattle.bx_day_openings.specs.Selling.{day_goes}
use Rattle.bx_journal_files.specs.Resuming.{IsFollowedBy, IsKeptOn, IsKeptBy}
use Rattle.bx_journal_files.specs.Readying.{IsReady}

-- a journal that was read whole
pub ready_on : {D : Type 0} (holds may_leave : D → List ℕ → Type 0) (head : Head) (whole : Result ℕ JournalFault) (old new : D) (w : ℕ) → whole ≡ Ok w
    → ((head : Head) (text : List ℕ) (events : List LiveEvent) → journal_in (wanted_of head) text ≡ Ok (record { events = events; whole = w }) → holds old text → IsSettled holds may_leave new head events) → IsReady holds may_leave head whole old new
ready_on holds may_leave head whole old new w is resumed = record {
  resumed = λ text events n same read held. let e : n ≡ w = cc in resumed head text events (subst (λ (k : ℕ). journal_in (wanted_of head) text ≡ Ok (record { events = events; whole = k })) e read) held;
  begun = λ text fault same held. absurd cc;
}

-- ---- how a journal was followed, and where its log is kept

pub followed_by : (head : Head) (channels : List Bool) (wanted : Wanted) (faulted : Bool) (before after : Option (List ℕ)) (opened day : Day) (whole : Result ℕ JournalFault) → wanted ≡ wanted_of head → IsFollowed (day_goes channels) faulted before after wanted opened day whole → IsFollowedBy head channels before opened day whole
followed_by head channels wanted faulted before after opened day whole same f = (faulted, after, subst (λ (w : Wanted). IsFollowed (day_goes channels) faulted before after w opened day whole) same f)

pub kept_by : {F : Type 0} (head : Head) (channels : List Bool) (before : Option (List ℕ)) (opened day : Day) (kept : Log (FileDisk F)) (o : Option (Bor (List ℕ))) (name : Bor (List ℕ)) → o ≡ Some name → IsKeptOn (λ file. None) false head channels before opened day kept → IsKeptBy head channels o opened day kept
kept_by {F = F} head channels before opened day kept o name is k = subst (λ (x : Option (Bor (List ℕ))). IsKeptBy {F = F} head channels x opened day kept) (sym is) (before, k)
