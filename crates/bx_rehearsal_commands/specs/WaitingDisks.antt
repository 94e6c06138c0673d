-- A disk that waits for its one sync: what it holds is known, and of a crash before that sync nothing is said.
use Rattle.std.specs.Prelude.{◌≡◌, ℕ, Bool, List, [], Option, Some, None}
use Rattle.bx_journal.specs.Heads.{IsJournalDay}
use Rattle.bx_journal.specs.declared.head.Head.{Head}
use Rattle.bx_journal.specs.Logging.{IsSettled}
use Rattle.bx_rehearsal_commands.specs.declared.waiting.WaitingDisk.{WaitingDisk}

-- it holds what the disk inside holds
abbrev pub waiting_holds : {D : Type 0} → (D → List ℕ → Type 0) → WaitingDisk D → List ℕ → Type 0
waiting_holds holds w text = holds w.disk text

abbrev pub no_crash : {D : Type 0} → WaitingDisk D → List ℕ → Type 0
no_crash w c = ⊥

abbrev pub no_waiting_moment : {D : Type 0} → WaitingDisk D → ℕ
no_waiting_moment w = 0

abbrev pub none_left : {D : Type 0} → WaitingDisk D → ℕ → List ℕ → Type 0
none_left w t c = ⊥

-- it has failed where the disk inside has
abbrev pub waiting_failed : {D : Type 0} → (D → Bool) → WaitingDisk D → Bool
waiting_failed has_failed w = has_failed w.disk

-- a journal of this head has begun on an empty disk, where one is kept, and has no event
abbrev pub HasBegun : {D : Type 0} → (D → List ℕ → Type 0) → Head → Option D → Option (WaitingDisk D) → Type 0
HasBegun holds head None kept = kept ≡ None
HasBegun holds head (Some disk) None = ⊥
HasBegun holds head (Some disk) (Some w) = IsJournalDay head.day → holds disk [] → IsSettled (waiting_holds holds) no_crash w head []
