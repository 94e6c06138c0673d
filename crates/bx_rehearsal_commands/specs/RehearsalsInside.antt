-- Private: how the journal of a rehearsal is put away.
use Rattle.std.specs.Prelude.{◌≡◌, ℕ, List, Option, Some, None}
use Rattle.bx_journal.specs.Disk.{Only}
use Rattle.bx_rehearsal_commands.specs.declared.waiting.WaitingDisk.{WaitingDisk}

-- from then on each crash leaves what it holds
abbrev pub IsPutAway : {D : Type 0} → (D → List ℕ → Type 0) → (D → List ℕ → Type 0) → Option (WaitingDisk D) → Option D → Type 0
IsPutAway holds may_leave None closed = closed ≡ None
IsPutAway holds may_leave (Some w) None = ⊥
IsPutAway holds may_leave (Some w) (Some closed) = (text : List ℕ) → holds w.disk text → holds closed text × Only text (may_leave closed)
