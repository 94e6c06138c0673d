-- What the acts of a run do to the journal's disk.
use Rattle.std.specs.Prelude.{◌≡◌, ℕ, Bool, true, false, List, [], ◌∷◌, ◌++◌, Option, Some, None}
use Rattle.bx_events.specs.Events.{LiveEvent}
use Rattle.bx_journal.specs.Disk.{LeavesOnly}
use Rattle.bx_journal.specs.Events.{IsLoggable}
use Rattle.bx_journal.specs.Logging.{IsPending, IsPrefix}
use Rattle.bx_journal.specs.declared.head.Head.{Head}
use Rattle.bx_live.specs.Acts.{Act, Logged, Synced}

-- The line of an event was written, or could not be. A crash at any moment of it leaves what was on the disk, and a prefix of the
-- other events, with this one or without.
pub record WritesEvent {D : Type 0} (holds may_leave : D → List ℕ → Type 0) (moment : D → ℕ) (left_since : D → ℕ → List ℕ → Type 0) (has_failed : D → Bool) (old : D) (event : LiveEvent) (done : Bool) (new : D) : Type 0 where
  pub written : done ≡ true → (head : Head) (events more : List LiveEvent) → IsPending holds may_leave old head events more → IsPending holds may_leave new head events (more ++ event ∷ [])
  pub any_moment : (head : Head) (events more : List LiveEvent) → IsPending holds may_leave old head events more → LeavesOnly moment left_since old new (IsPrefix head events (more ++ event ∷ []))
  -- it could not only where the disk has failed: no event of a journal is refused by itself
  pub failed : done ≡ false → IsLoggable event → has_failed new ≡ true
  pub unfailed : done ≡ true → has_failed new ≡ has_failed old

-- What was written is on the disk, or could not be brought there. A crash at any moment of it leaves what was there, and a prefix of
-- what was written.
pub record Commits {D : Type 0} (holds may_leave : D → List ℕ → Type 0) (moment : D → ℕ) (left_since : D → ℕ → List ℕ → Type 0) (has_failed : D → Bool) (old : D) (done : Bool) (new : D) : Type 0 where
  pub committed : done ≡ true → (head : Head) (events more : List LiveEvent) → IsPending holds may_leave old head events more → IsPending holds may_leave new head (events ++ more) []
  pub any_moment : (head : Head) (events more : List LiveEvent) → IsPending holds may_leave old head events more → LeavesOnly moment left_since old new (IsPrefix head events more)
  pub failed : done ≡ false → has_failed new ≡ true
  pub unfailed : done ≡ true → has_failed new ≡ has_failed old

-- the same of the journal, where one is kept; where none is, none is begun
abbrev pub WritesKept : {D : Type 0} → (D → List ℕ → Type 0) → (D → List ℕ → Type 0) → (D → ℕ) → (D → ℕ → List ℕ → Type 0) → (D → Bool) → Option D → LiveEvent → Bool → Option D → Type 0
WritesKept holds may_leave moment left_since has_failed (Some old) event done (Some new) = WritesEvent holds may_leave moment left_since has_failed old event done new
WritesKept holds may_leave moment left_since has_failed None event done None = done ≡ true
WritesKept holds may_leave moment left_since has_failed old event done new = ⊥

abbrev pub CommitsKept : {D : Type 0} → (D → List ℕ → Type 0) → (D → List ℕ → Type 0) → (D → ℕ) → (D → ℕ → List ℕ → Type 0) → (D → Bool) → Option D → Bool → Option D → Type 0
CommitsKept holds may_leave moment left_since has_failed (Some old) done (Some new) = Commits holds may_leave moment left_since has_failed old done new
CommitsKept holds may_leave moment left_since has_failed None done None = done ≡ true
CommitsKept holds may_leave moment left_since has_failed old done new = ⊥

-- the journal after an act: only what is logged and synced changes it
abbrev pub OnLog : {D : Type 0} → (D → List ℕ → Type 0) → (D → List ℕ → Type 0) → (D → ℕ) → (D → ℕ → List ℕ → Type 0) → (D → Bool) → Option D → Act → Option D → Type 0
OnLog holds may_leave moment left_since has_failed old (Logged event done) new = WritesKept holds may_leave moment left_since has_failed old event done new
OnLog holds may_leave moment left_since has_failed old (Synced done) new = CommitsKept holds may_leave moment left_since has_failed old done new
OnLog holds may_leave moment left_since has_failed old act new = old ≡ new

-- the disk of a journal that is kept
abbrev pub OnDisk : {D : Type 0} → (D → List ℕ → Type 0) → (D → List ℕ → Type 0) → (D → ℕ) → (D → ℕ → List ℕ → Type 0) → (D → Bool) → D → Act → D → Type 0
OnDisk holds may_leave moment left_since has_failed old (Logged event done) new = WritesEvent holds may_leave moment left_since has_failed old event done new
OnDisk holds may_leave moment left_since has_failed old (Synced done) new = Commits holds may_leave moment left_since has_failed old done new
OnDisk holds may_leave moment left_since has_failed old act new = old ≡ new
