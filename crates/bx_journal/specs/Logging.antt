-- A journal on a disk, before and after an event is logged.
use Rattle.std.specs.Prelude.{◌≡◌, ◌⊎◌, ℕ, ◌≤◌, List, [], ◌∷◌, ◌++◌, length, take, Ok, Err}
use Rattle.bx_events.specs.Events.{LiveEvent}
use Rattle.bx_journal.specs.declared.fault.JournalFault.TheVariants.{NotBegun}
use Rattle.bx_journal.specs.Disk.{Only, LeavesOnly}
use Rattle.bx_journal.specs.Events.{AreEvents}
use Rattle.bx_journal.specs.Heads.{IsJournalDay, wanted_of}
use Rattle.bx_journal.specs.declared.head.Head.{Head}
use Rattle.bx_journal.specs.Text.{journal_text}
use Rattle.bx_journal.specs.Reading.{recovered}

-- the disk holds the journal of these events, and each crash leaves all of it
pub record IsSettled {D : Type 0} (holds may_leave : D → List ℕ → Type 0) (disk : D) (head : Head) (events : List LiveEvent) : Type 0 where
  pub day_is : IsJournalDay head.day
  pub events_are : AreEvents events
  pub written : holds disk (journal_text head events)
  pub durable : Only (journal_text head events) (may_leave disk)

-- what a crash left has these logged events, and a prefix of more
abbrev pub IsPrefix : Head → List LiveEvent → List LiveEvent → List ℕ → Type 0
IsPrefix head events more left = (n : ℕ) × (n ≤ length more) × (recovered (wanted_of head) left ≡ Ok (events ++ take n more))

-- the disk holds the journal of these events and of more, and each crash leaves these, and a prefix of the others
pub record IsPending {D : Type 0} (holds may_leave : D → List ℕ → Type 0) (disk : D) (head : Head) (events more : List LiveEvent) : Type 0 where
  pub day_is : IsJournalDay head.day
  pub events_are : AreEvents (events ++ more)
  pub written : holds disk (journal_text head (events ++ more))
  pub left : (c : List ℕ) → may_leave disk c → IsPrefix head events more c

-- what a crash left was never begun, or has no logged event
abbrev pub IsUnbegun : Head → List ℕ → Type 0
IsUnbegun head left = (recovered (wanted_of head) left ≡ Err NotBegun) ⊎ (recovered (wanted_of head) left ≡ Ok [])

-- from disk old to disk new these events were logged and synced: where all before them were, each crash leaves them too
abbrev pub AddsSettled : {D : Type 0} → (D → List ℕ → Type 0) → (D → List ℕ → Type 0) → D → List LiveEvent → D → Type 0
AddsSettled holds may_leave old events new =
    (head : Head) (before : List LiveEvent) →
    IsSettled holds may_leave old head before →
    IsSettled holds may_leave new head (before ++ events)

-- a crash at any moment of that leaves all events from before it, and a prefix of these
abbrev pub LeavesSettled : {D : Type 0} →
    (D → List ℕ → Type 0) → (D → List ℕ → Type 0) → (D → ℕ) → (D → ℕ → List ℕ → Type 0) →
    D → List LiveEvent → D → Type 0
LeavesSettled holds may_leave moment left_since old events new =
    (head : Head) (before : List LiveEvent) →
    IsSettled holds may_leave old head before →
    LeavesOnly moment left_since old new (IsPrefix head before events)

-- From disk old to disk new an event was logged: where all before it were, each crash from then on leaves it too, and one
-- at any moment in between leaves all before it, with it or without.
pub record LogsEvent {D : Type 0} (holds may_leave : D → List ℕ → Type 0) (moment : D → ℕ) (left_since : D → ℕ → List ℕ → Type 0) (old : D) (event : LiveEvent) (new : D) : Type 0 where
  pub logged : AddsSettled holds may_leave old (event ∷ []) new
  pub any_moment : LeavesSettled holds may_leave moment left_since old (event ∷ []) new

-- events were logged, one after another
abbrev pub AreLogged : {D : Type 0} → (D → List ℕ → Type 0) → (D → List ℕ → Type 0) → (D → ℕ) → (D → ℕ → List ℕ → Type 0) → D → List LiveEvent → D → Type 0
AreLogged holds may_leave moment left_since old [] new = old ≡ new
AreLogged holds may_leave moment left_since old (event ∷ events) new = (mid : _) × LogsEvent holds may_leave moment left_since old event mid × AreLogged holds may_leave moment left_since mid events new

-- ---- what the calls promise

-- from disk old to disk new this event was written after those that wait for a sync
abbrev pub AddsPending : {D : Type 0} → (D → List ℕ → Type 0) → (D → List ℕ → Type 0) → D → LiveEvent → D → Type 0
AddsPending holds may_leave old event new =
    (head : Head) (events more : List LiveEvent) →
    IsPending holds may_leave old head events more →
    IsPending holds may_leave new head events (more ++ event ∷ [])

-- a crash at any moment of that leaves the settled events, and a prefix of those that wait and of these
abbrev pub LeavesPending : {D : Type 0} →
    (D → List ℕ → Type 0) → (D → List ℕ → Type 0) → (D → ℕ) → (D → ℕ → List ℕ → Type 0) →
    D → List LiveEvent → D → Type 0
LeavesPending holds may_leave moment left_since old added new =
    (head : Head) (events more : List LiveEvent) →
    IsPending holds may_leave old head events more →
    LeavesOnly moment left_since old new (IsPrefix head events (more ++ added))

-- from disk old to disk new a sync settled all events that waited for it
abbrev pub SettlesPending : {D : Type 0} → (D → List ℕ → Type 0) → (D → List ℕ → Type 0) → D → D → Type 0
SettlesPending holds may_leave old new =
    (head : Head) (events more : List LiveEvent) →
    IsPending holds may_leave old head events more →
    IsSettled holds may_leave new head (events ++ more)

-- a crash at any moment of that leaves the settled events, and a prefix of those that wait
abbrev pub LeavesUnsettled : {D : Type 0} →
    (D → List ℕ → Type 0) → (D → List ℕ → Type 0) → (D → ℕ) → (D → ℕ → List ℕ → Type 0) →
    D → D → Type 0
LeavesUnsettled holds may_leave moment left_since old new =
    (head : Head) (events more : List LiveEvent) →
    IsPending holds may_leave old head events more →
    LeavesOnly moment left_since old new (IsPrefix head events more)

-- a crash at any moment of the beginning, on an empty disk, leaves a journal without an event, or none that was begun
abbrev pub LeavesUnbegun : {D : Type 0} →
    (D → List ℕ → Type 0) → (D → List ℕ → Type 0) → (D → ℕ) → (D → ℕ → List ℕ → Type 0) →
    D → Head → D → Type 0
LeavesUnbegun holds may_leave moment left_since old head new =
    IsJournalDay head.day →
    holds old [] →
    Only [] (may_leave old) →
    LeavesOnly moment left_since old new (IsUnbegun head)

-- whenever a crash comes after these events were logged, and while the rest is, it leaves a prefix with each that was done
abbrev pub LeavesDone : {D : Type 0} →
    (D → List ℕ → Type 0) → (D → List ℕ → Type 0) → (D → ℕ) → (D → ℕ → List ℕ → Type 0) → Type 0
LeavesDone {D} holds may_leave moment left_since =
    (head : Head) (before done rest : List LiveEvent) (first mid last : D) →
    IsSettled holds may_leave first head before →
    AreLogged holds may_leave moment left_since first done mid →
    AreLogged holds may_leave moment left_since mid rest last →
    LeavesOnly moment left_since mid last (IsPrefix head (before ++ done) rest)
