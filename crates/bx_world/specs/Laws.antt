-- What the laws of a run over a journal say.
use Rattle.std.specs.Prelude.{◌≡◌, ℕ, Bool, true, false, List, ◌∷◌, ◌++◌, Option, Some, None, Result}
use Rattle.bx_events.specs.Events.{LiveEvent}
use Rattle.bx_day.specs.Day.{Day}
use Rattle.bx_frames.specs.declared.fault.LinkFault.{LinkFault}
use Rattle.bx_frames.specs.declared.frame.Frame.{Frame}
use Rattle.bx_journal.specs.Disk.{LeavesOnly}
use Rattle.bx_journal.specs.Logging.{IsSettled, IsPrefix}
use Rattle.bx_journal.specs.declared.head.Head.{Head}
use Rattle.bx_live.specs.Acts.{Act, Wrote, logged_by, ended}
use Rattle.bx_live.specs.Runs.{Place, Between, IsRun}
use Rattle.bx_live.specs.Written.{filed}
use Rattle.bx_live.specs.Chains.{Chain}
use Rattle.bx_live.specs.Logs.{OnDisk}
use Rattle.bx_world.specs.Kept.{keeps_log, asked, Knows, IsSafe}
use Rattle.bx_world.specs.Rehearsals.{Rehearses}
use Rattle.bx_world.specs.declared.rehearsal.Rehearsal.{Rehearsal}

-- A run is cut at a moment. A crash from then on leaves each event that was synced before it, and a prefix of what was logged and of
-- what follows.
abbrev pub LeavesPrefixOfRun : {D : Type 0} →
    (D → List ℕ → Type 0) → (D → List ℕ → Type 0) → (D → ℕ) → (D → ℕ → List ℕ → Type 0) → (D → Bool) → Type 0
LeavesPrefixOfRun {D} holds may_leave moment left_since has_failed =
    (head : Head) (earlier : List LiveEvent) (first mid last : D) (before following : List Act) (d : Day) (to : Place) →
    IsSettled holds may_leave first head earlier →
    IsRun (Between d) (before ++ following) to →
    keeps_log before ≡ true →
    Chain (OnDisk holds may_leave moment left_since has_failed) first before mid →
    Chain (OnDisk holds may_leave moment left_since has_failed) mid following last →
    LeavesOnly moment left_since mid last (IsPrefix head (earlier ++ (filed before).disk) ((filed before).more ++ asked following))

-- the same of one run, whose acts are told up to that moment and after it
abbrev pub HasMomentOfRun : {D : Type 0} →
    (D → List ℕ → Type 0) → (D → List ℕ → Type 0) → (D → ℕ) → (D → ℕ → List ℕ → Type 0) → (D → Bool) → Type 0
HasMomentOfRun {D} holds may_leave moment left_since has_failed =
    (head : Head) (earlier : List LiveEvent) (first last : D) (before following : List Act) (d : Day) (to : Place) →
    IsSettled holds may_leave first head earlier →
    IsRun (Between d) (before ++ following) to →
    keeps_log before ≡ true →
    Chain (OnDisk holds may_leave moment left_since has_failed) first (before ++ following) last →
    (mid : D) ×
    Chain (OnDisk holds may_leave moment left_since has_failed) first before mid ×
    LeavesOnly moment left_since mid last (IsPrefix head (earlier ++ (filed before).disk) ((filed before).more ++ asked following))

-- whenever messages were written to a peer, a crash from then on leaves all that was logged, with the event for which they were written
abbrev pub KnowsWhatWasSent : {D : Type 0} →
    (D → List ℕ → Type 0) → (D → List ℕ → Type 0) → (D → ℕ) → (D → ℕ → List ℕ → Type 0) → (D → Bool) → Type 0
KnowsWhatWasSent {D} holds may_leave moment left_since has_failed =
    (head : Head) (earlier : List LiveEvent) (first mid last : D) (before following : List Act) (octets : List ℕ) (done : Bool) (d : Day) (to : Place) →
    IsSettled holds may_leave first head earlier →
    IsRun (Between d) (before ++ Wrote octets done ∷ following) to →
    Chain (OnDisk holds may_leave moment left_since has_failed) first before mid →
    Chain (OnDisk holds may_leave moment left_since has_failed) mid (Wrote octets done ∷ following) last →
    IsSafe d before octets (LeavesOnly moment left_since mid last (Knows head (earlier ++ logged_by before)))

-- ---- a rehearsal towards one peer

-- where the peer was not lost, each second began
abbrev pub BeginsUnlessLost : {P D : Type 0} →
    (P → List ℕ → Bool → P → Type 0) → (P → ℕ → Result Frame LinkFault → P → Type 0) → (P → Option LinkFault → P → Type 0) →
    (D → List ℕ → Type 0) → (D → List ℕ → Type 0) → (D → ℕ) → (D → ℕ → List ℕ → Type 0) → (D → Bool) → Type 0
BeginsUnlessLost {P} {D} wrote gave parted holds may_leave moment left_since has_failed =
    (old new : Rehearsal P D) (acts : List Act) →
    Chain (Rehearses wrote gave parted holds may_leave moment left_since has_failed) old acts new →
    new.lost ≡ None →
    ended acts ≡ false

-- the disk of the journal has gone through the acts
abbrev pub KeepsDiskThrough : {P D : Type 0} →
    (P → List ℕ → Bool → P → Type 0) → (P → ℕ → Result Frame LinkFault → P → Type 0) → (P → Option LinkFault → P → Type 0) →
    (D → List ℕ → Type 0) → (D → List ℕ → Type 0) → (D → ℕ) → (D → ℕ → List ℕ → Type 0) → (D → Bool) → Type 0
KeepsDiskThrough {P} {D} wrote gave parted holds may_leave moment left_since has_failed =
    (old new : Rehearsal P D) (acts : List Act) (first : D) →
    Chain (Rehearses wrote gave parted holds may_leave moment left_since has_failed) old acts new →
    old.log.disk ≡ Some first →
    (last : D) × (new.log.disk ≡ Some last) × Chain (OnDisk holds may_leave moment left_since has_failed) first acts last
