-- Private: many seconds without a link at once.
use Rattle.std.specs.Prelude.{◌≡◌, ℕ, ◌+◌, ◌==◌, ◌≤◌, ◌<◌, nat_le, nat_lt, Bool, true, ◌&&◌, List, length, Option, Some, None, is_some, if◌then◌else◌, slice_set}
use Rattle.bx_base.specs.Bookings.{Row}
use Rattle.bx_events.specs.declared.rules.Rules.{Rules}
use Rattle.bx_calls.specs.NetTable.{net_unlinked, IsDueBy}
use Rattle.bx_day.specs.Day.{is_unoffered, entry_at}
use Rattle.bx_day.specs.Moves.{follows}
use Rattle.bx_day.specs.Slots.{slot_at, waits_on}
use Rattle.bx_day.specs.declared.entry.Entry.{Entry}
use Rattle.bx_day.specs.declared.entry.Standing.{Standing}
use Rattle.bx_day.specs.declared.entry.Standing.TheVariants.{Unoffered, OnCall, Missed}

-- the timer of a live booking, if one runs, is due at this moment at the latest
abbrev pub IsTimedBy : ℕ → Standing → Type 0
IsTimedBy latest (OnCall call activity) = IsDueBy latest call.state
IsTimedBy latest _ = Unit {0}

-- what holds where it can be put off by n seconds within a word
abbrev pub IfTimersFit : ℕ → Standing → Type 0 → Type 0
IfTimersFit n s P = (latest : ℕ) → IsTimedBy latest s → latest + n ≤ 4294967295 → P

-- the moment of the last second without a link, after n of them from moment m on
abbrev pub unlinked_for : ℕ → ℕ → ℕ → ℕ
unlinked_for n m before = if n == 0 then before else m + n + 1

-- what has become of a booking in n such seconds, by these rules, of which the last comes to moment t: a call is not Active after its
-- booking's end
abbrev pub outlasted : Rules → ℕ → ℕ → Row → Standing → Standing
outlasted rules n t b (OnCall call activity) = (follows activity b.end (net_unlinked rules n call t b.end)).standing
outlasted rules n t b Unoffered = if nat_le b.end t then Missed else Unoffered
outlasted rules n t b s = s

abbrev pub outlasts : Rules → ℕ → ℕ → Entry → Entry
outlasts rules n t e = record e { standing = outlasted rules n t e.booking e.standing }

-- the bookings below index k did, and no other
pub record AreOutlasting (rules : Rules) (n t k : ℕ) (before now : List Entry) : Type 0 where
  pub size : length now ≡ length before
  pub done : (i latest : ℕ) → i < k → i < length before → IsTimedBy latest (entry_at before i).standing → latest + n ≤ 4294967295 → entry_at now i ≡ outlasts rules n t (entry_at before i)
  pub left : (i : ℕ) → k ≤ i → entry_at now i ≡ entry_at before i

-- ---- the first that waits on each channel, found anew

abbrev pub starts_before : List Entry → ℕ → Option ℕ → Bool
starts_before es i None = true
starts_before es i (Some r) = nat_lt (entry_at es i).booking.start (entry_at es r).booking.start

-- the slots once the booking of an index was looked at
abbrev pub with_waiting : List Entry → ℕ → List (Option ℕ) → List (Option ℕ)
with_waiting es i slots =
    if is_unoffered (entry_at es i).standing && starts_before es i (slot_at slots (entry_at es i).channel) then slice_set slots (entry_at es i).channel (Some i) else slots

-- the one that starts first of those below index k that wait on a channel, if there are any
pub record IsEarliestOn (es : List Entry) (k c : ℕ) (o : Option ℕ) : Type 0 where
  pub there : (i : ℕ) → o ≡ Some i → (i < k) × (waits_on c (entry_at es i) ≡ true)
  pub each : (i : ℕ) → i < k → waits_on c (entry_at es i) ≡ true → is_some o ≡ true
  pub least : (i r : ℕ) → i < k → waits_on c (entry_at es i) ≡ true → o ≡ Some r → (entry_at es r).booking.start ≤ (entry_at es i).booking.start

pub record AreEarliest (es : List Entry) (k : ℕ) (slots : List (Option ℕ)) : Type 0 where
  pub size : length slots ≡ 32
  pub each : (c : ℕ) → IsEarliestOn es k c (slot_at slots c)
