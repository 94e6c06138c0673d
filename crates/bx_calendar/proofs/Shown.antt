-- What a clock shows, as a number.
use Rattle.std.proofs.Common.{◌≡◌, ◌∙◌, ap, sym, Bool, true, false, Option, Some, None, int_le, neg_ℤ, ◌≤ℤ◌, ℤ, ℕ, pos, negsuc, ◌+◌, ◌*◌, ◌/◌, ◌%◌, ◌+ℤ◌, ◌*ℤ◌, ◌<◌, arith, refl, unsigned_abs, if◌then◌else◌}
use Rattle.std.proofs.lemmas.Bool.{and_parts}
use Rattle.std.proofs.lemmas.Int.{ints, int_rem_euclid_is}
use Rattle.std.specs.Int.{int_rem_euclid}
use Rattle.jiff_core.specs.Date.{epoch_day}
use Rattle.jiff_core.specs.DateTime.{civil_nanos}
use Rattle.jiff_core.specs.Time.{time_seconds}
use Rattle.jiff_core.specs.Timestamp.{IsTimestampNanos, nanos_of_seconds}
use Rattle.jiff_core.specs.declared.civil.datetime.DateTime.{DateTime}
use Rattle.jiff_core.specs.declared.civil.time.Time.{Time}
use Rattle.jiff_tz.specs.Zone.{offset_at}
use Rattle.jiff_tz.specs.declared.timezone.TimeZone.{TimeZone}
use Rattle.bx_calendar.specs.Clocks.{Shows, shown_second, is_instant, shown_by, second_shown_by, clock_start, clock_zone}
use Rattle.bx_calendar.specs.declared.clock.Clock.{Clock}

-- whole seconds on both sides leave no fraction
whole : (day local : ℤ) (seconds part : ℕ) → part < 1_000_000_000 → day *ℤ pos 86_400_000_000_000 +ℤ pos (seconds * 1_000_000_000 + part) ≡ local *ℤ pos 1_000_000_000 → local ≡ day *ℤ pos 86_400 +ℤ pos seconds
whole day local seconds part small e = omega (arith, ints)

small_rest : (k s : ℕ) → s < 86_400 → (k * 86_400 + s) % 86_400 ≡ s
small_rest k s h = omega (arith, h)

alone : (s : ℕ) → s < 86_400 → s % 86_400 ≡ s
alone s h = omega (arith, h)

-- the rest of a division by a day
rest : (day local : ℤ) (seconds : ℕ) → seconds < 86_400 → local ≡ day *ℤ pos 86_400 +ℤ pos seconds → int_rem_euclid local (pos 86_400) ≡ pos seconds
rest (pos d) local s h e = int_rem_euclid_is local (pos 86_400) 86_400 0 (d * 86_400 + s) (omega arith) refl (omega (arith, ints)) ∙ ap pos (small_rest d s h)
rest (negsuc d) local s h e = int_rem_euclid_is local (pos 86_400) 86_400 (d + 1) s (omega arith) refl (omega (arith, ints)) ∙ ap pos (alone s h)

below : (t : Time) → time_seconds t < 86_400
below t = omega (arith, t.hour_in, t.minute_in, t.second_in)

parts : (h m s n : ℕ) → m < 60 → s < 60 → n ≡ h * 3600 + m * 60 + s → (h ≡ n / 3600) × (m ≡ n / 60 % 60)
parts h m s n a b e = (omega (arith, a, b, e), omega (arith, a, b, e))

nanos_are : (at : DateTime) (local : ℤ) → civil_nanos at ≡ local *ℤ pos 1_000_000_000 → local ≡ epoch_day at.date *ℤ pos 86_400 +ℤ pos (time_seconds at.time)
unfolding civil_nanos
nanos_are at local e = whole (epoch_day at.date) local (time_seconds at.time) at.time.subsec_nanosecond at.time.subsec_in e

joined : (second offset : ℤ) → (second *ℤ pos 1_000_000_000) +ℤ (offset *ℤ pos 1_000_000_000) ≡ (second +ℤ offset) *ℤ pos 1_000_000_000
joined second offset = omega (arith, ints)

seconds_are : (zone : TimeZone) (second : ℤ) (at : DateTime) → civil_nanos at ≡ (second *ℤ pos 1_000_000_000) +ℤ nanos_of_seconds (offset_at zone (second *ℤ pos 1_000_000_000)) → shown_second zone second ≡ time_seconds at.time
seconds_are zone second at moved =
    let offset = offset_at zone (second *ℤ pos 1_000_000_000) in
    let local = nanos_are at (second +ℤ offset) (moved ∙ joined second offset) in
    ap unsigned_abs (rest (epoch_day at.date) (second +ℤ offset) (time_seconds at.time) (below at.time) local)

pub shown_is : (zone : TimeZone) (second : ℤ) (h m : ℕ) → Shows zone second h m → (h ≡ shown_second zone second / 3600) × (m ≡ shown_second zone second / 60 % 60)
shown_is zone second h m s =
    let time = s.at.time in
    let is = parts time.hour time.minute time.second (shown_second zone second) time.minute_in time.second_in (seconds_are zone second s.at s.moved) in
    (s.hour_is ∙ is.0, s.minute_is ∙ is.1)

in_range : (second : ℤ) → is_instant second ≡ true → IsTimestampNanos (second *ℤ pos 1_000_000_000)
in_range second e =
    let parts = and_parts (int_le (neg_ℤ (pos 377_705_023_201)) second) (int_le second (pos 253_402_207_200)) e in
    (omega (arith, ints, parts.0), omega (arith, ints, parts.1))

test_passes : (a b : ℤ) → a ≤ℤ b → int_le a b ≡ true
test_passes a b h = by (int_le a b) refl
  where
    by : (t : Bool) → int_le a b ≡ t → int_le a b ≡ true
    by true e = e
    by false e = absurd (omega (arith, ints))

is_in : (second : ℤ) → IsTimestampNanos (second *ℤ pos 1_000_000_000) → is_instant second ≡ true
is_in second h = rw (test_passes (neg_ℤ (pos 377_705_023_201)) second (omega (arith, ints, h.0)), test_passes second (pos 253_402_207_200) (omega (arith, ints, h.1))) refl

is_out : (second : ℤ) → ¬ IsTimestampNanos (second *ℤ pos 1_000_000_000) → is_instant second ≡ false
is_out second h = by (is_instant second) refl
  where
    by : (t : Bool) → is_instant second ≡ t → t ≡ false
    by true e = absurd (h (in_range second e))
    by false e = refl

chosen : {A : Type 0} (b t : Bool) (o : Option A) → b ≡ t → (if t then o else None) ≡ (if b then o else None)
chosen b t o e = ap (λ x. if x then o else None) (sym e)

pub none_shown : (clock : Clock) (moment : ℕ) → ¬ IsTimestampNanos ((clock_start clock +ℤ pos moment) *ℤ pos 1_000_000_000) → None ≡ shown_by clock moment
unfolding shown_by
none_shown clock moment h = chosen (is_instant (clock_start clock +ℤ pos moment)) false _ (is_out (clock_start clock +ℤ pos moment) h)

pub some_shown : (clock : Clock) (moment h m : ℕ) → IsTimestampNanos ((clock_start clock +ℤ pos moment) *ℤ pos 1_000_000_000) → Shows (clock_zone clock) (clock_start clock +ℤ pos moment) h m → Some (h, m) ≡ shown_by clock moment
unfolding shown_by
some_shown clock moment h m range shows =
    let second = clock_start clock +ℤ pos moment in
    let is = shown_is (clock_zone clock) second h m shows in
    ap (λ x. Some (x, m)) is.0 ∙ ap (λ x. Some (shown_second (clock_zone clock) second / 3600, x)) is.1 ∙ chosen (is_instant second) true _ (is_in second range)

pub no_second : (clock : Clock) (moment : ℕ) → ¬ IsTimestampNanos ((clock_start clock +ℤ pos moment) *ℤ pos 1_000_000_000) → None ≡ second_shown_by clock moment
unfolding second_shown_by
no_second clock moment h = chosen (is_instant (clock_start clock +ℤ pos moment)) false _ (is_out (clock_start clock +ℤ pos moment) h)

moved_by : (zone : TimeZone) (second n : ℤ) (at : DateTime) → n ≡ second *ℤ pos 1_000_000_000 → civil_nanos at ≡ n +ℤ nanos_of_seconds (offset_at zone n) → civil_nanos at ≡ (second *ℤ pos 1_000_000_000) +ℤ nanos_of_seconds (offset_at zone (second *ℤ pos 1_000_000_000))
moved_by zone second n at e moved = moved ∙ ap (λ (x : ℤ). x +ℤ nanos_of_seconds (offset_at zone x)) e

pub second_is : (clock : Clock) (moment : ℕ) (n : ℤ) (at : DateTime) (s : ℕ) → IsTimestampNanos ((clock_start clock +ℤ pos moment) *ℤ pos 1_000_000_000) → n ≡ (clock_start clock +ℤ pos moment) *ℤ pos 1_000_000_000 → civil_nanos at ≡ n +ℤ nanos_of_seconds (offset_at (clock_zone clock) n) → s ≡ time_seconds at.time → Some s ≡ second_shown_by clock moment
unfolding second_shown_by
second_is clock moment n at s range e moved is =
    let second = clock_start clock +ℤ pos moment in
    let seconds = seconds_are (clock_zone clock) second at (moved_by (clock_zone clock) second n at e moved) in
    ap Some (is ∙ sym seconds) ∙ chosen (is_instant second) true _ (is_in second range)
