-- Days in seconds.
use Rattle.std.proofs.Common.{◌≡◌, ◌∙◌, ℤ, ℕ, pos, neg_ℤ, ◌+ℤ◌, ◌-ℤ◌, ◌*ℤ◌, ◌≤ℤ◌, ◌<◌, int_div, unsigned_abs, arith}
use Rattle.std.proofs.lemmas.Int.{quot-rem, rem_below, ints}
use Rattle.std.specs.Prelude.{int_rem}
use Rattle.jiff.specs.Words.{epoch_day, IsYmd, IsEpochDay}
use Rattle.jiff_core.specs.declared.civil.date.Date.{Date}
use Rattle.jiff_core.specs.Calendar.{days_from_civil, day_count}

exact : (q r day : ℤ) → q *ℤ pos 1_000_000_000 +ℤ r ≡ day *ℤ pos 86_400_000_000_000 → unsigned_abs r < 1_000_000_000 → q ≡ day *ℤ pos 86_400
exact q r day e small = omega (arith, ints)

pub seconds_exactly : (n day : ℤ) → n ≡ day *ℤ pos 86_400_000_000_000 → int_div n (pos 1_000_000_000) ≡ day *ℤ pos 86_400
seconds_exactly n day e = exact (int_div n (pos 1_000_000_000)) (int_rem n (pos 1_000_000_000)) day (quot-rem n (pos 1_000_000_000) ∙ e) (rem_below n (pos 1_000_000_000) (omega arith))

cancels : (n : ℕ) → (pos n -ℤ pos n) ≡ pos 0
cancels n = omega (arith, ints)

epoch : days_from_civil (pos 1970) 1 1 ≡ pos 0
unfolding days_from_civil
epoch = cancels (day_count (pos 1970) 1 1)

pub first_day : (d : Date) → IsYmd (pos 1970) (pos 1) (pos 1) d → epoch_day d ≡ pos 0
first_day d h = let m : d.month ≡ 1 = cc in let y : d.day ≡ 1 = cc in rw (h.0, m, y) epoch

pub since_first_day : (n day first : ℤ) → first ≡ pos 0 → n ≡ (day -ℤ first) *ℤ pos 86_400_000_000_000 → n ≡ day *ℤ pos 86_400_000_000_000
since_first_day n day first z e = omega (arith, ints)

pub second_range : (n day : ℤ) → IsEpochDay day → n ≡ day *ℤ pos 86_400 → (neg_ℤ (pos 400_000_000_000) ≤ℤ n) × (n ≤ℤ pos 400_000_000_000)
second_range n day h e = (omega (arith, ints), omega (arith, ints))
