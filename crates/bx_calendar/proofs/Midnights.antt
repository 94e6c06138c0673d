-- Two midnights make a day.
use Rattle.std.proofs.Common.{◌≡◌, ℤ, pos, ◌+ℤ◌, ◌-ℤ◌, ap, ◌∙◌, subst}
use Rattle.jiff.specs.Words.{IsTimestampNanos}
use Rattle.jiff_tz.specs.declared.timezone.TimeZone.{TimeZone}
use Rattle.bx_calendar.specs.Days.{IsMidnight, IsDay, seconds_of}

abbrev pub Begins : TimeZone → ℤ → ℤ → Type 0
Begins zone day start = (n : ℤ) × IsMidnight zone day n × IsTimestampNanos n × (start ≡ seconds_of n)

pub is_day : (zone : TimeZone) (day next start end : ℤ) → next ≡ day +ℤ pos 1 → Begins zone day start → Begins zone next end → IsDay zone day start (end -ℤ start)
is_day zone day next start end e a b = record {
  first = a.0;
  next = b.0;
  begins = a.1;
  ends = subst (λ d. IsMidnight zone d b.0) e b.1;
  first_exists = a.2;
  next_exists = b.2;
  start_is = a.3;
  length_is = ap (λ n. n -ℤ start) b.3 ∙ ap (λ n. seconds_of b.0 -ℤ n) a.3;
}
