-- How many of a day's bookings have become what, and what they pay.
use Rattle.std.specs.Prelude.{ℕ, ◌==◌, ◌&&◌, Bool, true, false, List, if◌then◌else◌, sum_by}
use Rattle.bx_day.specs.Day.{Day}
use Rattle.bx_day.specs.Invariant.{stands_accepted}
use Rattle.bx_day.specs.declared.entry.Entry.{Entry}
use Rattle.bx_day.specs.declared.entry.Standing.{Standing}
use Rattle.bx_day.specs.declared.entry.Standing.TheVariants as standing
use Rattle.bx_day_chart.specs.declared.counting.Fate.{Fate}
use Rattle.bx_day_chart.specs.declared.counting.Fate.TheVariants.{Accepted, Waiting, Live, Carried, Unanswered, Missed}

-- whether that has become of a booking
abbrev pub has_become : Fate → Standing → Bool
has_become Accepted s = stands_accepted s
has_become Waiting standing.Unoffered = true
has_become Live (standing.OnCall call activity) = true
has_become Carried (standing.Carried from until) = true
has_become Unanswered standing.Unanswered = true
has_become Missed standing.Missed = true
has_become _ _ = false

-- of how many that has become
abbrev pub fate_count_of : Fate → List Entry → ℕ
fate_count_of fate entries = sum_by (λ e. if has_become fate e.standing then 1 else 0) entries

-- what those pay
abbrev pub fate_pay_of : Fate → List Entry → ℕ
fate_pay_of fate entries = sum_by (λ e. if has_become fate e.standing then e.booking.pay else 0) entries

-- no booking waits, and none is live
abbrev pub is_day_over : Day → Bool
is_day_over d = (fate_count_of Waiting d.entries == 0) && (fate_count_of Live d.entries == 0)
