-- What a booking has to pay at least.
use Rattle.std.specs.Prelude.{ℕ, ◌+◌, ◌-◌, ◌*◌, ◌/◌, Bool, nat_le}
use Rattle.bx_base.specs.Bookings.{Row}

-- the minutes that have begun in a booking: a part of one counts as a whole one
abbrev pub started_minutes : Row → ℕ
started_minutes booking = (booking.end - booking.start + 59) / 60

-- its least pay, at this rate for each of them
abbrev pub least_pay : ℕ → Row → ℕ
least_pay rate booking = rate * started_minutes booking

abbrev pub is_paid : ℕ → Row → Bool
is_paid rate booking = nat_le (least_pay rate booking) booking.pay
