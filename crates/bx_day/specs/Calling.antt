-- Private: bookings that the far end may call.
use Rattle.std.specs.Prelude.{ℕ, ◌==◌, ◌&&◌, Bool}
use Rattle.bx_base.specs.Bookings.{is_running}
use Rattle.bx_q931.specs.declared.channel_field.ChannelField.TheVariants.{Named}
use Rattle.bx_calls.specs.Said.{Said}
use Rattle.bx_calls.specs.Sending.{Answered}
use Rattle.bx_day.specs.Day.{Day, is_unoffered}
use Rattle.bx_day.specs.Receipts.{called_on}
use Rattle.bx_day.specs.declared.entry.Entry.{Entry}

-- an inward booking of a channel that runs, and was never live
abbrev pub awaits : ℕ → ℕ → Entry → Bool
awaits t c e = is_unoffered e.standing && e.booking.inward && is_running e.booking t && (e.channel == c)

-- a call for a channel that is named
abbrev pub called_for : Day → Said → ℕ → Bool → Answered Day
called_for d m channel exclusive = called_on d m (Named channel exclusive)
