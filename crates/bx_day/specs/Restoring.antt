-- A day that an exchange may go on from, whatever it went through before.
use Rattle.std.specs.Prelude.{◌≡◌, ℕ, ◌<◌, false, true, length}
use Rattle.bx_day.specs.Day.{Day, is_unoffered, entry_at}
use Rattle.bx_day.specs.Invariant.{is_refused}
use Rattle.bx_day.specs.Reading.{IsExchange}

-- what an exchange keeps true of its day: all of its laws rest on this alone
pub record IsState (d : Day) : Type 0 where
  pub exchange : IsExchange d
  -- a booking ends after its start
  pub ordered : (i : ℕ) → i < length d.entries → (entry_at d.entries i).booking.start < (entry_at d.entries i).booking.end
  -- one that starts later waits
  pub ahead : (i : ℕ) → i < length d.entries → is_refused (entry_at d.entries i).standing ≡ false → d.moment < (entry_at d.entries i).booking.start → is_unoffered (entry_at d.entries i).standing ≡ true
