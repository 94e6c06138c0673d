-- What inputs give once one of them was opened, they have given before.
use Rattle.std.proofs.Common.{ℕ, List, Option, inl, inr}
use Rattle.bx_base.specs.Bookings.{Row}
use Rattle.bx_calendar.specs.declared.day.Day.{Day}
use Rattle.bx_devices.specs.Devices.{Reading}
use Rattle.bx_check_commands.specs.Inputs.{IsReadOf}
use Rattle.bx_plan_commands.specs.FilePlans.{AreBookingsOf}
use Rattle.bx_plan_commands.specs.FileRefusals.{HasNoBookings}
use Rattle.bx_plan_commands.specs.declared.fault.FileFault.{FileFault}

pub read_before : (before after : List ℕ → Option (List ℕ) → Type 0) → ((other : List ℕ) (text : Option (List ℕ)) → after other text → before other text)
    → (name : List ℕ) (input : Reading) → IsReadOf after name input → IsReadOf before name input
read_before before after fewer name input r = record { given = fewer name input.before r.given; unfaulted = r.unfaulted; unread = r.unread }

pub bookings_before : (before after : List ℕ → Option (List ℕ) → Type 0) → ((other : List ℕ) (text : Option (List ℕ)) → after other text → before other text)
    → (name : List ℕ) (day : Day) (rows : List Row) → AreBookingsOf after name day rows → AreBookingsOf before name day rows
bookings_before before after fewer name day rows b = record { input = b.input; of_name = read_before before after fewer name b.input b.of_name; read = b.read }

pub none_before : (before after : List ℕ → Option (List ℕ) → Type 0) → ((other : List ℕ) (text : Option (List ℕ)) → after other text → before other text)
    → (name : List ℕ) (day : Day) (fault : FileFault) → HasNoBookings after name day fault → HasNoBookings before name day fault
none_before before after fewer name day fault (inl why) = inl why
none_before before after fewer name day fault (inr (input, of_name, why)) = inr (input, read_before before after fewer name input of_name, why)
