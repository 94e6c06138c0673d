-- Private: what the code keeps of a booking's line, as an entry.
use Rattle.std.specs.Prelude.{◌≡◌, ℕ, true, List, Option}
use Rattle.std.specs.Option.{option_map}
use Rattle.bx_base.specs.Bookings.{Row, row_of}
use Rattle.bx_planfile.specs.declared.booking_line.BookingValues.{BookingValues}
use Rattle.bx_base.specs.Bound.{Charge, charge_of}
use Rattle.bx_planfile.specs.declared.lines.PriceValues.{PriceValues}
use Rattle.bx_planfile.specs.Forms.{Entry, channel_field_of, is_channel_field, is_charge, is_within}
use Rattle.bx_text.specs.Digits.{capped}

abbrev pub entry_of_values : BookingValues → Entry
entry_of_values v = record { row = row_of v.start v.end v.pay v.number.now v.must v.inward; channel = v.channel }

abbrev pub file_entry_of : Row → Option ℕ → Entry
file_entry_of row channel = record { row = row; channel = channel }

abbrev pub charge_of_values : PriceValues → Charge
charge_of_values v = charge_of v.moment v.amount

-- what a right field of a channel is read as: the channel, or none, with no word on its limits yet
abbrev pub IsChannelRead : List ℕ → Option ℕ → Type 0
IsChannelRead field channel =
    (is_channel_field field ≡ true)
    × (channel ≡ option_map capped (channel_field_of field))

-- the entry that was read is within its limits, and answered as it is
abbrev pub IsWithin : Entry → Entry → Type 0
IsWithin read entry = (is_within read ≡ true) × (entry ≡ read)

-- the same of a price
abbrev pub IsChargeWithin : Charge → Charge → Type 0
IsChargeWithin read price = (is_charge read ≡ true) × (price ≡ read)
