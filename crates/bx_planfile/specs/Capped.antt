-- Private: values as the code keeps them: it counts no higher than the greatest number of 64 bits, which is beyond each
-- limit.
use Rattle.std.specs.Option.{option_map}
use Rattle.bx_base.specs.Bookings.{row_of}
use Rattle.bx_base.specs.Bound.{Charge, charge_of}
use Rattle.bx_text.specs.Digits.{capped}
use Rattle.bx_planfile.specs.Forms.{Entry}

abbrev pub capped_entry : Entry → Entry
capped_entry e = record {
  row = row_of (capped e.row.start) (capped e.row.end) (capped e.row.pay) e.row.number e.row.must e.row.inward;
  channel = option_map capped e.channel;
}

abbrev pub capped_charge : Charge → Charge
capped_charge p = charge_of (capped p.moment) (capped p.amount)
