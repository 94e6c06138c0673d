use Rattle.bx_planfile.specs.Forms.{booking_form, is_within}
use Rattle.bx_planfile.specs.Capped.{capped_entry}
use Rattle.bx_planfile.specs.Values.{entry_of_values, file_entry_of}
use Rattle.bx_planfile.specs.Reading.{read_booking}
use Rattle.bx_planfile.proofs.Cap.{capped_gives, within-capped, entry_is}
use Rattle.bx_planfile.proofs.booking_line.booking_of.Goals as goal

pub returns : goal.returns
unfolding read_booking
returns c =
    let read = rw c.in_ok-values.ensures.ok_part at c.values_of.ensures.entry in
    rw c.ok_or-2.ensures.value (capped_gives capped_entry is_within within-capped entry_is (λ x. file_entry_of x.0 x.1) (booking_form c.args.version c.args.fields) c.args.n (entry_of_values c.in_ok-values.values) c.within_limits.result read c.within_limits.ensures)
