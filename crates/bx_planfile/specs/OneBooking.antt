-- One booking by itself, as a line tells it: by the fields of a plan text's line, without a channel.
use Rattle.std.specs.Prelude.{ℕ, false, List, [], Option, Some, None, Result, Ok, Err}
use Rattle.std.specs.List.{join_with_byte}
use Rattle.bx_base.specs.Bookings.{Row, row_of}
use Rattle.bx_planfile.specs.declared.fault.PlanTextFault.{PlanTextFault}
use Rattle.bx_planfile.specs.declared.version.Version.TheVariants.{Three}
use Rattle.bx_planfile.specs.Forms.{Entry}
use Rattle.bx_planfile.specs.Lines.{fields_of}
use Rattle.bx_planfile.specs.Reading.{read_booking}
use Rattle.bx_planfile.specs.Text.{booking_fields}

abbrev pub booking_text : Row → List ℕ
booking_text row = join_with_byte 32 (booking_fields Three row None)

abbrev pub unassigned : Row → Option ℕ → Option Row
unassigned row None = Some row
unassigned row (Some channel) = None

abbrev pub told_by : Result Entry PlanTextFault → Option Row
told_by (Ok entry) = unassigned entry.row entry.channel
told_by (Err fault) = None

-- the booking that a line tells, within its limits
abbrev pub booking_on : List ℕ → Option Row
booking_on line = told_by (read_booking Three 0 (fields_of line))

-- the booking of a line, and no booking where it tells none
abbrev pub row_or_none : Option Row → Row
row_or_none None = row_of 0 0 0 [] false false
row_or_none (Some row) = row

abbrev pub row_on : List ℕ → Row
row_on line = row_or_none (booking_on line)
