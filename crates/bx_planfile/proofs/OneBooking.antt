-- One booking's line is read again as that booking.
use Rattle.std.proofs.Common.{◌≡◌, ℕ, List, Some, None, refl, ap, ◌∙◌}
use Rattle.bx_base.specs.Bookings.{Row, IsBooking}
use Rattle.bx_planfile.specs.declared.version.Version.TheVariants.{Three}
use Rattle.bx_planfile.specs.Lines.{fields_of}
use Rattle.bx_planfile.specs.OneBooking.{booking_text, booking_on, told_by}
use Rattle.bx_planfile.specs.Reading.{read_booking}
use Rattle.bx_planfile.specs.Text.{booking_fields}
use Rattle.bx_planfile.specs.Values.{file_entry_of}
use Rattle.bx_planfile.proofs.LineLaws.{entry_again, plain_booking}
use Rattle.bx_planfile.proofs.PlainLines.{fields-join}

pub booking_told_again : (row : Row) → IsBooking row → booking_on (booking_text row) ≡ Some row
booking_told_again row h =
    let split : fields_of (booking_text row) ≡ booking_fields Three row None = fields-join _ _ (plain_booking Three row None h refl) in
    ap (λ (fs : List (List ℕ)). told_by (read_booking Three 0 fs)) split ∙ ap told_by (entry_again Three 0 (file_entry_of row None) h tt refl)
