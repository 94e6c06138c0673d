-- What is known of a reader that bookings were read from.
use Rattle.std.proofs.Common.{◌≡◌, ℕ, List, [], Option, Some, None, length, refl, sym, subst, arith}
use Rattle.std.specs.Io.KnownBytes.{Consumes}
use Rattle.bx_base.specs.Bookings.{Row}
use Rattle.bx_devices.specs.Devices.{Reading}
use Rattle.bx_devices.specs.Octets.{ReadsWithin}
use Rattle.bx_book.specs.Rows.{Span}
use Rattle.bx_book.specs.Streams.{IsBookRead, IsWhole}

within : (input : Reading) (before : Option (List ℕ)) → before ≡ input.before → ((text : List ℕ) → input.before ≡ Some text → IsWhole input text) → ReadsWithin before input.after 4_194_304
within input None is whole = (0, omega arith, ([], refl, tt))
within input (Some text) is whole =
    let all = whole text (sym is) in
    (length text, all.fits, (text, refl, subst (λ (b : Option (List ℕ)). Consumes b input.after text) (sym is) all.all.0))

-- a text that was read to its end has at most so many octets
pub read_within : (input : Reading) (span : Span) (rows : List Row) → IsBookRead input span rows → ReadsWithin input.before input.after 4_194_304
read_within input span rows read = within input input.before refl (λ text known. (read.1 text known).0)
