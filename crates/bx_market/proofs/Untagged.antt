-- The text of a booking begins with a digit, so it does not read as one with a key.
use Rattle.std.proofs.Common.{◌≡◌, ℕ, ◌<◌, ◌^◌, nat_le, false, List, [], ◌∷◌, ◌++◌, length, take, codes, refl, arith, decimal, None}
use Rattle.std.specs.Str.{bytes_eq}
use Rattle.std.specs.List.{join_with_byte}
use Rattle.std.specs.Str.Parse.{AllDigits}
use Rattle.std.proofs.lemmas.Bool.{and_right, ne_eqb}
use Rattle.std.proofs.lemmas.Fmt.{decimal_is_IsNumeral}
use Rattle.std.proofs.lemmas.Str.Parse.{digit_from_value}
use Rattle.bx_base.specs.Bookings.{Row}
use Rattle.bx_planfile.specs.OneBooking.{booking_text}
use Rattle.bx_planfile.specs.Text.{channel_field, mark_fields}
use Rattle.bx_planfile.specs.declared.version.Version.TheVariants.{Three}
use Rattle.bx_sales.specs.Tags.{is_tagged}

begins : (digits rest : List ℕ) → AllDigits 10 digits → bytes_eq (take 6 (digits ++ 32 ∷ rest)) (codes "under ") ≡ false
begins [] rest all = refl
begins (c ∷ cs) rest all = rw (ne_eqb c 117 (λ e. omega (arith, e, digit_from_value c all.0))) refl

pub untagged : (row : Row) → row.start < 2 ^ 64 → is_tagged (booking_text row) ≡ false
untagged row fits =
    let rest = join_with_byte 32 (decimal row.end ∷ decimal row.pay ∷ row.number ∷ channel_field None ∷ mark_fields Three row) in
    and_right (nat_le 72 (length (booking_text row))) (bytes_eq (take 6 (booking_text row)) (codes "under ")) (begins (decimal row.start) rest (decimal_is_IsNumeral row.start fits).0.1)
