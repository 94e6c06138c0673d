-- The limits of a booking, as one test and as the facts that they are.
use Rattle.std.proofs.Common.{◌≡◌, ℕ, ◌≤◌, Bool, true, false, ltb, leb, List, length, refl, arith}
use Rattle.std.specs.List.{list_all}
use Rattle.std.specs.Char.{is_ascii_digit}
use Rattle.std.proofs.lemmas.Bool.Decides.{nat_tests}
use Rattle.std.proofs.lemmas.Bool.{ltb-true, lt-ltb, leb-true}
use Rattle.bx_channels.specs.Numbers.{IsNumber}
use Rattle.bx_base.specs.Bookings.{IsBooking}
use Rattle.bx_planfile.specs.Forms.{Entry, is_digits, is_assignable, is_within}
use Rattle.bx_text.proofs.DigitSteps.{and_both, all_from_test, test_from_all}

pub IsNumber-from_test : (ds : List ℕ) → is_digits ds ≡ true → length ds ≤ 15 → IsNumber ds
IsNumber-from_test ds e le =
    let parts = and_both (ltb 0 (length ds)) (list_all is_ascii_digit ds) e in
    record { some = ltb-true 0 (length ds) parts.0; few = le; ascii = all_from_test ds parts.1 }

pub test_from_number : (ds : List ℕ) → IsNumber ds → is_digits ds ≡ true
test_from_number ds h =
    let some : ltb 0 (length ds) ≡ true = lt-ltb 0 (length ds) h.some in
    rw some (test_from_all ds h.ascii)

pub within_from : (e : Entry) → IsBooking e.row → is_assignable e.channel ≡ true → is_within e ≡ true
unfolding is_within
within_from e booking channel =
    let few : length e.row.number ≤ 15 = booking.number.few in
    grind (arith, nat_tests)

pub from_within : (e : Entry) → is_digits e.row.number ≡ true → is_within e ≡ true → IsBooking e.row × (is_assignable e.channel ≡ true)
unfolding is_within
from_within e digits within =
    let a = and_both _ (is_assignable e.channel) within in
    let b = and_both _ (leb (length e.row.number) 15) a.0 in
    let c = and_both _ (leb e.row.pay 1000000000) b.0 in
    let d = and_both _ (leb 1 e.row.pay) c.0 in
    let f = and_both (ltb e.row.start e.row.end) (leb e.row.end 200000) d.0 in (
      record {
        in_order = ltb-true _ _ f.0;
        in_day = leb-true _ _ f.1;
        paid = leb-true _ _ d.1;
        pay_limit = leb-true _ _ c.1;
        number = IsNumber-from_test e.row.number digits (leb-true _ _ b.1);
      },
      a.1,
    )

pub false_from_not : (b : Bool) → (b ≡ true → ⊥) → b ≡ false
false_from_not true h = absurd (h refl)
false_from_not false h = refl

pub no_booking : (e : Entry) → is_digits e.row.number ≡ true → ¬ IsBooking e.row → is_within e ≡ false
no_booking e digits h = false_from_not (is_within e) (λ w. h (from_within e digits w).0)

pub no_channel : (e : Entry) → is_digits e.row.number ≡ true → is_assignable e.channel ≡ false → is_within e ≡ false
no_channel e digits h = false_from_not (is_within e) (λ w. let t = (from_within e digits w).1 in absurd cc)

pub both_within : (e : Entry) → IsBooking e.row → is_assignable e.channel ≡ true → is_within e ≡ true
both_within = within_from
