-- Each line of a plan text: what is read is spelled so, and what is spelled so is read.
use Rattle.std.proofs.Common.{◌≡◌, ℕ, suc, ◌^◌, ◌<◌, ◌≤◌, Bool, true, false, ltb, leb, eqb, List, [], ◌∷◌, map, length, get_or, Option, Some, None, Result, Ok, Err, refl, sym, ap, ◌∙◌, arith}
use Rattle.std.specs.Prelude.{codes, decimal}
use Rattle.std.specs.List.{list_all}
use Rattle.std.specs.Char.{is_ascii_digit}
use Rattle.std.proofs.lemmas.Bool.{eqb-true, leb-true, le-leb}
use Rattle.std.proofs.lemmas.List.{nil_from_length}
use Rattle.bx_base.specs.Bookings.{Row, IsBooking}
use Rattle.bx_base.specs.Bound.{Charge, IsCharge}
use Rattle.bx_planfile.specs.declared.version.Version.{Version}
use Rattle.bx_planfile.specs.declared.version.Version.TheVariants.{One, Two, Three}
use Rattle.bx_planfile.specs.declared.fault.PlanTextFault.{PlanTextFault}
use Rattle.bx_planfile.specs.declared.fault.PlanTextFault.TheVariants.{BadLine, BadCount, OutOfLimits, Trailing}
use Rattle.bx_text.specs.Lines.{named}
use Rattle.bx_planfile.specs.Text.{version_field, channel_field, must_field, direction_field, mark_fields, booking_fields, price_fields, IsTellable}
use Rattle.bx_planfile.specs.Forms.{Entry, named_form, booking_form, is_assignable, is_within, price_form, is_charge, is_end}
use Rattle.bx_planfile.specs.Reading.{◌>>=◌, or_fault, where_holds, read_count, read_booking, read_price, read_total, read_end}
use Rattle.bx_text.proofs.DigitSteps.{and_both}
use Rattle.bx_planfile.proofs.DecimalLaws.{digits-decimal}
use Rattle.bx_planfile.proofs.PlainLines.{is_plain, are_plain, plain_from_digits}
use Rattle.bx_planfile.proofs.ChannelSets.{IsChannel-from_test}
use Rattle.bx_planfile.proofs.Limits.{within_from, test_from_number}
use Rattle.bx_planfile.proofs.LineForms.{named_takes, named_again, IsBookingLine, booking_takes, booking_again, price_takes, price_again, end_takes, end_again}

-- the value of a step that did not fail
pub bind_ok : {A B : Type 0} (r : Result A PlanTextFault) (f : A → Result B PlanTextFault) (y : B) → (r >>= f) ≡ Ok y → (x : A) × (r ≡ Ok x) × (f x ≡ Ok y)
bind_ok (Ok x) f y e = (x, refl, e)
bind_ok (Err d) f y e = absurd cc

pub or_ok : {A : Type 0} (f : PlanTextFault) (o : Option A) (x : A) → or_fault f o ≡ Ok x → o ≡ Some x
or_ok f None x e = absurd cc
or_ok f (Some y) x e = cc

pub holds_ok : {A : Type 0} (b : Bool) (f : PlanTextFault) (x y : A) → where_holds b f x ≡ Ok y → (b ≡ true) × (x ≡ y)
holds_ok true f x y e = (refl, cc)
holds_ok false f x y e = absurd cc

pub ok_is : {A : Type 0} (x y : A) → ◌≡◌ {A = Result A PlanTextFault} (Ok x) (Ok y) → x ≡ y
ok_is x y e = cc

-- ---- one line

pub count_takes : (word : List ℕ) (most n : ℕ) (fs : List (List ℕ)) (count : ℕ) → most < 2 ^ 64 → read_count word most n fs ≡ Ok count → (fs ≡ named word count) × (count ≤ most)
unfolding read_count
count_takes word most n fs count small e =
    let a = bind_ok (or_fault (BadLine n) (named_form word fs)) (λ c. where_holds (leb c most) BadCount c) count e in
    let h = holds_ok (leb a.0 most) BadCount a.0 count a.2 in
    let le : count ≤ most = rw h.1 at (leb-true a.0 most h.0) in
    let form : named_form word fs ≡ Some count = or_ok (BadLine n) (named_form word fs) a.0 a.1 ∙ ap Some h.1 in
    (named_takes word fs count form (omega arith), le)

pub count_again : (word : List ℕ) (most n count : ℕ) → most < 2 ^ 64 → count ≤ most → read_count word most n (named word count) ≡ Ok count
unfolding read_count
count_again word most n count small le = rw (named_again word count (omega arith), le-leb count most le) refl

pub total_takes : (n : ℕ) (fs : List (List ℕ)) (total : ℕ) → read_total n fs ≡ Ok total → (fs ≡ named (codes "total") total) × (total ≤ 16000000000000)
unfolding read_total
total_takes n fs total e =
    let a = bind_ok (or_fault (BadLine n) (named_form (codes "total") fs)) (λ c. where_holds (leb c 16000000000000) (OutOfLimits n) c) total e in
    let h = holds_ok (leb a.0 16000000000000) (OutOfLimits n) a.0 total a.2 in
    let le : total ≤ 16000000000000 = rw h.1 at (leb-true a.0 16000000000000 h.0) in
    let form : named_form (codes "total") fs ≡ Some total = or_ok (BadLine n) (named_form (codes "total") fs) a.0 a.1 ∙ ap Some h.1 in
    (named_takes (codes "total") fs total form (omega arith), le)

pub total_again : (n total : ℕ) → total ≤ 16000000000000 → read_total n (named (codes "total") total) ≡ Ok total
unfolding read_total
total_again n total le = rw (named_again (codes "total") total (omega arith), le-leb total 16000000000000 le) refl

pub entry_takes : (version : Version) (n : ℕ) (fs : List (List ℕ)) (e : Entry) → read_booking version n fs ≡ Ok e → IsBookingLine version fs e
unfolding read_booking
entry_takes version n fs e read =
    let a = bind_ok (or_fault (BadLine n) (booking_form version fs)) (λ x. where_holds (is_within x) (OutOfLimits n) x) e read in
    let h = holds_ok (is_within a.0) (OutOfLimits n) a.0 e a.2 in
    booking_takes version fs e (or_ok (BadLine n) (booking_form version fs) a.0 a.1 ∙ ap Some h.1) (ap is_within (sym h.1) ∙ h.0)

pub entry_again : (version : Version) (n : ℕ) (e : Entry) → IsBooking e.row → IsTellable version e.row → is_assignable e.channel ≡ true → read_booking version n (booking_fields version e.row e.channel) ≡ Ok e
unfolding read_booking
entry_again version n e booking told assigned = rw (booking_again version e booking told assigned, within_from e booking assigned) refl

pub charge_takes : (n : ℕ) (fs : List (List ℕ)) (p : Charge) → read_price n fs ≡ Ok p → (fs ≡ price_fields p) × IsCharge p
unfolding read_price
charge_takes n fs p read =
    let a = bind_ok (or_fault (BadLine n) (price_form fs)) (λ x. where_holds (is_charge x) (OutOfLimits n) x) p read in
    let h = holds_ok (is_charge a.0) (OutOfLimits n) a.0 p a.2 in
    price_takes fs p (or_ok (BadLine n) (price_form fs) a.0 a.1 ∙ ap Some h.1) (ap is_charge (sym h.1) ∙ h.0)

pub charge_again : (n : ℕ) (p : Charge) → IsCharge p → read_price n (price_fields p) ≡ Ok p
unfolding read_price
charge_again n p h = let again = price_again p h in rw (again.0, again.1) refl

pub ends_so : (n : ℕ) (fs : List (List ℕ)) (rest x : List ℕ) → read_end n fs rest ≡ Ok x → (fs ≡ codes "end" ∷ []) × (rest ≡ [])
unfolding read_end
ends_so n fs rest x e =
    let a = bind_ok (where_holds (is_end fs) (BadLine n) rest) (λ following. where_holds (eqb (length following) 0) Trailing following) x e in
    let h = holds_ok (is_end fs) (BadLine n) rest a.0 a.1 in
    let g = holds_ok (eqb (length a.0) 0) Trailing a.0 x a.2 in
    (end_takes fs h.0, h.1 ∙ nil_from_length a.0 (eqb-true _ _ g.0))

pub ends_again : (n : ℕ) → read_end n (codes "end" ∷ []) [] ≡ Ok []
unfolding read_end
ends_again n = rw end_again refl

-- ---- fields without spaces or LFs

pub plain_decimal : (n : ℕ) → n < 2 ^ 64 → is_plain (decimal n) ≡ true
plain_decimal n small = plain_from_digits (decimal n) (digits-decimal n small)

pub plain_decimals : (ns : List ℕ) → ((i : ℕ) → get_or ns i 0 ≤ 31) → are_plain (map decimal ns) ≡ true
plain_decimals [] small = refl
plain_decimals (n ∷ ns) small = let low = small 0 in rw (plain_decimal n (omega arith), plain_decimals ns (λ i. small (suc i))) refl

pub plain_channel : (c : Option ℕ) → is_assignable c ≡ true → is_plain (channel_field c) ≡ true
plain_channel None h = refl
plain_channel (Some n) h = let channel = IsChannel-from_test n h in plain_decimal n (omega (arith, channel.1))

pub plain_must : (b : Bool) → is_plain (must_field b) ≡ true
plain_must true = refl
plain_must false = refl

pub plain_direction : (b : Bool) → is_plain (direction_field b) ≡ true
plain_direction true = refl
plain_direction false = refl

pub plain_marks : (version : Version) (row : Row) → are_plain (mark_fields version row) ≡ true
plain_marks One row = refl
plain_marks Two row = rw (plain_must row.must) refl
plain_marks Three row = rw (plain_must row.must, plain_direction row.inward) refl

pub plain_booking : (version : Version) (row : Row) (c : Option ℕ) → IsBooking row → is_assignable c ≡ true → are_plain (booking_fields version row c) ≡ true
plain_booking version row c h assigned =
    let number = plain_from_digits row.number (and_both (ltb 0 (length row.number)) (list_all is_ascii_digit row.number) (test_from_number row.number h.number)).1 in
    rw (plain_decimal row.start (omega (arith, h.in_order, h.in_day)), plain_decimal row.end (omega (arith, h.in_day)), plain_decimal row.pay (omega (arith, h.pay_limit)), number, plain_channel c assigned) (plain_marks version row)

pub plain_version : (version : Version) → are_plain (codes "bx-plan" ∷ version_field version ∷ []) ≡ true
plain_version One = refl
plain_version Two = refl
plain_version Three = refl

pub plain_named : (word : List ℕ) (n : ℕ) → is_plain word ≡ true → n < 2 ^ 64 → are_plain (named word n) ≡ true
plain_named word n h small = rw (h, plain_decimal n small) refl

pub plain_price : (p : Charge) → IsCharge p → are_plain (price_fields p) ≡ true
plain_price p h = rw (plain_decimal p.moment (omega (arith, h.in_day)), plain_decimal p.amount (omega (arith, h.limit))) refl
