-- Each line that is read is spelled as it has to be, and each that is spelled so is read.
use Rattle.std.proofs.Common.{◌≡◌, ℕ, suc, ◌^◌, ◌<◌, ◌≤◌, lit<, Bool, true, false, ◌&&◌, ◌||◌, not, ltb, leb, eqb, cond, List, [], ◌∷◌, map, length, get_or, Option, Some, None, refl, sym, ap, ◌∙◌, arith, subst}
use Rattle.std.specs.Prelude.{codes, decimal}
use Rattle.std.specs.List.{list_all}
use Rattle.std.specs.Str.{bytes_eq}
use Rattle.std.proofs.lemmas.Bool.{eqb-true, ltb-true, leb-true, lt-ltb, le-leb}
use Rattle.std.proofs.lemmas.List.{nil_from_length}
use Rattle.std.proofs.lemmas.Option.{cond_some}
use Rattle.std.proofs.lemmas.Slice.Eq.{bytes_eq-Decides}
use Rattle.bx_base.specs.Channels.{IsChannelSet}
use Rattle.bx_base.specs.Bookings.{Row, IsBooking}
use Rattle.bx_base.specs.Bound.{Charge, IsCharge, charge_of}
use Rattle.bx_planfile.specs.declared.version.Version.{Version}
use Rattle.bx_planfile.specs.declared.version.Version.TheVariants.{One, Two, Three}
use Rattle.bx_planfile.specs.Lines.{field, fields_from}
use Rattle.bx_text.specs.Lines.{members_from, named}
use Rattle.bx_planfile.specs.Text.{version_field, channel_field, must_field, direction_field, mark_fields, booking_fields, price_fields, IsTellable}
use Rattle.bx_planfile.specs.Forms.{Entry, Marks, marks, is_nothing, is_digits, is_decimal, version_of, header_form, named_form, channels_form, channel_set, is_channel_field, channel_field_of, is_must_field, is_direction_field, marks_form, file_entry_of, marked, booking_form, is_assignable, is_within, price_form, is_charge, is_end}
use Rattle.bx_text.specs.Digits.{decimal_value}
use Rattle.bx_text.proofs.DigitSteps.{and_both}
use Rattle.bx_planfile.proofs.DecimalLaws.{is_decimal-decimal, value-decimal, decimal-value, some_digits, digits_from_decimal, digits-decimal}
use Rattle.bx_planfile.proofs.Limits.{from_within, test_from_number, false_from_not}
use Rattle.bx_planfile.proofs.ChannelSets.{set_is_listed, listed_gives, taken_branch, IsChannel-from_test}

bytes_is : (xs ys : List ℕ) → bytes_eq xs ys ≡ true → xs ≡ ys
bytes_is xs ys e = (bytes_eq-Decides xs ys).0 e

bytes_same : (xs : List ℕ) → bytes_eq xs xs ≡ true
bytes_same xs = (bytes_eq-Decides xs xs).1 refl

nothing_is : (fields : List (List ℕ)) → is_nothing fields ≡ true → fields ≡ []
nothing_is fields e = nil_from_length fields (eqb-true _ _ e)

-- fields, where the last of those that are named is not empty
one_field : (fs : List (List ℕ)) → 0 < length (field 0 fs) → fs ≡ field 0 fs ∷ fields_from 1 fs
one_field [] h = absurd (omega arith)
one_field (a ∷ fs) h = refl

two_fields : (fs : List (List ℕ)) → 0 < length (field 1 fs) → fs ≡ field 0 fs ∷ field 1 fs ∷ fields_from 2 fs
two_fields [] h = absurd (omega arith)
two_fields (a ∷ []) h = absurd (omega arith)
two_fields (a ∷ b ∷ fs) h = refl

five_fields : (fs : List (List ℕ)) → 0 < length (field 4 fs) → fs ≡ field 0 fs ∷ field 1 fs ∷ field 2 fs ∷ field 3 fs ∷ field 4 fs ∷ fields_from 5 fs
five_fields [] h = absurd (omega arith)
five_fields (a ∷ []) h = absurd (omega arith)
five_fields (a ∷ b ∷ []) h = absurd (omega arith)
five_fields (a ∷ b ∷ c ∷ []) h = absurd (omega arith)
five_fields (a ∷ b ∷ c ∷ d ∷ []) h = absurd (omega arith)
five_fields (a ∷ b ∷ c ∷ d ∷ e ∷ fs) h = refl

some_decimal : (f : List ℕ) → is_decimal f ≡ true → 0 < length f
some_decimal f e = some_digits f (digits_from_decimal f e)

-- ---- the first line

version_at : (f : List ℕ) (a b c : Bool) (v : Version) → bytes_eq f (codes "1") ≡ a → bytes_eq f (codes "2") ≡ b → bytes_eq f (codes "3") ≡ c
    → cond a (Some One) (cond b (Some Two) (cond c (Some Three) None)) ≡ Some v → f ≡ version_field v
version_at f true b c v p q r e = let same : One ≡ v = cc in bytes_is f (codes "1") p ∙ ap version_field same
version_at f false true c v p q r e = let same : Two ≡ v = cc in bytes_is f (codes "2") q ∙ ap version_field same
version_at f false false true v p q r e = let same : Three ≡ v = cc in bytes_is f (codes "3") r ∙ ap version_field same
version_at f false false false v p q r e = absurd cc

version_takes : (f : List ℕ) (v : Version) → version_of f ≡ Some v → f ≡ version_field v
version_takes f v e = version_at f (bytes_eq f (codes "1")) (bytes_eq f (codes "2")) (bytes_eq f (codes "3")) v refl refl refl e

some_version : (v : Version) → 0 < length (version_field v)
some_version One = lit< tt
some_version Two = lit< tt
some_version Three = lit< tt

pub header_takes : (fs : List (List ℕ)) (v : Version) → header_form fs ≡ Some v → fs ≡ codes "bx-plan" ∷ version_field v ∷ []
unfolding header_form
header_takes fs v e =
    let c = taken_branch (bytes_eq (field 0 fs) (codes "bx-plan") && is_nothing (fields_from 2 fs)) (version_of (field 1 fs)) v e in
    let t = and_both (bytes_eq (field 0 fs) (codes "bx-plan")) (is_nothing (fields_from 2 fs)) c.0 in
    let word = bytes_is (field 0 fs) (codes "bx-plan") t.0 in
    let version = version_takes (field 1 fs) v c.1 in
    let none = nothing_is (fields_from 2 fs) t.1 in
    let some : 0 < length (field 1 fs) = rw version (some_version v) in
    two_fields fs some ∙ rw (word, version, none) refl

pub header_again : (v : Version) → header_form (codes "bx-plan" ∷ version_field v ∷ []) ≡ Some v
unfolding header_form
header_again One = refl
header_again Two = refl
header_again Three = refl

-- ---- a word and a number

pub named_takes : (word : List ℕ) (fs : List (List ℕ)) (n : ℕ) → named_form word fs ≡ Some n → n < 2 ^ 64 → fs ≡ named word n
unfolding named_form
named_takes word fs n e small =
    let c = cond_some (bytes_eq (field 0 fs) word && is_decimal (field 1 fs) && is_nothing (fields_from 2 fs)) (decimal_value (field 1 fs)) n e in
    let t = and_both _ (is_nothing (fields_from 2 fs)) c.0 in
    let u = and_both (bytes_eq (field 0 fs) word) (is_decimal (field 1 fs)) t.0 in
    let named_so = bytes_is (field 0 fs) word u.0 in
    let spelled : decimal n ≡ field 1 fs = ap decimal (sym c.1) ∙ decimal-value (field 1 fs) u.1 (rw c.1 small) in
    let none = nothing_is (fields_from 2 fs) t.1 in
    two_fields fs (some_decimal (field 1 fs) u.1) ∙ rw (named_so, none, spelled) refl

pub named_again : (word : List ℕ) (n : ℕ) → n < 2 ^ 64 → named_form word (named word n) ≡ Some n
unfolding named_form
named_again word n small = rw (bytes_same word, is_decimal-decimal n small, value-decimal n small) refl

-- ---- the channels

decimals_spelled : (fs : List (List ℕ)) → list_all is_decimal fs ≡ true → ((i : ℕ) → get_or (map decimal_value fs) i 0 ≤ 31) → map decimal (map decimal_value fs) ≡ fs
decimals_spelled [] e small = refl
decimals_spelled (f ∷ fs) e small =
    let t = and_both (is_decimal f) (list_all is_decimal fs) e in
    let low : decimal_value f ≤ 31 = small 0 in
    let below : decimal_value f < 2 ^ 64 = omega arith in
    rw (decimal-value f t.0 below, decimals_spelled fs t.1 (λ i. small (suc i))) refl

pub channels_take : (fs : List (List ℕ)) (ns : List ℕ) (bs : List Bool) → channels_form fs ≡ Some ns → channel_set ns ≡ Some bs
    → (fs ≡ codes "channels" ∷ map decimal (members_from 0 bs)) × IsChannelSet bs
unfolding channels_form
channels_take fs ns bs e made =
    let c = cond_some (bytes_eq (field 0 fs) (codes "channels") && list_all is_decimal (fields_from 1 fs)) (map decimal_value (fields_from 1 fs)) ns e in
    let t = and_both (bytes_eq (field 0 fs) (codes "channels")) (list_all is_decimal (fields_from 1 fs)) c.0 in
    let added = set_is_listed ns bs made in
    let listed : members_from 0 bs ≡ ns = added.listed in
    let word = bytes_is (field 0 fs) (codes "channels") t.0 in
    let some : 0 < length (field 0 fs) = rw word (lit< tt) in
    let spelled : map decimal ns ≡ fields_from 1 fs = ap (map decimal) (sym c.1) ∙ decimals_spelled (fields_from 1 fs) t.1 (λ i. rw c.1 (added.small i)) in
    (one_field fs some ∙ rw (word, listed, spelled) refl, added.channels)

all_decimals : (ns : List ℕ) → ((i : ℕ) → get_or ns i 0 < 2 ^ 64) → (list_all is_decimal (map decimal ns) ≡ true) × (map decimal_value (map decimal ns) ≡ ns)
all_decimals [] small = (refl, refl)
all_decimals (n ∷ ns) small =
    let more = all_decimals ns (λ i. small (suc i)) in
    (rw (is_decimal-decimal n (small 0)) more.0, rw (value-decimal n (small 0), more.1) refl)

pub channels_again : (bs : List Bool) → IsChannelSet bs → (channels_form (codes "channels" ∷ map decimal (members_from 0 bs)) ≡ Some (members_from 0 bs)) × (channel_set (members_from 0 bs) ≡ Some bs)
unfolding channels_form
channels_again bs h =
    let made = listed_gives bs h in
    let added = set_is_listed (members_from 0 bs) bs made in
    let all = all_decimals (members_from 0 bs) (λ i. let low = added.small i in omega arith) in
    (rw (all.0, all.1) refl, made)

-- ---- a booking

channel_takes : (f : List ℕ) (dash : Bool) → bytes_eq f (codes "-") ≡ dash → (dash || is_decimal f) ≡ true → is_assignable (cond dash None (Some (decimal_value f))) ≡ true
    → (channel_field (cond dash None (Some (decimal_value f))) ≡ f) × (0 < length f)
channel_takes f true e form fits = let is = bytes_is f (codes "-") e in (sym is, rw is (lit< tt))
channel_takes f false e form fits =
    let t = and_both _ (not (eqb (decimal_value f) 16)) fits in
    let low : decimal_value f < 32 = ltb-true _ _ (and_both (ltb 0 (decimal_value f)) (ltb (decimal_value f) 32) t.0).1 in
    (decimal-value f form (omega arith), some_decimal f form)

must_takes : (f : List ℕ) (is : Bool) → bytes_eq f (codes "must") ≡ is → (is || bytes_eq f (codes "free")) ≡ true → f ≡ must_field is
must_takes f true e h = bytes_is f (codes "must") e
must_takes f false e h = bytes_is f (codes "free") h

direction_takes : (f : List ℕ) (is : Bool) → bytes_eq f (codes "in") ≡ is → (is || bytes_eq f (codes "out")) ≡ true → f ≡ direction_field is
direction_takes f true e h = bytes_is f (codes "in") e
direction_takes f false e h = bytes_is f (codes "out") h

some_must : (b : Bool) → 0 < length (must_field b)
some_must true = lit< tt
some_must false = lit< tt

some_direction : (b : Bool) → 0 < length (direction_field b)
some_direction true = lit< tt
some_direction false = lit< tt

-- the marks of a row are those of its fields
pub record IsMarked (version : Version) (fs : List (List ℕ)) (row : Row) : Type 0 where
  pub spelled : fs ≡ mark_fields version row
  pub told : IsTellable version row

marks_take : (version : Version) (fs : List (List ℕ)) (m : Marks) (row : Row) → marks_form version fs ≡ Some m → row.must ≡ m.must → row.inward ≡ m.inward → IsMarked version fs row
marks_take One fs m row e must inward =
    let c = cond_some (is_nothing fs) (marks false false) m e in
    record { spelled = nothing_is fs c.0; told = (must ∙ sym (ap (λ (x : Marks). x.must) c.1), inward ∙ sym (ap (λ (x : Marks). x.inward) c.1)) }
marks_take Two fs m row e must inward =
    let is = bytes_eq (field 0 fs) (codes "must") in
    let c = cond_some (is_must_field (field 0 fs) && is_nothing (fields_from 1 fs)) (marks is false) m e in
    let t = and_both (is_must_field (field 0 fs)) (is_nothing (fields_from 1 fs)) c.0 in
    let same : is ≡ row.must = ap (λ (x : Marks). x.must) c.1 ∙ sym must in
    let mark : field 0 fs ≡ must_field row.must = must_takes (field 0 fs) is refl t.0 ∙ ap must_field same in
    let some : 0 < length (field 0 fs) = rw mark (some_must row.must) in
    record {
      spelled = one_field fs some ∙ rw (mark, nothing_is (fields_from 1 fs) t.1) refl;
      told = inward ∙ sym (ap (λ (x : Marks). x.inward) c.1);
    }
marks_take Three fs m row e must inward =
    let is = bytes_eq (field 0 fs) (codes "must") in
    let is_in = bytes_eq (field 1 fs) (codes "in") in
    let c = cond_some (is_must_field (field 0 fs) && is_direction_field (field 1 fs) && is_nothing (fields_from 2 fs)) (marks is is_in) m e in
    let t = and_both _ (is_nothing (fields_from 2 fs)) c.0 in
    let u = and_both (is_must_field (field 0 fs)) (is_direction_field (field 1 fs)) t.0 in
    let same : is ≡ row.must = ap (λ (x : Marks). x.must) c.1 ∙ sym must in
    let same_way : is_in ≡ row.inward = ap (λ (x : Marks). x.inward) c.1 ∙ sym inward in
    let mark : field 0 fs ≡ must_field row.must = must_takes (field 0 fs) is refl u.0 ∙ ap must_field same in
    let way : field 1 fs ≡ direction_field row.inward = direction_takes (field 1 fs) is_in refl u.1 ∙ ap direction_field same_way in
    let some : 0 < length (field 1 fs) = rw way (some_direction row.inward) in
    record { spelled = two_fields fs some ∙ rw (mark, way, nothing_is (fields_from 2 fs) t.1) refl; told = tt }

marks_again : (version : Version) (row : Row) → IsTellable version row → marks_form version (mark_fields version row) ≡ Some (marks row.must row.inward)
marks_again One row told = rw (told.0, told.1) refl
marks_again Two row told = rw told (elim row.must as (λ b. marks_form Two (must_field b ∷ []) ≡ Some (marks b false)) [ true ↦ refl | false ↦ refl ])
marks_again Three row told =
    elim row.must as (λ b. marks_form Three (must_field b ∷ direction_field row.inward ∷ []) ≡ Some (marks b row.inward)) [
      | true ↦ elim row.inward as (λ i. marks_form Three (must_field true ∷ direction_field i ∷ []) ≡ Some (marks true i)) [ true ↦ refl | false ↦ refl ]
      | false ↦ elim row.inward as (λ i. marks_form Three (must_field false ∷ direction_field i ∷ []) ≡ Some (marks false i)) [ true ↦ refl | false ↦ refl ]
    ]

-- what the line of a booking within its limits is
pub record IsBookingLine (version : Version) (fs : List (List ℕ)) (e : Entry) : Type 0 where
  pub spelled : fs ≡ booking_fields version e.row e.channel
  pub told : IsTellable version e.row
  pub booking : IsBooking e.row
  pub channel : is_assignable e.channel ≡ true

marks_found : (fs : List (List ℕ)) (o : Option Marks) (e : Entry) → marked fs o ≡ Some e → (m : Marks) × (o ≡ Some m) × (file_entry_of fs m ≡ e)
marks_found fs None e h = absurd cc
marks_found fs (Some m) e h = (m, refl, cc)

pub booking_takes : (version : Version) (fs : List (List ℕ)) (e : Entry) → booking_form version fs ≡ Some e → is_within e ≡ true → IsBookingLine version fs e
unfolding booking_form
booking_takes version fs e form within =
    let c = taken_branch (is_decimal (field 0 fs) && is_decimal (field 1 fs) && is_decimal (field 2 fs) && is_digits (field 3 fs) && is_channel_field (field 4 fs)) (marked fs (marks_form version (fields_from 5 fs))) e form in
    let t4 = and_both _ (is_channel_field (field 4 fs)) c.0 in
    let t3 = and_both _ (is_digits (field 3 fs)) t4.0 in
    let t2 = and_both _ (is_decimal (field 2 fs)) t3.0 in
    let t1 = and_both (is_decimal (field 0 fs)) (is_decimal (field 1 fs)) t2.0 in
    let found = marks_found fs (marks_form version (fields_from 5 fs)) e c.1 in
    let m = found.0 in
    let made = file_entry_of fs m in
    let fits : is_within made ≡ true = ap is_within found.2 ∙ within in
    let limits = from_within made t3.1 fits in
    let booking = limits.0 in
    let marked_so = marks_take version (fields_from 5 fs) m made.row found.1 refl refl in
    let start : decimal (decimal_value (field 0 fs)) ≡ field 0 fs = decimal-value (field 0 fs) t1.0 (omega (arith, booking.in_order, booking.in_day)) in
    let end : decimal (decimal_value (field 1 fs)) ≡ field 1 fs = decimal-value (field 1 fs) t1.1 (omega (arith, booking.in_day)) in
    let pay : decimal (decimal_value (field 2 fs)) ≡ field 2 fs = decimal-value (field 2 fs) t2.1 (omega (arith, booking.pay_limit)) in
    let channel = channel_takes (field 4 fs) (bytes_eq (field 4 fs) (codes "-")) refl t4.1 limits.1 in
    let spelled : fs ≡ booking_fields version made.row made.channel
    = five_fields fs channel.1 ∙ rw (start, end, pay, channel.0, ← marked_so.spelled) refl in
    subst (λ (x : Entry). IsBookingLine version fs x) found.2 (record { spelled = spelled; told = marked_so.told; booking = booking; channel = limits.1 })

no_dash : (n : ℕ) → n < 2 ^ 64 → bytes_eq (decimal n) (codes "-") ≡ false
no_dash n small = false_from_not (bytes_eq (decimal n) (codes "-")) (λ e.
    let same = bytes_is (decimal n) (codes "-") e in
    let digits : false ≡ true = rw same at (digits-decimal n small) in
    absurd cc)

channel_again : (c : Option ℕ) → is_assignable c ≡ true → (is_channel_field (channel_field c) ≡ true) × (channel_field_of (channel_field c) ≡ c)
channel_again None h = (refl, refl)
channel_again (Some n) h =
    let channel = IsChannel-from_test n h in
    let small : n < 2 ^ 64 = omega (arith, channel.1) in
    let dash = no_dash n small in
    (rw (dash, is_decimal-decimal n small) refl, rw (dash, value-decimal n small) refl)

pub booking_again : (version : Version) (e : Entry) → IsBooking e.row → IsTellable version e.row → is_assignable e.channel ≡ true → booking_form version (booking_fields version e.row e.channel) ≡ Some e
unfolding booking_form
booking_again version e booking told assigned =
    let start : e.row.start < 2 ^ 64 = omega (arith, booking.in_order, booking.in_day) in
    let end : e.row.end < 2 ^ 64 = omega (arith, booking.in_day) in
    let pay : e.row.pay < 2 ^ 64 = omega (arith, booking.pay_limit) in
    let channel = channel_again e.channel assigned in
    rw (
      is_decimal-decimal e.row.start start,
      is_decimal-decimal e.row.end end,
      is_decimal-decimal e.row.pay pay,
      test_from_number e.row.number booking.number,
      channel.0,
      marks_again version e.row told,
      value-decimal e.row.start start,
      value-decimal e.row.end end,
      value-decimal e.row.pay pay,
      channel.1,
    ) refl

-- ---- a price, and the last line

pub price_takes : (fs : List (List ℕ)) (p : Charge) → price_form fs ≡ Some p → is_charge p ≡ true → (fs ≡ price_fields p) × IsCharge p
unfolding price_form is_charge
price_takes fs p form within =
    let c = cond_some (is_decimal (field 0 fs) && is_decimal (field 1 fs) && is_nothing (fields_from 2 fs)) (charge_of (decimal_value (field 0 fs)) (decimal_value (field 1 fs))) p form in
    let t = and_both _ (is_nothing (fields_from 2 fs)) c.0 in
    let u = and_both (is_decimal (field 0 fs)) (is_decimal (field 1 fs)) t.0 in
    let v = and_both _ (leb p.amount 16000000000000) within in
    let w = and_both (ltb p.moment 200000) (leb 1 p.amount) v.0 in
    let limits : IsCharge p = record { in_day = ltb-true _ _ w.0; positive = leb-true _ _ w.1; limit = leb-true _ _ v.1 } in
    let moment : decimal_value (field 0 fs) ≡ p.moment = ap (λ (x : Charge). x.moment) c.1 in
    let amount : decimal_value (field 1 fs) ≡ p.amount = ap (λ (x : Charge). x.amount) c.1 in
    let first_is : decimal p.moment ≡ field 0 fs = ap decimal (sym moment) ∙ decimal-value (field 0 fs) u.0 (omega (arith, moment, limits.in_day)) in
    let second_is : decimal p.amount ≡ field 1 fs = ap decimal (sym amount) ∙ decimal-value (field 1 fs) u.1 (omega (arith, amount, limits.limit)) in
    (two_fields fs (some_decimal (field 1 fs) u.1) ∙ rw (first_is, second_is, nothing_is (fields_from 2 fs) t.1) refl, limits)

pub price_again : (p : Charge) → IsCharge p → (price_form (price_fields p) ≡ Some p) × (is_charge p ≡ true)
unfolding price_form is_charge
price_again p h =
    let moment : p.moment < 2 ^ 64 = omega (arith, h.in_day) in
    let amount : p.amount < 2 ^ 64 = omega (arith, h.limit) in (
      rw (is_decimal-decimal p.moment moment, is_decimal-decimal p.amount amount, value-decimal p.moment moment, value-decimal p.amount amount) refl,
      rw (lt-ltb _ _ h.in_day, le-leb _ _ h.positive, le-leb _ _ h.limit) refl,
    )

pub end_takes : (fs : List (List ℕ)) → is_end fs ≡ true → fs ≡ codes "end" ∷ []
unfolding is_end
end_takes fs e =
    let t = and_both (bytes_eq (field 0 fs) (codes "end")) (is_nothing (fields_from 1 fs)) e in
    let word = bytes_is (field 0 fs) (codes "end") t.0 in
    let some : 0 < length (field 0 fs) = rw word (lit< tt) in
    one_field fs some ∙ rw (word, nothing_is (fields_from 1 fs) t.1) refl

pub end_again : is_end (codes "end" ∷ []) ≡ true
unfolding is_end
end_again = refl
