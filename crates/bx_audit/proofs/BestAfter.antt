-- What was sold after a best plan leaves it best: no choice of all these rows pays more than what was accepted before with all that was sold.
use Rattle.std.proofs.Common.{◌≡◌, ◌∙◌, ◌⊎◌, inl, inr, ℕ, zero, suc, ◌-◌, ◌<◌, ◌≤◌, Bool, true, false, cond, List, ◌++◌, map, is_some, length, Option, arith, sym, ap, subst}
use Rattle.std.proofs.lemmas.Bool.{cases_lt}
use Rattle.std.proofs.lemmas.List.{length-append, length-map, get_or-map, get_or_append_left, get_or-append_right}
use Rattle.bx_base.specs.Bookings.{Row, row_at, no_row, Overlap, Carries, IsLawful, pay_of}
use Rattle.bx_base.specs.Plans.{is_accepted, channel_at}
use Rattle.bx_base.specs.Sums.{sum_below}
use Rattle.bx_base.proofs.SumLemmas.{sum_below-same}
use Rattle.bx_colour.specs.Colouring.{is_in}
use Rattle.bx_planner.specs.Choices.{IsBest}
use Rattle.bx_sales.proofs.Fitting.{marked_so}

sum_past : (n m : ℕ) (f g : ℕ → ℕ) → n ≤ m → sum_below n f ≤ sum_below n g → ((i : ℕ) → n ≤ i → i < m → f i ≤ g i) → sum_below m f ≤ sum_below m g
sum_past n zero f g le base each = omega arith
sum_past n (suc m) f g le base each = by_order (λ ge. sum_past n m f g ge base (λ i low lt. each i low (omega (arith, lt)))) (cases_lt m n) where
  by_order : (n ≤ m → sum_below m f ≤ sum_below m g) → (m < n) ⊎ (n ≤ m) → sum_below (suc m) f ≤ sum_below (suc m) g
  by_order before (inl lt) = let same : n ≡ suc m = omega (arith, lt, le) in subst (λ (k : ℕ). sum_below k f ≤ sum_below k g) same base
  by_order before (inr ge) =
      let so_far = before ge in
      let last = each m ge (omega arith) in
      omega (arith, so_far, last)

at_most : (a b : Bool) (pay : ℕ) → b ≡ true → cond a pay 0 ≤ cond b pay 0
at_most true true pay e = omega arith
at_most false true pay e = omega arith
at_most a false pay e = cc

all_in : (rows : List Row) (k : ℕ) → k < length rows → is_in (map (λ (row : Row). true) rows) k ≡ true
all_in rows k lt = get_or-map (λ (row : Row). true) rows k no_row false lt

module _ (rows sold : List Row) (channels : List Bool) (assigned : List (Option ℕ)) (count : length assigned ≡ length rows) (lawful : IsLawful rows channels (is_accepted assigned)) (best : IsBest rows channels (pay_of rows (is_accepted assigned))) where
  abbrev all : List Row
  all = rows ++ sold

  longer : (i : ℕ) → i < length rows → i < length all
  longer i lt = let n = length-append rows sold in omega (arith, lt, n)

  row_there : (i : ℕ) → i < length rows → row_at all i ≡ row_at rows i
  row_there i lt = get_or_append_left rows sold no_row i lt

  module _ (last : List (Option ℕ)) (accepted : map is_some last ≡ map is_some assigned ++ map (λ (row : Row). true) sold) where
    marks : ℕ → Bool
    marks i = is_in (map is_some assigned ++ map (λ (row : Row). true) sold) i

    marked : (i : ℕ) → is_accepted last i ≡ is_in (map is_some assigned ++ map (λ (row : Row). true) sold) i
    marked i = sym (marked_so last i) ∙ ap (λ (ms : List Bool). is_in ms i) accepted

    kept : (i : ℕ) → i < length rows → is_accepted last i ≡ is_accepted assigned i
    kept i lt =
        let n = length-map assigned is_some in
        marked i ∙ get_or_append_left (map is_some assigned) (map (λ (row : Row). true) sold) false i (omega (arith, lt, n, count)) ∙ marked_so assigned i

    taken : (i : ℕ) → length rows ≤ i → i < length all → is_accepted last i ≡ true
    taken i low lt =
        let n : length (map is_some assigned) ≡ length assigned = length-map assigned is_some in
        let size = length-append rows sold in
        marked i ∙ get_or-append_right (map is_some assigned) (map (λ (row : Row). true) sold) (length rows) i false (n ∙ count) low ∙ all_in sold (i - length rows) (omega (arith, low, lt, size))

    pub still_lawful : Carries all channels (is_accepted last) (channel_at last) → IsLawful all channels (is_accepted last)
    still_lawful carries = record {
      carried = (channel_at last, carries);
      has_musts = λ i lt must. by_order i lt must (cases_lt i (length rows));
    } where
      by_order : (i : ℕ) → i < length all → (row_at all i).must ≡ true → (i < length rows) ⊎ (length rows ≤ i) → is_accepted last i ≡ true
      by_order i lt must (inl here) = kept i here ∙ lawful.has_musts i here (sym (ap (λ (r : Row). r.must) (row_there i here)) ∙ must)
      by_order i lt must (inr past) = taken i past lt

    prefix : (set : ℕ → Bool) → IsLawful all channels set → IsLawful rows channels set
    prefix set l = record {
      carried = (
        l.carried.0,
        record {
          in_service = λ i lt a. l.carried.1.in_service i (longer i lt) a;
          apart = λ i j lt lj a b o. l.carried.1.apart i j lt (longer j lj) a b (subst (λ (x : Row). Overlap x (row_at all j)) (sym (row_there i (omega (arith, lt, lj)))) (subst (λ (y : Row). Overlap (row_at rows i) y) (sym (row_there j lj)) o));
        },
      );
      has_musts = λ i lt must. l.has_musts i (longer i lt) (ap (λ (r : Row). r.must) (row_there i lt) ∙ must);
    }

    pub still_best : IsBest all channels (pay_of all (is_accepted last))
    still_best set l =
        let n = length rows in
        let here = best set (prefix set l) in
        let of_set = sum_below-same n (λ i. cond (set i) (row_at all i).pay 0) (λ i. cond (set i) (row_at rows i).pay 0) (λ i lt. ap (λ (r : Row). cond (set i) r.pay 0) (row_there i lt)) in
        let of_last = sum_below-same n (λ i. cond (is_accepted last i) (row_at all i).pay 0) (λ i. cond (is_accepted assigned i) (row_at rows i).pay 0)
        (λ i lt. ap (λ (r : Row). cond (is_accepted last i) r.pay 0) (row_there i lt) ∙ ap (λ (b : Bool). cond {A = ℕ} b (row_at rows i).pay 0) (kept i lt)) in
        let size = length-append rows sold in
        sum_past n (length all) (λ i. cond (set i) (row_at all i).pay 0) (λ i. cond (is_accepted last i) (row_at all i).pay 0) (omega (arith, size)) (omega (arith, here, of_set, of_last)) (λ i low lt. at_most (set i) (is_accepted last i) (row_at all i).pay (taken i low lt))
