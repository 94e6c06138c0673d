-- Moments that have come, counted, and what runs between starts and ends.
use Rattle.std.proofs.Common.{zero, suc, ◌≡◌, ℕ, ◌+◌, ◌-◌, ◌<◌, ◌≤◌, Bool, true, false, cond, ◌&&◌, not, List, ◌++◌, Option, Some, None, is_some, length, take, drop, get_or, refl, ◌∙◌, ap, subst, arith, inl, inr}
use Rattle.std.specs.Prelude.{IfNone, nat_le, sum_by}
use Rattle.std.specs.List.Sorted.{IsNonDecreasing}
use Rattle.std.proofs.lemmas.Bool.{cases_lt, cases_order}
use Rattle.std.proofs.lemmas.Bool.Decides.{nat_tests}
use Rattle.std.proofs.lemmas.List.{append-nil, drop_all, take_all}
use Rattle.std.proofs.lemmas.List.Sums.{sum_by_more, sum_by-take-le, sum_by-le-sum_by, count_by-le-length}
use Rattle.bx_base.specs.Sums.{sum_below}
use Rattle.bx_base.proofs.SumLemmas.{sum_below-next}
use Rattle.bx_base.specs.Bookings.{Row, row_at, is_running}
use Rattle.bx_colour.specs.Colouring.{is_in, running_at}
use Rattle.bx_colour.specs.Above.{IsFirstAbove}
use Rattle.bx_colour.specs.Counted.{counted_to, running_between}

-- whether a moment has come by another, as a number
abbrev pub come : ℕ → ℕ → ℕ
come t s = cond {A = ℕ} (nat_le s t) 1 0

come_most : (t s : ℕ) → come t s ≤ 1
come_most t s = grind (arith, nat_tests)

come_rises : (s t x : ℕ) → s ≤ t → come s x ≤ come t x
come_rises s t x h = grind (arith, nat_tests)

has_come : (t s : ℕ) → s ≤ t → come t s ≡ 1
has_come t s h = grind (arith, nat_tests)

not_come : (t s : ℕ) → t < s → come t s ≡ 0
not_come t s h = grind (arith, nat_tests)

pub counted_most : (moments : List ℕ) (t : ℕ) → counted_to moments t ≤ length moments
counted_most moments t = count_by-le-length (λ s. nat_le s t) moments

pub counted_rises : (moments : List ℕ) (s t : ℕ) → s ≤ t → counted_to moments s ≤ counted_to moments t
counted_rises moments s t h = sum_by-le-sum_by (come s) (come t) moments (λ x. come_rises s t x h)

all_come : (moments : List ℕ) (t k : ℕ) → k ≤ length moments → ((j : ℕ) → j < k → get_or moments j 0 ≤ t) → sum_by (come t) (take k moments) ≡ k
all_come moments t zero h each = refl
all_come moments t (suc k) h each =
    let here : sum_by (come t) (take (k + 1) moments) ≡ k + 1 = omega (arith, all_come moments t k (omega arith) (λ j l. each j (omega arith)), sum_by_more (come t) moments k 0 (omega arith), has_come t (get_or moments k 0) (each k (omega arith))) in
    let e : k + 1 ≡ suc k = omega arith in
    subst (λ (n : ℕ). sum_by (come t) (take n moments) ≡ n) e here

at_most : (moments : List ℕ) (t k : ℕ) → k ≤ length moments → sum_by (come t) (take k moments) ≤ k
at_most moments t zero h = omega arith
at_most moments t (suc k) h =
    let here : sum_by (come t) (take (k + 1) moments) ≤ k + 1 = omega (arith, at_most moments t k (omega arith), sum_by_more (come t) moments k 0 (omega arith), come_most t (get_or moments k 0)) in
    let e : k + 1 ≡ suc k = omega arith in
    subst (λ (n : ℕ). sum_by (come t) (take n moments) ≤ n) e here

none_more : (moments : List ℕ) (t i m : ℕ) → i + m ≤ length moments → ((j : ℕ) → i ≤ j → j < i + m → t < get_or moments j 0) → sum_by (come t) (take (i + m) moments) ≤ i
none_more moments t i zero h each =
    let here = at_most moments t i (omega arith) in
    let e : i ≡ i + zero = omega arith in
    subst (λ (n : ℕ). sum_by (come t) (take n moments) ≤ i) e here
none_more moments t i (suc m) h each =
    let here : sum_by (come t) (take (i + m + 1) moments) ≤ i = omega (arith, none_more moments t i m (omega arith) (λ j a b. each j a (omega arith)), sum_by_more (come t) moments (i + m) 0 (omega arith), not_come t (get_or moments (i + m) 0) (each (i + m) (omega arith) (omega arith))) in
    let e : i + m + 1 ≡ i + suc m = omega arith in
    subst (λ (n : ℕ). sum_by (come t) (take n moments) ≤ i) e here

-- of moments that do not fall: as many have come as stand up to one that has
pub come_up_to : (moments : List ℕ) (i t : ℕ) → IsNonDecreasing moments → i < length moments → get_or moments i 0 ≤ t → i + 1 ≤ counted_to moments t
come_up_to moments i t rising h here =
    omega (arith, all_come moments t (i + 1) (omega arith) (λ j l. (let le = rising j i 0 (omega arith) h in omega (arith, le, here))), sum_by-take-le (come t) moments (i + 1))

-- and none from one on that has not
pub come_before : (moments : List ℕ) (i t : ℕ) → IsNonDecreasing moments → i < length moments → t < get_or moments i 0 → counted_to moments t ≤ i
come_before moments i t rising h here =
    let all = none_more moments t i (length moments - i) (omega arith) (λ j a b. (let le = rising i j 0 a (omega arith) in omega (arith, le, here))) in
    subst (λ (xs : List ℕ). sum_by (come t) xs ≤ i) (take_all (i + (length moments - i)) moments (omega arith)) all

-- where more have come than stand before one, that one has
pub has_started : (moments : List ℕ) (i t : ℕ) → IsNonDecreasing moments → i < length moments → i + 1 ≤ counted_to moments t → get_or moments i 0 ≤ t
has_started moments i t rising h many = elim (cases_lt t (get_or moments i 0)) [
  | inl later ↦ absurd (let few = come_before moments i t rising h later in omega (arith, few, many))
  | inr now ↦ now
]

-- a list that is written whole
pub refilled : (before after : List ℕ) → length after ≡ length before → take (length before) (after ++ drop (length after) before) ≡ after
refilled before after e = ap (λ zs. take (length before) (after ++ zs)) (drop_all (length after) before (omega (arith, e))) ∙ ap (take (length before)) (append-nil after) ∙ take_all (length before) after (omega (arith, e))

-- the first of two firsts is the other
pub one_first : (above : ℕ → ℕ) (limit m t : ℕ) → limit < above m → ((s : ℕ) → s < m → above s ≤ limit) → limit < above t → ((s : ℕ) → s < t → above s ≤ limit) → m ≡ t
one_first above limit m t here none there before = elim (cases_order m t) [
  | inl e ↦ e
  | inr (inl less) ↦ absurd (let h = before m less in omega (arith, h, here))
  | inr (inr more) ↦ absurd (let h = none t more in omega (arith, h, there))
]

-- what runs at a start above the limit, where none before it is, is the first
pub first_found : (starts ends : List ℕ) (limit index ended : ℕ) → IsNonDecreasing starts → index < length starts → ended ≡ counted_to ends (get_or starts index 0) → ended + limit ≤ index
    → ((s : ℕ) → counted_to starts s ≤ index → running_between starts ends s ≤ limit) → IsFirstAbove starts ends limit (get_or starts index 0)
first_found starts ends limit index ended rising within e above none =
    let m = get_or starts index 0 in
    let come_by_now = come_up_to starts index m rising within (omega arith) in
    (omega (arith, come_by_now, e, above), λ s h. none s (come_before starts index s rising within h))

-- a row more, of those that are marked
pub add_marked : (rows : List Row) (marked : ℕ → Bool) (n t : ℕ) (b : Bool) (before after : ℕ) → marked n ≡ b
    → before ≡ sum_below n (λ j. cond (marked j && is_running (row_at rows j) t) 1 0) → after ≡ before + cond (b && is_running (row_at rows n) t) 1 0
    → after ≡ sum_below (n + 1) (λ j. cond (marked j && is_running (row_at rows j) t) 1 0)
add_marked rows marked n t b before after e h k =
    let next = sum_below-next n (λ j. cond (marked j && is_running (row_at rows j) t) 1 0) in
    let term : cond {A = ℕ} (marked n && is_running (row_at rows n) t) 1 0 ≡ cond (b && is_running (row_at rows n) t) 1 0 = rw e refl in
    omega (arith, next, term, h, k)

-- none is above only where none is found
pub none_found : (found : Option ℕ) (b : Bool) (limit : ℕ) (above : ℕ → ℕ) → is_some found ≡ not b
    → ((t : ℕ) → found ≡ Some t → limit < above t) → ((t : ℕ) → above t ≤ limit) → b ≡ true
none_found None true limit above e h room = refl
none_found None false limit above e h room = absurd (cc)
none_found (Some t) b limit above e h room = let less = h t refl in let most = room t in absurd (omega arith)

pub if_none : (found : Option ℕ) (b : Bool) (P : Type 0) → is_some found ≡ not b → b ≡ true → IfNone found P → P
if_none None b P e t h = h
if_none (Some x) b P e t h = absurd (let q = rw t at e in cc)

-- the sum over all rows
pub all_rows : (rows : List Row) (accepted : List Bool) (n m sum : ℕ) → n ≡ length rows → sum ≡ sum_below n (λ j. cond (is_in accepted j && is_running (row_at rows j) m) 1 0) → sum ≡ running_at rows accepted m
all_rows rows accepted n m sum e h = rw e at h
