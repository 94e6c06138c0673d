-- At which seconds a call may start.
use Rattle.std.proofs.Common.{◌≡◌, ◌≢◌, ◌↔◌, ℕ, zero, suc, ◌+◌, ◌<◌, ◌≤◌, ◌&&◌, Bool, true, false, nat_le, nat_lt, if◌then◌else◌, List, [], ◌∷◌, ◌++◌, length, slice_index_or, slice_set, Result, Ok, Err, IfOk, sym, subst, ap, ◌∙◌, inl, inr, arith}
use Rattle.std.proofs.lemmas.Bool.{true≢false, cases_eq, cases_lt}
use Rattle.std.proofs.lemmas.Bool.Decides.{nat_tests}
use Rattle.std.proofs.lemmas.List.{get_or-set_same, get_or-set_other, get_or_past, get_or_push, get_or_append_left}
use Rattle.bx_base.specs.Bookings.{Row, row_at, is_running}
use Rattle.bx_base.specs.Channels.{count_of}
use Rattle.bx_day.specs.Day.{Day}
use Rattle.bx_sales.specs.Left.{left_in_service}
use Rattle.bx_office_world.specs.FreeStarts.{running_below, IsWished, IsFreeStart}
use Rattle.bx_office_world.specs.StartMarks.{AreLoads, IsStartOn, is_marked_at, AreStartMarks}
use Rattle.bx_office_world.specs.declared.desk.Opened.{Opened}
use Rattle.bx_office_world.specs.declared.wish.Wish.{Wish}

-- ---- what runs

-- a second lies in the part of a booking that was gone through
abbrev pub in_part : ℕ → ℕ → ℕ → ℕ
in_part start second k = if nat_le start k && nat_lt k second then 1 else 0

nothing_yet : (start k : ℕ) → in_part start start k ≡ 0
nothing_yet start k = grind (arith, nat_tests)

this_one : (start second : ℕ) → start ≤ second → in_part start (second + 1) second ≡ 1
this_one start second le = grind (arith, nat_tests)

not_before : (start second : ℕ) → in_part start second second ≡ 0
not_before start second = grind (arith, nat_tests)

others_same : (start second k : ℕ) → k ≢ second → in_part start (second + 1) k ≡ in_part start second k
others_same start second k other = grind (arith, nat_tests)

pub at_first : (xs : List ℕ) (start : ℕ) → (k : ℕ) → slice_index_or xs k 0 ≡ slice_index_or xs k 0 + in_part start start k
at_first xs start k = omega (arith, nothing_yet start k)

pub one_second : (xs ys : List ℕ) (start second : ℕ) → second < length xs → start ≤ second → ((k : ℕ) → slice_index_or xs k 0 ≡ slice_index_or ys k 0 + in_part start second k)
    → (k : ℕ) → slice_index_or (slice_set xs second (slice_index_or xs second 0 + 1)) k 0 ≡ slice_index_or ys k 0 + in_part start (second + 1) k
one_second xs ys start second within le so_far k = elim (cases_eq k second) [
  | inl same ↦ subst (λ (n : ℕ). slice_index_or (slice_set xs second (slice_index_or xs second 0 + 1)) n 0 ≡ slice_index_or ys n 0 + in_part start (second + 1) n) (sym same)
      (omega (arith, get_or-set_same xs second (slice_index_or xs second 0 + 1) 0 within, so_far second, this_one start second le, not_before start second))
  | inr other ↦ get_or-set_other xs second k (slice_index_or xs second 0 + 1) 0 other ∙ so_far k ∙ ap (λ (n : ℕ). slice_index_or ys k 0 + n) (sym (others_same start second k other))
]

at_most_one : (b : Bool) (n m : ℕ) → n ≤ m → n + (if b then 1 else 0) ≤ m + 1
at_most_one true n m le = omega (arith, le)
at_most_one false n m le = omega (arith, le)

pub few_run : (rows : List Row) (n k : ℕ) → running_below rows n k ≤ n
few_run rows zero k = omega arith
few_run rows (suc n) k = omega (arith, at_most_one (is_running (row_at rows n) k) (running_below rows n k) n (few_run rows n k))

-- ---- starts

pub mark_more : (marks : List Bool) (b : Bool) (start : ℕ) (P : ℕ → Type 0) → length marks ≡ start → ((b ≡ true) ↔ P start) → ((k : ℕ) → k < start → (is_marked_at marks k ≡ true) ↔ P k)
    → (k : ℕ) → k < start + 1 → (is_marked_at (marks ++ b ∷ []) k ≡ true) ↔ P k
mark_more marks b start P size here so_far k within = elim (cases_lt k start) [
  | inl less ↦ subst (λ (m : Bool). (m ≡ true) ↔ P k) (sym (get_or_append_left marks (b ∷ []) false k (omega (arith, less, size)))) (so_far k less)
  | inr le ↦ (let same : k ≡ start = omega (arith, le, within) in
      subst (λ (n : ℕ). (is_marked_at (marks ++ b ∷ []) n ≡ true) ↔ P n) (sym same)
      (subst (λ (m : Bool). (m ≡ true) ↔ P start) (sym (get_or_push marks b false start size)) here))
]

-- a start is told just by how far the seconds are free
pub start_on : (counts : List ℕ) (limit moment last : ℕ) (wish : Wish) (start from free : ℕ) → start ≤ from → from ≤ free → free ≤ length counts
    → ((k : ℕ) → start ≤ k → k < from → slice_index_or counts k 0 < limit) → ((k : ℕ) → from ≤ k → k < free → slice_index_or counts k 0 < limit) → (free < length counts → limit ≤ slice_index_or counts free 0)
    → ((start + wish.length ≤ free) × IsWished moment last wish start) ↔ IsStartOn counts limit moment last wish start
start_on counts limit moment last wish start from free le le' size before next full = (there, back)
  where
    below : (k : ℕ) → start ≤ k → k < free → slice_index_or counts k 0 < limit
    below k ge lt = elim (cases_lt k from) [ inl less ↦ before k ge less | inr more ↦ next k more lt ]

    there : ((start + wish.length ≤ free) × IsWished moment last wish start) → IsStartOn counts limit moment last wish start
    there p = record { wished = p.1; in_day = omega (arith, p.0, size); free = λ k ge lt. below k ge (omega (arith, lt, p.0)) }

    fits : IsStartOn counts limit moment last wish start → start + wish.length ≤ free
    fits s = elim (cases_lt free (start + wish.length)) [
      | inl less ↦ absurd (let inside = full (omega (arith, less, s.in_day)) in let under = s.free free (omega (arith, le, le')) less in omega (arith, inside, under))
      | inr more ↦ more
    ]

    back : IsStartOn counts limit moment last wish start → (start + wish.length ≤ free) × IsWished moment last wish start
    back s = (fits s, s.wished)

pub still_free : (counts : List ℕ) (limit start from free : ℕ) → ((k : ℕ) → start ≤ k → k < from → slice_index_or counts k 0 < limit) → ((k : ℕ) → from ≤ k → k < free → slice_index_or counts k 0 < limit)
    → (k : ℕ) → start + 1 ≤ k → k < free → slice_index_or counts k 0 < limit
still_free counts limit start from free before next k ge lt = elim (cases_lt k from) [ inl less ↦ before k (omega (arith, ge)) less | inr more ↦ next k more lt ]

pub through : {A B C : Type 0} → (A ↔ B) → (B ↔ C) → A ↔ C
through f g = ((λ a. g.0 (f.0 a)), (λ c. f.1 (g.1 c)))

-- beyond the last mark nothing may start
pub all_marked : (marks : List Bool) (counts : List ℕ) (limit moment last : ℕ) (wish : Wish) → 1 ≤ wish.length → length marks ≡ length counts
    → ((k : ℕ) → k < length counts → (is_marked_at marks k ≡ true) ↔ IsStartOn counts limit moment last wish k) → AreStartMarks marks (IsStartOn counts limit moment last wish)
all_marked marks counts limit moment last wish lasts size each k = elim (cases_lt k (length counts)) [
  | inl less ↦ each k less
  | inr more ↦ ((λ marked. absurd (true≢false (sym marked ∙ get_or_past marks k false (omega (arith, more, size))))), (λ s. absurd (omega (arith, s.in_day, more, lasts))))
]

-- what is found by what runs at each second are the free starts
free_start : (opened : Opened) (d : Day) (wish : Wish) (counts : List ℕ) → AreLoads d (left_in_service opened.channels d) counts → (k : ℕ) → IsStartOn counts (count_of (left_in_service opened.channels d)) d.moment opened.last wish k ↔ IsFreeStart opened d wish k
free_start opened d wish counts loads k = (there, back)
  where
    there : IsStartOn counts (count_of (left_in_service opened.channels d)) d.moment opened.last wish k → IsFreeStart opened d wish k
    there s = record {
      wished = s.wished;
      in_day = omega (arith, s.in_day, loads.size);
      free = λ t ge lt. subst (λ (n : ℕ). n < count_of (left_in_service opened.channels d)) (loads.each t (omega (arith, lt, s.in_day, loads.size))) (s.free t ge lt);
    }

    back : IsFreeStart opened d wish k → IsStartOn counts (count_of (left_in_service opened.channels d)) d.moment opened.last wish k
    back s = record {
      wished = s.wished;
      in_day = omega (arith, s.in_day, loads.size);
      free = λ t ge lt. subst (λ (n : ℕ). n < count_of (left_in_service opened.channels d)) (sym (loads.each t (omega (arith, lt, s.in_day)))) (s.free t ge lt);
    }

free_marks : (opened : Opened) (d : Day) (wish : Wish) (counts : List ℕ) (marks : List Bool) → AreLoads d (left_in_service opened.channels d) counts → AreStartMarks marks (IsStartOn counts (count_of (left_in_service opened.channels d)) d.moment opened.last wish) → AreStartMarks marks (IsFreeStart opened d wish)
free_marks opened d wish counts marks loads marked k = through (marked k) (free_start opened d wish counts loads k)

-- the same of what is answered, in the words of the code
pub all_free : {A E : Type 0} (r : Result A E) (marks_in : A → List Bool) (opened : Opened) (d : Day) (wish : Wish) (left : List Bool) (counts seen : List ℕ) (limit moment : ℕ)
    → left ≡ left_in_service opened.channels d → limit ≡ count_of left → moment ≡ d.moment → seen ≡ counts → AreLoads d left counts
    → IfOk r (λ a. AreStartMarks (marks_in a) (IsStartOn seen limit moment opened.last wish)) → IfOk r (λ a. AreStartMarks (marks_in a) (IsFreeStart opened d wish))
all_free (Err fault) marks_in opened d wish left counts seen limit moment left_is limit_is moment_is seen_is loads marked = tt
all_free (Ok a) marks_in opened d wish left counts seen limit moment left_is limit_is moment_is seen_is loads marked =
    let on_counts = subst (λ (cs : List ℕ). AreStartMarks (marks_in a) (IsStartOn cs limit moment opened.last wish)) seen_is marked in
    let below = subst (λ (n : ℕ). AreStartMarks (marks_in a) (IsStartOn counts n moment opened.last wish)) (limit_is ∙ ap count_of left_is) on_counts in
    let after = subst (λ (n : ℕ). AreStartMarks (marks_in a) (IsStartOn counts (count_of (left_in_service opened.channels d)) n opened.last wish)) moment_is below in
    free_marks opened d wish counts (marks_in a) (subst (λ (cs : List Bool). AreLoads d cs counts) left_is loads) after
