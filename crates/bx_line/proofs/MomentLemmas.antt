-- Lists of moments while they grow, and a moment's place.
use Rattle.std.proofs.Common.{◌≡◌, ℕ, ◌+◌, ◌*◌, ◌<◌, ◌≤◌, List, [], ◌∷◌, ◌++◌, length, get_or, refl, sym, ◌∙◌, subst, arith, inl, inr}
use Rattle.std.specs.List.{Contains}
use Rattle.std.specs.List.Sorted.{IsStrictlyIncreasing}
use Rattle.std.proofs.lemmas.Bool.{cases_lt}
use Rattle.std.proofs.lemmas.List.{get_or_default, length_push}
use Rattle.std.proofs.lemmas.List.Elements.{Contains-append_left, Contains-push, Contains-push_cases}
use Rattle.std.proofs.lemmas.List.Kept.{AllPairs-from_increasing}
use Rattle.bx_base.specs.Bookings.{Row, row_at}
use Rattle.bx_line.specs.Moments.{IsMoment, HasJustMoments}

-- the list has the ends of the first n rows, and nothing else
pub record HasEnds (rows : List Row) (n : ℕ) (ends : List ℕ) : Type 0 where
  pub size : length ends ≡ n * 2
  pub only : (t : ℕ) → Contains ends t → IsMoment rows t
  pub start : (k : ℕ) → k < n → Contains ends (row_at rows k).start
  pub end : (k : ℕ) → k < n → Contains ends (row_at rows k).end

pub HasEnds-none : (rows : List Row) → HasEnds rows 0 []
HasEnds-none rows =
    record { size = refl; only = λ t c. absurd (omega (arith, c.1)); start = λ k h. absurd (omega arith); end = λ k h. absurd (omega arith) }

pub HasEnds-more : (rows : List Row) (n : ℕ) (ends : List ℕ) (start end : ℕ) → n < length rows → start ≡ (row_at rows n).start → end ≡ (row_at rows n).end → HasEnds rows n ends → HasEnds rows (n + 1) ((ends ++ start ∷ []) ++ end ∷ [])
HasEnds-more rows n ends start end within start_is end_is before =
    let both = (ends ++ start ∷ []) ++ end ∷ [] in
    let old : (t : ℕ) → Contains ends t → Contains both t = λ t c. Contains-append_left (ends ++ start ∷ []) (end ∷ []) t (Contains-append_left ends (start ∷ []) t c) in
    let first : Contains both start = Contains-append_left (ends ++ start ∷ []) (end ∷ []) start (Contains-push ends start) in
    let second : Contains both end = Contains-push (ends ++ start ∷ []) end in
    record {
      size = omega (arith, before.size, length_push ends start, length_push (ends ++ start ∷ []) end);
      only = λ t c. elim (Contains-push_cases (ends ++ start ∷ []) end t c) [
        | inl a ↦ elim (Contains-push_cases ends start t a) [ inl b ↦ before.only t b | inr e ↦ (n, within, inl (sym start_is ∙ e)) ]
        | inr e ↦ (n, within, inr (sym end_is ∙ e))
      ];
      start = λ k h. elim (cases_lt k n) [ inl a ↦ old (row_at rows k).start (before.start k a) | inr a ↦ (let e : k ≡ n = omega arith in rw e (subst (Contains both) start_is first)) ];
      end = λ k h. elim (cases_lt k n) [ inl a ↦ old (row_at rows k).end (before.end k a) | inr a ↦ (let e : k ≡ n = omega arith in rw e (subst (Contains both) end_is second)) ];
    }

pub HasJustMoments-from_ends : (rows : List Row) (ends : List ℕ) → HasEnds rows (length rows) ends → HasJustMoments rows ends
HasJustMoments-from_ends rows ends has t = (
  has.only t,
  λ m. elim m.2 [ inl e ↦ subst (Contains ends) e (has.start m.0 m.1) | inr e ↦ subst (Contains ends) e (has.end m.0 m.1) ],
)

pub never_falls : (xs : List ℕ) → IsStrictlyIncreasing xs → (i j : ℕ) → i ≤ j → j < length xs → get_or xs i 0 ≤ get_or xs j 0
never_falls xs rising i j h b =
    elim (cases_lt i j) [ inl a ↦ omega (arith, AllPairs-from_increasing xs rising i j 0 a b) | inr a ↦ (let e : i ≡ j = omega arith in rw e (omega arith)) ]

-- a search that puts a number between the lower and the higher ones did not miss it
pub not_between : (xs : List ℕ) (x i : ℕ) → Contains xs x → ((k : ℕ) → k < i → get_or xs k 0 < x) → ((k : ℕ) → i ≤ k → k < length xs → x < get_or xs k 0) → ⊥
not_between xs x i c below above =
    let is : get_or xs c.0 0 ≡ x = get_or_default xs c.0 0 x c.1 ∙ c.2 in
    elim (cases_lt c.0 i) [ inl a ↦ omega (arith, is, below c.0 a) | inr a ↦ omega (arith, is, above c.0 a c.1) ]
