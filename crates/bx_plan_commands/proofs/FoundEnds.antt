-- An end is found by halving just where it stands.
use Rattle.std.proofs.Common.{◌≡◌, ◌≤◌, ◌<◌, ℕ, ◌+◌, ◌==◌, ◌&&◌, ◌||◌, Bool, true, false, List, length, Option, None, Some, Result, Ok, Err, inl, inr, refl, sym, ap, ◌∙◌, arith, is_ok}
use Rattle.std.specs.Cmp.{IsTotalOrder}
use Rattle.std.specs.Ordering.{nat_cmp, ordering_then}
use Rattle.std.specs.declared.cmp.Ordering.{Ordering}
use Rattle.std.specs.declared.cmp.Ordering.TheVariants.{Less, Equal, Greater}
use Rattle.std.specs.List.{list_any}
use Rattle.std.specs.List.Sorted.{IsSorted, IsBinarySearchResult, IsSearchInRange}
use Rattle.std.proofs.lemmas.Bool.{cases_lt}
use Rattle.std.proofs.lemmas.Bool.Decides.{nat_tests}
use Rattle.std.proofs.lemmas.Cmp.{then_total, on_total, nat_cmp_total}
use Rattle.std.specs.Prelude.{slice_index_or}
use Rattle.std.proofs.lemmas.List.Folds.{list_any_at, list_any_none}
use Rattle.std.proofs.lemmas.List.Sorted.{searchable_from_sorted, list_any-IsPermutation}
use Rattle.bx_base.specs.Bookings.{Row, row_at}
use Rattle.bx_base.specs.PlanParts.{Parts}
use Rattle.bx_plan_commands.specs.Ends.{end_cmp, AreEnds}
use Rattle.bx_plan_commands.specs.Notes.{ends_below, is_end_at, some_ends, lasts, is_short_on, is_too_short}

abbrev End : Type 0
End = ℕ × ℕ

same_end : (a b c s : ℕ) → ordering_then (nat_cmp a c) (nat_cmp b s) ≡ Equal → ((a == c) && (b == s)) ≡ true
same_end a b c s is = grind (arith, nat_tests)

earlier_end : (a b c s : ℕ) → ordering_then (nat_cmp a c) (nat_cmp b s) ≡ Less → ((a == c) && (b == s)) ≡ false
earlier_end a b c s is = grind (arith, nat_tests)

later_end : (a b c s : ℕ) → ordering_then (nat_cmp a c) (nat_cmp b s) ≡ Greater → ((a == c) && (b == s)) ≡ false
later_end a b c s is = grind (arith, nat_tests)

end_total : IsTotalOrder end_cmp
end_total = then_total (on_total (λ (e : End). e.0) nat_cmp_total) (on_total (λ (e : End). e.1) nat_cmp_total)

pub end_found : (ends : List End) (channel second : ℕ) (r : Result ℕ ℕ) → IsSorted end_cmp ends → IsSearchInRange r (length ends) → IsBinarySearchResult (λ e. end_cmp e (channel, second)) ends r
    → is_ok r ≡ list_any (is_end_at channel second) ends
end_found ends channel second (Ok i) sorted bound is = sym (list_any_at (is_end_at channel second) ends i (0, 0) bound (same_end _ _ channel second (is (0, 0))))
end_found ends channel second (Err i) sorted bound is =
    let parted = is (searchable_from_sorted end_total (λ (e : End). e) ends (channel, second) sorted) in
    sym (list_any_none (is_end_at channel second) ends (λ k d h. elim (cases_lt k i) [
      | inl less ↦ earlier_end _ _ channel second (parted.0 k d (omega arith) less)
      | inr more ↦ later_end _ _ channel second (parted.1 k d (omega arith) h)
    ]))

-- the ends of a plan, in whatever order
pub some_end_found : (plan : Parts) (ends : List End) (channel second : ℕ) → AreEnds plan ends → list_any (is_end_at channel second) ends ≡ some_ends plan channel second
some_end_found plan ends channel second are = sym (list_any-IsPermutation (is_end_at channel second) (ends_below plan (length plan.rows)) ends are.all)

only_behind : (a b c d e : Bool) → a ≡ false → b ≡ true → c ≡ false → d ≡ false → (a || (b && (c || d || e))) ≡ e
only_behind a b c d e p q r s = rw (p, q, r, s) refl

-- a row that goes out in another second than 0, and lasts two, is too short just where another ends at its start
pub short_behind : (plan : Parts) (i channel start : ℕ) (row : Row) (found : Bool) → slice_index_or plan.assigned i None ≡ Some channel → row_at plan.rows i ≡ row → row.start ≡ start → row.end ≡ start + 2 → row.inward ≡ false → (start ≡ 0 → ⊥)
    → found ≡ some_ends plan channel start → found ≡ is_too_short plan i
short_behind plan i channel start row found is at starts ends out later there =
    let e : Bool = some_ends plan channel row.start in
    let one : lasts row 1 ≡ false = grind (arith, nat_tests) in
    let two : lasts row 2 ≡ true = grind (arith, nat_tests) in
    let zeroth : (row.start == 0) ≡ false = grind (arith, nat_tests) in
    let short : is_short_on plan (Some channel) row ≡ e = only_behind (lasts row 1) (lasts row 2) row.inward (row.start == 0) e one two out zeroth in
    let here : is_too_short plan i ≡ is_short_on plan (Some channel) row = ap (λ (o : Option ℕ). is_short_on plan o (row_at plan.rows i)) is ∙ ap (λ (r : Row). is_short_on plan (Some channel) r) at in
    there ∙ ap (λ (s : ℕ). some_ends plan channel s) (sym starts) ∙ sym (here ∙ short)
