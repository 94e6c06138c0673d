use Rattle.std.proofs.Common.{◌≡◌, ℕ, List, length, sym, ◌∙◌, ap, subst}
use Rattle.std.specs.List.Sorted.{IsNonDecreasing}
use Rattle.std.proofs.lemmas.List.Sorted.{IsNonDecreasingBy-from_sort}
use Rattle.bx_colour.proofs.LoadLemmas.{refilled}
use Rattle.bx_colour.proofs.load.sort.Goals as goal

pub returns-clause-rising : goal.returns-clause-rising
returns-clause-rising c =
    let before = c.args.moments.now.items in
    let after = c.sort_unstable.new.self in
    let size : length after ≡ length before = c.sort_unstable.ensures.len ∙ ap (λ (xs : List ℕ). length xs) c.as_mut_slice-sorted.ensures.value in
    subst (λ (xs : List ℕ). IsNonDecreasing xs) (sym (refilled before after size)) (IsNonDecreasingBy-from_sort (λ (x : ℕ). x) after c.sort_unstable.ensures.sorted)
