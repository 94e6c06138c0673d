use Rattle.std.proofs.lemmas.List.Sorted.{Contains-permutation, IsPermutation-sym}
use Rattle.bx_rounds.proofs.steps.open_steps.Goals as goal

pub returns : goal.returns
returns c =
    let moved = c.in_ok-sort_by_key.ensures.permutation in
    let open_steps = c.in_ok-steps.ensures in
    record {
      open_alone = λ step h. open_steps.open_alone step (Contains-permutation _ _ step (IsPermutation-sym _ _ moved) h);
      all = λ step o. Contains-permutation _ _ step moved (open_steps.all step o);
    }
