use Rattle.std.proofs.Common.{ℕ, ◌∙◌, ap}
use Rattle.std.specs.List.{list_any}
use Rattle.bx_plan_commands.specs.Notes.{is_end_at}
use Rattle.bx_plan_commands.proofs.FoundEnds.{end_found}
use Rattle.bx_plan_commands.proofs.noting.some_ends.Goals as goal

pub returns : goal.returns
returns c =
    let ends = c.args.ends.now in
    let found = end_found ends c.number.result c.args.second c.binary_search.result c.requires c.binary_search.ensures.bound c.binary_search.ensures.position in
    c.is_ok.ensures.value ∙ found ∙ ap (λ (n : ℕ). list_any (is_end_at n c.args.second) ends) c.number.ensures.value
