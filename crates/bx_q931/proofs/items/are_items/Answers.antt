use Rattle.std.proofs.Common.{◌≡◌, ◌≢◌, length, sym, ap, ◌∙◌, rules, []}
use Rattle.std.specs.Option.{is_some}
use Rattle.bx_q931.specs.Items.{items_at}
use Rattle.bx_q931.proofs.ItemLemmas.{items_next, items_torn, is_some-option_map}
use Rattle.bx_q931.proofs.items.are_items.Goals as goal

pub loop-rest-preserved : goal.loop-rest-preserved
loop-rest-preserved c = sym (is_some-option_map _ _) ∙ sym (ap is_some (items_next _ _ (sym c.in-Some.ensures))) ∙ c.loop-rest.invariant

pub returns-in-None : goal.returns-in-None
returns-in-None c = let some : c.loop-rest.rest.now ≢ [] = search rules in sym (ap is_some (items_torn _ some (sym c.in-None.ensures))) ∙ c.loop-rest.invariant

pub returns : goal.returns
unfolding items_at
returns c = let none : c.loop-rest.rest.now ≡ [] = search rules in sym (ap (λ os. is_some (items_at (length os) os)) none) ∙ c.loop-rest.invariant
