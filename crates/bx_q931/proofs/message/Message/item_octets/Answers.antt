use Rattle.std.proofs.Common.{◌≡◌, ◌∙◌, ap, IsSome, List, Option, Some, None, unwrap_or, [], refl}
use Rattle.std.proofs.lemmas.Bool.{false≢true}
use Rattle.std.specs.List.{flat_map}
use Rattle.bx_q931.specs.Items.{PlainItem, all_items, item_octets}
use Rattle.bx_q931.specs.Messages.{PlainMessage}
use Rattle.bx_q931.proofs.SpellingLemmas.{items_are}
use Rattle.bx_q931.proofs.message.Message.item_octets.Goals as goal

whole : (o : Option (List PlainItem)) → IsSome o → o ≡ Some (unwrap_or o [])
whole (Some items) h = refl
whole None h = absurd (false≢true h)

pub returns : goal.returns
returns c =
    (items_are c.self.inside.items.now (unwrap_or (all_items c.self.inside.items.now) []) (whole (all_items c.self.inside.items.now) c.self.invariant.1)).spelled
    ∙ ap (λ (m : PlainMessage). flat_map item_octets m.items) c.self.view_is
