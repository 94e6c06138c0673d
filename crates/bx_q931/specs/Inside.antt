-- Private: what its functions promise one another.
use Rattle.bx_q931.specs.Items.{PlainItem, plain_item, item_octets}
use Rattle.bx_q931.specs.declared.items.Item.{Item}
use Rattle.std.specs.Prelude.{ℕ, List, Option}
use Rattle.std.specs.List.{flat_map}
use Rattle.bx_q931.specs.Outgoing.{optional_item}

abbrev pub item_view : Item → PlainItem
item_view i = plain_item i.first i.contents.now

abbrev pub optional_octets : ℕ → Option (List ℕ) → List ℕ
optional_octets id contents = flat_map item_octets (optional_item id contents)
