-- The items of a message after its type (ITU-T Q.931, 4.5.1). An item whose first octet has bit 8 set
-- is that octet alone (profile: the whole octet is its identifier, and its contents are empty). Any other
-- is its identifier, a length, and that many octets of contents.
use Rattle.std.specs.Prelude.{◌≡◌, ◌≤◌, ℕ, zero, suc, nat_lt, List, [], ◌∷◌, length, take, drop, if◌then◌else◌, Option, Some, None, option_map, unwrap_or}

pub record PlainItem : Type 0 where
  pub first : ℕ
  pub contents : List ℕ

abbrev pub plain_item : ℕ → List ℕ → PlainItem
plain_item first contents = record { first = first; contents = contents }

-- an item of one octet has no contents
abbrev pub IsItem : PlainItem → Type 0
IsItem i = 128 ≤ i.first → i.contents ≡ []

-- how an item is written
abbrev pub item_octets : PlainItem → List ℕ
item_octets i = if nat_lt i.first 128 then i.first ∷ length i.contents ∷ i.contents else i.first ∷ []

-- the item at the start and the octets after it, if it is whole
abbrev pub sized_at : ℕ → List ℕ → Option (PlainItem × List ℕ)
sized_at first [] = None
sized_at first (n ∷ rest) = if nat_lt (length rest) n then None else Some (plain_item first (take n rest), drop n rest)

abbrev pub item_at : List ℕ → Option (PlainItem × List ℕ)
item_at [] = None
item_at (first ∷ rest) = if nat_lt first 128 then sized_at first rest else Some (plain_item first [], rest)

-- an item, and the items that are read of the octets after it
abbrev pub and_items : (List ℕ → Option (List PlainItem)) → Option (PlainItem × List ℕ) → Option (List PlainItem)
and_items more None = None
and_items more (Some p) = option_map (λ is. p.0 ∷ is) (more p.1)

-- the items of octets, at most as many as the number, if all are whole
unfoldable pub items_at : ℕ → List ℕ → Option (List PlainItem)
items_at n [] = Some []
items_at zero (o ∷ os) = None
items_at (suc n) (o ∷ os) = and_items (items_at n) (item_at (o ∷ os))

-- the items of octets, if all are whole: an item has at least one octet
abbrev pub all_items : List ℕ → Option (List PlainItem)
all_items os = items_at (length os) os

-- the items of octets that are whole items
abbrev pub items_in : List ℕ → List PlainItem
items_in os = unwrap_or (all_items os) []
