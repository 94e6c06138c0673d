-- The information elements of a message, each with its codeset (ITU-T Q.931, 4.5.2 to 4.5.4). An item
-- with 1001 in bits 8 to 5 is a shift. Bits 3 to 1 name a codeset. With bit 4 zero it is a locking shift,
-- with bit 4 one it is for the next element alone.
use Rattle.std.specs.Prelude.{ℕ, ◌==◌, ◌/◌, ◌%◌, max, nat_lt, Bool, List, [], ◌∷◌, if◌then◌else◌, Option, Some, None, unwrap_or}
use Rattle.bx_q931.specs.Items.{PlainItem}

pub record PlainElement : Type 0 where
  pub codeset : ℕ
  pub id : ℕ
  pub contents : List ℕ

abbrev pub is_shift : PlainItem → Bool
is_shift i = i.first / 16 == 9

abbrev pub is_locking : PlainItem → Bool
is_locking i = nat_lt (i.first % 16) 8

abbrev pub named_codeset : PlainItem → ℕ
named_codeset i = i.first % 8

-- ---- the codeset of an element, looking back over the items before it, the nearest first

-- that of the last non-locking shift among the shifts directly before, with no element between (profile:
-- of several the last counts)
unfoldable pub single_before : List PlainItem → Option ℕ
single_before [] = None
single_before (i ∷ is) = if is_shift i then (if is_locking i then single_before is else Some (named_codeset i)) else None

-- the greatest of 0 and the codesets of all locking shifts before (profile: one to the same or a lower
-- codeset is ignored)
unfoldable pub locked_before : List PlainItem → ℕ
locked_before [] = 0
locked_before (i ∷ is) = if is_shift i then (if is_locking i then max (locked_before is) (named_codeset i) else locked_before is) else locked_before is

abbrev pub codeset_after : List PlainItem → ℕ
codeset_after before = unwrap_or (single_before before) (locked_before before)

abbrev pub plain_element : ℕ → PlainItem → PlainElement
plain_element codeset i = record { codeset = codeset; id = i.first; contents = i.contents }

-- the elements of items that stand after others, the nearest of those first
unfoldable pub elements_after : List PlainItem → List PlainItem → List PlainElement
elements_after before [] = []
elements_after before (i ∷ is) = if is_shift i then elements_after (i ∷ before) is else plain_element (codeset_after before) i ∷ elements_after (i ∷ before) is

-- the elements of the items of a message
abbrev pub elements_of : List PlainItem → List PlainElement
elements_of is = elements_after [] is
