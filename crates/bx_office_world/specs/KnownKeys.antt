-- The keys under which something was asked for.
use Rattle.std.specs.Prelude.{◌≡◌, ◌<◌, ℕ, List, [], map, length, Option, Some, None, slice_index_or}
use Rattle.bx_sales.specs.declared.tag.Tag.{Tag}
use Rattle.bx_office_world.specs.declared.ledger.Keyed.{Keyed}
use Rattle.bx_office_world.specs.declared.ledger.Ledger.{Ledger}

abbrev pub keys_in : List Keyed → List (List ℕ)
keys_in requests = map (λ (r : Keyed). r.tag.key) requests

-- those of a ledger
abbrev pub known_keys : Ledger → List (List ℕ)
known_keys ledger = keys_in ledger.requests.items

abbrev pub key_at : List (List ℕ) → ℕ → List ℕ
key_at keys i = slice_index_or keys i []

abbrev pub KnowsKey : List (List ℕ) → List ℕ → Type 0
KnowsKey keys key = (i : ℕ) × (i < length keys) × (key_at keys i ≡ key)

-- the keys of so many of these sales
abbrev pub KnowsTags : List (List ℕ) → List (Option Tag) → ℕ → Type 0
KnowsTags keys tags count = (i : ℕ) (tag : Tag) → i < count → slice_index_or tags i None ≡ Some tag → KnowsKey keys tag.key

-- as many answers are kept as ever are: no key more is put down
abbrev pub IsFull : ℕ → Type 0
IsFull told = 64000 < told
