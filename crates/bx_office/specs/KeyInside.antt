-- A key as it is kept.
use Rattle.std.specs.Prelude.{◌≡◌, ℕ, List, length, take, true}
use Rattle.std.proofs.Common.{sym}
use Rattle.bx_office.specs.declared.keys.Key.TheInside.{Inside}
use Rattle.bx_office.specs.Keys.{is_key, zero_filled}

-- its octets, and zeros after them
pub record IsKeyInside (a : Inside) : Type 0 where
  pub key : is_key (take a.count a.octets) ≡ true
  pub zeros : a.octets ≡ zero_filled (take a.count a.octets)
  pub counted : a.count ≡ length (take a.count a.octets)

same_key_inside : (xs ys : List ℕ) (m n : ℕ) → xs ≡ ys → m ≡ n → ◌≡◌ {A = Inside} (record { octets = xs; count = m }) (record { octets = ys; count = n })
same_key_inside xs ys m n p q = cc

-- the fields from the octets
pub inside_from_octets : (a : Inside) → IsKeyInside a → record { octets = zero_filled (take a.count a.octets); count = length (take a.count a.octets) } ≡ a
inside_from_octets a h = same_key_inside (zero_filled (take a.count a.octets)) a.octets (length (take a.count a.octets)) a.count (sym h.zeros) (sym h.counted)
