use Rattle.std.specs.Prelude.{◌≡◌, ℕ, List, length, take}
use Rattle.std.proofs.Common.{sym}
use Rattle.bx_channels.specs.declared.number.Number.TheInside.{Inside}
use Rattle.bx_channels.specs.Numbers.{IsNumber, padded}

-- the digits, and zeros after them
pub record IsNumberInside (a : Inside) : Type 0 where
  pub number : IsNumber (take a.count a.digits)
  pub zeros : a.digits ≡ padded (take a.count a.digits)
  pub counted : a.count ≡ length (take a.count a.digits)

same_inside : (xs ys : List ℕ) (m n : ℕ) → xs ≡ ys → m ≡ n → ◌≡◌ {A = Inside} (record { digits = xs; count = m }) (record { digits = ys; count = n })
same_inside xs ys m n p q = cc

-- the fields from the digits
pub inside_from_digits : (a : Inside) → IsNumberInside a → record { digits = padded (take a.count a.digits); count = length (take a.count a.digits) } ≡ a
inside_from_digits a h = same_inside (padded (take a.count a.digits)) a.digits (length (take a.count a.digits)) a.count (sym h.zeros) (sym h.counted)
