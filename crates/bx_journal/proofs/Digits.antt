-- Octets and their digits.
use Rattle.std.proofs.Common.{◌≡◌, inl, inr, ℕ, suc, ◌+◌, ◌-◌, ◌*◌, ◌/◌, ◌%◌, ◌<◌, ◌≤◌, ◌==◌, false, List, [], ◌∷◌, length, Some, refl, arith}
use Rattle.std.proofs.lemmas.Bool.{cases_lt, lt-ltb, le-ltb, le-leb, lt-leb, ne_eqb}
use Rattle.bx_journal.specs.Events.{AreOctets}
use Rattle.bx_journal.specs.Hex.{hex_digit, hex_of, hex_value, octets_of_digits}
use Rattle.bx_journal.specs.Inside.{HasNoLf}

module _ (ten : ℕ) (letter : 58 ≤ ten) where
  small : (v : ℕ) → v < 10 → hex_value ten (v + 48) ≡ Some v
  small v lt =
      let a = le-leb 48 (v + 48) (omega arith) in
      let b = le-leb (v + 48) 57 (omega arith) in
      let c : v + 48 - 48 ≡ v = omega arith in
      rw (a, b, c) refl

  large : (v : ℕ) → 10 ≤ v → v < 16 → hex_value ten (v - 10 + ten) ≡ Some v
  large v le lt =
      let a = le-leb 48 (v - 10 + ten) (omega arith) in
      let b = lt-leb (v - 10 + ten) 57 (omega arith) in
      let c = le-leb ten (v - 10 + ten) (omega arith) in
      let d = le-leb (v - 10 + ten) (ten + 5) (omega arith) in
      let e : v - 10 + ten - ten + 10 ≡ v = omega arith in
      rw (a, b, c, d, e) refl

  pub digit_read : (v : ℕ) → v < 16 → hex_value ten (hex_digit ten v) ≡ Some v
  digit_read v lt = elim (cases_lt v 10) [
    | inl below ↦ rw (lt-ltb v 10 below) (small v below)
    | inr above ↦ rw (le-ltb v 10 above) (large v above lt)
  ]

  pub octets_read : (octets : List ℕ) → AreOctets octets → octets_of_digits ten (hex_of ten octets) ≡ Some octets
  octets_read [] are = refl
  octets_read (o ∷ octets) are =
      let within : o < 256 = are 0 in
      let high = digit_read (o / 16) (omega arith) in
      let low = digit_read (o % 16) (omega arith) in
      let whole : o / 16 * 16 + o % 16 ≡ o = omega arith in
      rw (high, low, octets_read octets (λ i. are (suc i)), whole) refl

  -- no digit is LF
  not_lf : (v : ℕ) → hex_digit ten v == 10 ≡ false
  not_lf v = elim (cases_lt v 10) [
    | inl below ↦ rw (lt-ltb v 10 below) (ne_eqb (v + 48) 10 (λ e. omega arith))
    | inr above ↦ rw (le-ltb v 10 above) (ne_eqb (v - 10 + ten) 10 (λ e. omega arith))
  ]

  pub hex_without_lf : (octets : List ℕ) → HasNoLf (hex_of ten octets)
  hex_without_lf [] = tt
  hex_without_lf (o ∷ octets) = (not_lf (o / 16), (not_lf (o % 16), hex_without_lf octets))

pub hex_length : (ten : ℕ) (octets : List ℕ) → length (hex_of ten octets) ≡ 2 * length octets
hex_length ten [] = refl
hex_length ten (o ∷ octets) = omega (arith, hex_length ten octets)
