-- The check sequence, bit by bit.
use Rattle.std.proofs.Common.{◌≡◌, ℕ, suc, refl}
use Rattle.bx_lapd.specs.Codec.{fcs_bit, fcs_bits}

pub bits_next : (n rest : ℕ) → fcs_bits (suc n) rest ≡ fcs_bits n (fcs_bit rest)
unfolding fcs_bits
bits_next n rest = refl

pub bits_none : (rest : ℕ) → fcs_bits 0 rest ≡ rest
unfolding fcs_bits
bits_none rest = refl
