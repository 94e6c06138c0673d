-- The call reference (ITU-T Q.931, 4.3).
use Rattle.std.specs.Prelude.{ℕ, ◌+◌, ◌*◌, ◌%◌, ◌<◌, nat_le, List, [], ◌∷◌}
use Rattle.bx_q931.specs.declared.reference.Reference.{Reference}
use Rattle.bx_q931.specs.declared.reference.Reference.TheVariants.{Dummy, Value}

-- what the octets of a call reference value say: bit 8 of the first is the flag, the rest is the value
-- (profile: a value counts the same in one octet or in two)
abbrev pub reference_of : List ℕ → Reference
reference_of [] = Dummy
reference_of (o ∷ []) = Value (o % 128) (nat_le 128 o)
reference_of (o ∷ p ∷ os) = Value (o % 128 * 256 + p) (nat_le 128 o)

-- a value has at most 15 bits
abbrev pub IsReference : Reference → Type 0
IsReference Dummy = Unit {0}
IsReference (Value value flag) = value < 32768
