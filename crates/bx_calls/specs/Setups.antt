-- What a SETUP asks for (ITU-T Q.931, 5.2.2 and 5.8.6.1): the cause with which it is refused by its bearer
-- capability, if any.
use Rattle.std.specs.Prelude.{ℕ, ◌==◌, ◌&&◌, List, [], ◌∷◌, Option, Some, None, if◌then◌else◌}
use Rattle.bx_q931.specs.Messages.{PlainMessage}
use Rattle.bx_q931.specs.Values.{first_of}

-- unrestricted digital information; circuit mode, 64 kbit/s (profile: octets after them are not looked at)
abbrev pub bearer_fault_in : Option (List ℕ) → Option ℕ
bearer_fault_in None = Some 96
bearer_fault_in (Some []) = Some 88
bearer_fault_in (Some (o ∷ [])) = Some 88
bearer_fault_in (Some (o ∷ p ∷ os)) = if (o == 0x88) && (p == 0x90) then None else Some 88

abbrev pub bearer_fault : PlainMessage → Option ℕ
bearer_fault m = bearer_fault_in (first_of 0x04 m)
