-- Small definitions that the days of both ends have.
use Rattle.std.specs.Prelude.{not, Bool, true, false, List, ◌∷◌, Option, Some, None, replicate}
use Rattle.bx_q931.specs.Outgoing.{Outgoing}

-- no channel
abbrev pub no_channel : List Bool
no_channel = replicate 32 false

-- what is sent, before the rest
abbrev pub cons_some : Option Outgoing → List Outgoing → List Outgoing
cons_some None rest = rest
cons_some (Some o) rest = o ∷ rest

-- whether both are the same
abbrev pub bool_eq : Bool → Bool → Bool
bool_eq true b = b
bool_eq false b = not b
