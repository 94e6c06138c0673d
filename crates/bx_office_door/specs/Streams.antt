-- What a socket has.
use Rattle.std.specs.Prelude.{ℕ, ◌≤◌}
use Rattle.bx_office_door.specs.declared.stream.Came.{Came}
use Rattle.bx_office_door.specs.declared.stream.Came.TheVariants.{Nothing, Octets, End}

-- no more octets than there is room for
abbrev pub IsCome : Came → ℕ → Type 0
IsCome Nothing room = Unit {0}
IsCome (Octets count) room = count ≤ room
IsCome End room = Unit {0}

-- how many octets came, or went
abbrev pub octet_count : Came → ℕ
octet_count (Octets count) = count
octet_count _ = 0
