-- Where a door is opened.
use Rattle.std.specs.Prelude.{ℕ, List, ◌∷◌, []}
use Rattle.std.specs.declared.net.tcp.TcpListener.{TcpListener}
use Rattle.bx_office_door.specs.declared.stream.Listening.{Listening}
use Rattle.bx_office_door.specs.declared.stream.Listening.TheVariants.{Port, Path}

-- the octets of 127.0.0.1
abbrev pub loopback : List ℕ
loopback = 127 ∷ 0 ∷ 0 ∷ 1 ∷ []

-- the system has given it for this port of the loopback interface
abbrev pub IsAtPort : (List ℕ → ℕ → TcpListener → Type 0) → ℕ → Listening → Type 0
IsAtPort listens port (Port listener) = listens loopback port listener
IsAtPort listens port (Path listener) = ⊥
