-- What a socket has given.
use Rattle.std.specs.Prelude.{ℕ, List, take}
use Rattle.bx_office_door.specs.declared.stream.Stream.{Stream}

-- the octets that were read last
abbrev pub last_octets : Stream → List ℕ
last_octets stream = take stream.count stream.room
