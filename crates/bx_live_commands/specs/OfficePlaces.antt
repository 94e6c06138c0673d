-- Private: where the office of a live day and its counter are opened, by their words.
use Rattle.std.specs.Prelude.{◌≡◌, ℕ, ◌<◌, List, length, Option, Some, None}
use Rattle.std.specs.Borrow.{Bor}
use Rattle.std.specs.declared.net.tcp.TcpListener.{TcpListener}
use Rattle.bx_office.specs.Origins.{origin_text}
use Rattle.bx_office.specs.Targets.{text_of}
use Rattle.bx_office.specs.declared.gate.Address.{Address}
use Rattle.bx_office.specs.declared.gate.Address.TheVariants as doors
use Rattle.bx_office.specs.declared.origins.Origin.{Origin}
use Rattle.bx_office_door.specs.Listening.{IsAtPort}
use Rattle.bx_office_door.specs.declared.door.Entrance.{Entrance}
use Rattle.bx_office_door.specs.declared.stream.Listening.{Listening}
use Rattle.bx_office_door.specs.declared.stream.Listening.TheVariants as listeners
use Rattle.bx_request.specs.declared.request.Place.{Place}
use Rattle.bx_request.specs.declared.request.Place.TheVariants.{Port, Socket}

abbrev pub port_behind : ℕ → Option Origin → Address
port_behind port None = doors.Port port
port_behind port (Some origin) = doors.ProxiedPort port origin

abbrev pub socket_behind : Option Origin → Address
socket_behind None = doors.Socket
socket_behind (Some origin) = doors.ProxiedSocket origin

-- a place of the words, behind a proxy of this origin where there is one
abbrev pub place_behind : Place → Option Origin → Address
place_behind (Port port) origin = port_behind port origin
place_behind (Socket path) origin = socket_behind origin

-- the origin of these words, where they name one, and none of more than 255 octets
abbrev pub IsOriginNamed : Option (List ℕ) → Option Origin → Type 0
IsOriginNamed None None = Unit {0}
IsOriginNamed None (Some origin) = ⊥
IsOriginNamed (Some text) None = 255 < length text
IsOriginNamed (Some text) (Some origin) = origin_text origin ≡ text

-- at a port the system has given a listener for just this port of 127.0.0.1; at a path it is one of the file system
abbrev pub IsListeningAt : (List ℕ → ℕ → TcpListener → Type 0) → Place → Listening → Type 0
IsListeningAt listens (Port port) listening = IsAtPort listens port listening
IsListeningAt listens (Socket path) (listeners.Path listener) = Unit {0}
IsListeningAt listens (Socket path) (listeners.Port listener) = ⊥

-- clients come in at this place of the words, behind a proxy of the origin that they name
pub record IsEntranceAt (listens : List ℕ → ℕ → TcpListener → Type 0) (place : Place) (origin : Option (Bor (List ℕ))) (entrance : Entrance) : Type 0 where
  pub named : Option Origin
  pub origin_is : IsOriginNamed (text_of origin) named
  pub address : entrance.address ≡ place_behind place named
  pub listening : IsListeningAt listens place entrance.listening

-- .. where they want it
abbrev pub IsEntranceWhere : (List ℕ → ℕ → TcpListener → Type 0) → Option Place → Option (Bor (List ℕ)) → Option Entrance → Type 0
IsEntranceWhere listens None origin None = Unit {0}
IsEntranceWhere listens None origin (Some entrance) = ⊥
IsEntranceWhere listens (Some place) origin None = ⊥
IsEntranceWhere listens (Some place) origin (Some entrance) = IsEntranceAt listens place origin entrance
