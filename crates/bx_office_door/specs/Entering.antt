-- Private: who is let in, and where.
use Rattle.std.specs.Prelude.{◌≡◌, ℕ, nat_lt, nat_le, Bool, All, List, ◌++◌, Some}
use Rattle.bx_office.specs.declared.gate.Place.{Place}
use Rattle.bx_office.specs.declared.gate.Side.{Side}
use Rattle.bx_office.specs.declared.gate.Side.TheVariants.{Operators, Customers}
use Rattle.bx_office_door.specs.Doors.{guests_of}
use Rattle.bx_office_door.specs.declared.door.Door.{Door}
use Rattle.bx_office_door.specs.declared.door.Entrance.{Entrance}
use Rattle.bx_office_door.specs.declared.guest.Guest.{Guest}

-- operators have 64 places, with 4 beyond them, and customers 48 of the places
abbrev pub room_on : Side → ℕ
room_on Operators = 68
room_on Customers = 48

-- as many stand at the door as there are places on this side
abbrev pub are_places_taken : Side → ℕ → Bool
are_places_taken Operators count = nat_lt 64 count
are_places_taken Customers count = nat_le 48 count

-- whoever comes in at the counter is a customer, and whoever comes in at the office an operator
abbrev pub IsEntranceOn : Side → Place → Door → Type 0
IsEntranceOn Operators place door = place.address ≡ door.office.address
IsEntranceOn Customers place door = (counter : Entrance) × (door.counter ≡ Some counter) × (place.address ≡ counter.address)

abbrev pub IsEntrance : Door → Place → Type 0
IsEntrance door place = IsEntranceOn place.side place door

-- those who came stand after the others, each by where it has come in
pub record AreLetIn (old new : Door) : Type 0 where
  pub came : List Guest
  pub stand : guests_of new ≡ guests_of old ++ came
  pub entered : All (λ guest. IsEntrance old guest.client.place) came
