-- A door in a cell.
use Rattle.bx_office_door.specs.Lending.{Lending}
use Rattle.bx_office_door.specs.declared.shared.SharedDoor.{SharedDoor}

-- what is known of what was taken there, and put back: nothing
abbrev pub lent_on : SharedDoor → Lending → SharedDoor → Type 0
lent_on old act new = Unit {0}
