-- Private: why nobody was let in.
use Rattle.std.specs.Prelude.{◌==◌, ◌||◌, ℤ, pos, negsuc, if◌then◌else◌, Option, Some, None}
use Rattle.bx_office_door.specs.declared.stream.Unmet.{Unmet}
use Rattle.bx_office_door.specs.declared.stream.Unmet.TheVariants.{Nobody, NoDescriptor}

-- no file descriptor is left for whoever waits, where accept(2) says EMFILE or ENFILE
abbrev pub unmet_of : Option ℤ → Unmet
unmet_of None = Nobody
unmet_of (Some (pos n)) = if (n == 24) || (n == 23) then NoDescriptor else Nobody
unmet_of (Some (negsuc n)) = Nobody
