-- What is answered whatever the day is.
use Rattle.std.specs.Prelude.{Bool, true, false}
use Rattle.bx_office.specs.declared.gate.Route.{Route}
use Rattle.bx_office.specs.declared.gate.Route.TheVariants.{Home, Script, Style, Office}
use Rattle.bx_office.specs.declared.reply.Allowed.{Allowed}
use Rattle.bx_office.specs.declared.reply.Allowed.TheVariants as Methods

abbrev pub is_page : Route → Bool
is_page Home = true
is_page Script = true
is_page Style = true
is_page Office = true
is_page _ = false

abbrev pub allowed_at : Route → Allowed
allowed_at Office = Methods.All
allowed_at _ = Methods.Unsaid
