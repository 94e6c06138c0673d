-- What is served on each side of the office.
use Rattle.std.specs.Prelude.{Bool, true}
use Rattle.bx_office.specs.Gate.{is_shown_to}
use Rattle.bx_office.specs.declared.client.Stage.{Stage}
use Rattle.bx_office.specs.declared.client.Stage.TheVariants.{Body, Asked}
use Rattle.bx_office.specs.declared.gate.Side.{Side}

-- what is asked for there is there on that side
abbrev pub keeps_side : Side → Stage → Bool
keeps_side side (Body route) = is_shown_to side route
keeps_side side (Asked route) = is_shown_to side route
keeps_side side _ = true
