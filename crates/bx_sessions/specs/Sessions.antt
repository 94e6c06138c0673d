-- Where a session stands.
use Rattle.std.specs.Prelude.{Bool, true, false}
use Rattle.bx_sessions.specs.declared.session.Session.{Session}
use Rattle.bx_sessions.specs.declared.session.Stage.{Stage}
use Rattle.bx_sessions.specs.declared.session.Stage.TheVariants.{InTurn, Over}

abbrev pub is_in_turn : Stage → Bool
is_in_turn InTurn = true
is_in_turn _ = false

abbrev pub is_session_over : Stage → Bool
is_session_over Over = true
is_session_over _ = false

-- a turn is open
abbrev pub is_turn_open : Session → Bool
is_turn_open session = is_in_turn session.stage

-- a fault has closed it
abbrev pub is_closed : Session → Bool
is_closed session = is_session_over session.stage
