-- Where a session stands.
use Rattle.std.specs.Prelude.{Bool, not}
use Rattle.bx_link.specs.declared.far_session.FarSession.{FarSession}

-- a fault or the end of the day has closed the far end's session
abbrev pub is_far_over : FarSession → Bool
is_far_over session = not session.is_open
