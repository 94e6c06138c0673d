-- What a wire and the clock beside it were asked, and what they answered.
use Rattle.std.specs.Prelude.{ℕ, List, take, Option, Some, None}
use Rattle.bx_line_world.specs.declared.udp.UdpWire.{UdpWire}

pub data WireAct : Type 0 where
  -- the clock was read: nanoseconds since 1970-01-01T00:00:00Z
  Shown : (nanos : ℕ) → WireAct
  -- the octets of a frame were handed to the wire
  Sent : (octets : List ℕ) → WireAct
  -- a frame was waited for, so many nanoseconds at most: its octets, or none came
  Waited : (most : ℕ) (came : Option (List ℕ)) → WireAct

-- what came, at the start of the room for it
abbrev pub came_in : Option ℕ → List ℕ → Option (List ℕ)
came_in None room = None
came_in (Some n) room = Some (take n room)

-- what is known of what a socket did: nothing
abbrev pub did_on : {H : Type 0} → UdpWire H → List WireAct → UdpWire H → Type 0
did_on old acts new = Unit {0}
