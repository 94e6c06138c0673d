-- A wait for a frame, of which one slice is waited at once.
use Rattle.std.specs.Prelude.{ℕ, nat_le, if◌then◌else◌, List, map}
use Rattle.bx_line_world.specs.Wires.{WireAct, Shown, Sent, Waited}

-- a slice of a wait: 10 milliseconds, or all that is left of it where that is at most twice as long
abbrev pub slice_at_once : ℕ → ℕ
slice_at_once wait = if nat_le wait 20_000_000 then wait else 10_000_000

-- an act of the wire inside: of each wait just one slice is waited there, and what came in it is all that comes of the wait
abbrev pub sliced : WireAct → WireAct
sliced (Shown nanos) = Shown nanos
sliced (Sent octets) = Sent octets
sliced (Waited most came) = Waited (slice_at_once most) came

-- just the acts of the wire inside lie between two states, cut so
abbrev pub DidInside : {W : Type 0} → (W → List WireAct → W → Type 0) → W → List WireAct → W → Type 0
DidInside did old acts new = did old (map sliced acts) new
