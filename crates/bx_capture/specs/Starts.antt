-- Where the seconds of a capture begin.
use Rattle.std.specs.Prelude.{ℤ, pos, ◌≤ℤ◌}
use Rattle.bx_capture.specs.declared.start.TheConstants.{LAST_START}

-- each second from this one to 300,000 after it can be named by 32 bits
abbrev pub IsNameable : ℤ → Type 0
IsNameable start = (pos 0 ≤ℤ start) × (start ≤ℤ pos LAST_START)
