-- What a wire keeps of the clock, in nanoseconds.
use Rattle.std.specs.Prelude.{ℕ, ◌-◌, nat_le, Bool, false, Option, Some, None}

-- a frame came within 15 seconds
abbrev pub is_heard : Option ℕ → ℕ → Bool
is_heard None shown = false
is_heard (Some heard) shown = nat_le (shown - heard) 15_000_000_000
