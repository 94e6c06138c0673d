-- Private: how often it is told that nobody can be let in.
use Rattle.std.specs.Prelude.{ℕ, ◌-◌, nat_le, Bool, true, Option, Some, None}

-- 60 seconds after it was told last, in nanoseconds
abbrev pub is_to_be_told : Option ℕ → ℕ → Bool
is_to_be_told None shown = true
is_to_be_told (Some told) shown = nat_le 60_000_000_000 (shown - told)
