-- The values of digits.
use Rattle.std.specs.Prelude.{ℕ, ◌-◌, ◌^◌, min, List}
use Rattle.std.specs.Str.Parse.{digits_value}

-- the value of decimal digits
abbrev pub decimal_value : List ℕ → ℕ
decimal_value digits = digits_value 10 digits

-- a value as the code keeps it: no higher than the greatest number of 64 bits
abbrev pub capped : ℕ → ℕ
capped n = min n (2 ^ 64 - 1)
