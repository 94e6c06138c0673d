use Rattle.std.specs.Prelude.{◌≢◌, ℕ, ◌≤◌}

-- the numbers of B channels of a primary rate interface at 2048 kbit/s: time slot 16 carries the signalling (ITU-T Q.931, 4.5.13)
abbrev pub IsChannel : ℕ → Type 0
IsChannel n = (1 ≤ n) × (n ≤ 31) × (n ≢ 16)
