-- Timers in seconds (ITU-T Q.931, 9.1 for the network side, 9.2 for the user side). A timer that is started
-- at moment m for n seconds is due at a tick to moment m + n or later (profile).
use Rattle.std.specs.Prelude.{ℕ, ◌+◌}

-- Q.931: at least 3 minutes
abbrev pub t301 : ℕ
t301 = 180

abbrev pub t303 : ℕ
t303 = 4

abbrev pub t305 : ℕ
t305 = 30

abbrev pub t308 : ℕ
t308 = 4

abbrev pub t310 : ℕ
t310 = 10

abbrev pub t322 : ℕ
t322 = 4

-- Q.931: 30 to 120 seconds at the user side
abbrev pub t310_user : ℕ
t310_user = 30

abbrev pub t313 : ℕ
t313 = 4

-- how long clearing takes at most
abbrev pub clearing_time : ℕ
clearing_time = t305 + t308 + t308
