-- The channels in maintenance.
use Rattle.std.specs.Prelude.{ℕ, ◌==◌, ◌&&◌, nat_le, not, Bool, if◌then◌else◌}
use Rattle.bx_base.specs.Sums.{sum_below}
use Rattle.bx_channels.specs.Marks.{is_marked}
use Rattle.bx_day.specs.Day.{Day}

-- a number is that of a B channel
abbrev pub is_b_channel : ℕ → Bool
is_b_channel n = nat_le 1 n && (nat_le n 31 && not (n == 16))

abbrev pub is_maintained : Day → ℕ → Bool
is_maintained d n = is_b_channel n && is_marked d.maintenance n

abbrev pub maintained_below : Day → ℕ → ℕ
maintained_below d n = sum_below n (λ c. if is_maintained d c then 1 else 0)

-- how many there are
abbrev pub maintained : Day → ℕ
maintained d = maintained_below d 32
