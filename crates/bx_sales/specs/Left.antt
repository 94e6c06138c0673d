-- The channels that are left of a set: those that are not in maintenance.
use Rattle.std.specs.Prelude.{ℕ, zero, suc, Bool, false, List, slice_set, if◌then◌else◌}
use Rattle.bx_channels.specs.Marks.{is_marked}
use Rattle.bx_day.specs.Day.{Day}

-- a set without its channels below n that are marked
abbrev pub left_below : ℕ → List Bool → List Bool → List Bool
left_below zero lost channels = channels
left_below (suc n) lost channels = if is_marked lost n then slice_set (left_below n lost channels) n false else left_below n lost channels

-- the channels that are left on a day
abbrev pub left_in_service : List Bool → Day → List Bool
left_in_service channels d = left_below 32 d.maintenance channels
