-- Moments that have come, and what runs between starts and ends.
use Rattle.std.specs.Prelude.{ℕ, ◌-◌, List, sum_by, nat_le, if◌then◌else◌}

-- how many of these moments have come by a moment, itself among them
abbrev pub counted_to : List ℕ → ℕ → ℕ
counted_to moments moment = sum_by (λ s. if nat_le s moment then 1 else 0) moments

-- how many have started by a moment, less those that have ended
abbrev pub running_between : List ℕ → List ℕ → ℕ → ℕ
running_between starts ends moment = counted_to starts moment - counted_to ends moment
