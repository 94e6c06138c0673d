-- Lists of marks: one for each of some things, which are counted from 0.
use Rattle.std.specs.Prelude.{ℕ, Bool, false, List, slice_index_or}

-- whether the thing of this index is marked; none beyond the last is
abbrev pub is_marked : List Bool → ℕ → Bool
is_marked marks i = slice_index_or marks i false
