-- What a new office has counted.
use Rattle.std.specs.Prelude.{◌≡◌, replicate, None}
use Rattle.bx_office_world.specs.declared.metrics.Figures.{Figures}

-- nothing yet
abbrev pub AreUncounted : Figures → Type 0
AreUncounted f =
    (f.begun ≡ None)
    × (f.answers ≡ 0)
    × (f.sold ≡ 0)
    × (f.dropped ≡ 0)
    × (f.alone ≡ 0)
    × (f.late ≡ 0)
    × (f.clearings ≡ replicate 128 0)
