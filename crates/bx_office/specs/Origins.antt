-- The origin by which a proxy in front of the office is asked.
use Rattle.std.specs.Prelude.{ℕ, List, take}
use Rattle.bx_office.specs.declared.origins.Origin.{Origin}

abbrev pub origin_text : Origin → List ℕ
origin_text origin = take origin.count origin.octets
