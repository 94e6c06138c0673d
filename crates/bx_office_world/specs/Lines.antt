-- Private: the line of some words.
use Rattle.std.specs.Prelude.{ℕ, List}
use Rattle.bx_office_world.specs.Words.{with_number}
use Rattle.bx_office_world.specs.declared.words.Words.{Words}

abbrev pub line_by : Words → List ℕ
line_by words = with_number words.text.now words.number
