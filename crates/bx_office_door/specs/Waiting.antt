-- A client whose request waits for its answer.
use Rattle.std.specs.Prelude.{Bool, true, false}
use Rattle.bx_office.specs.declared.client.Stage.{Stage}
use Rattle.bx_office.specs.declared.client.Stage.TheVariants.{Asked}

abbrev pub waits_for_answer : Stage → Bool
waits_for_answer (Asked route) = true
waits_for_answer _ = false
