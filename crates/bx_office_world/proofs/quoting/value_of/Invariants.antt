use Rattle.std.proofs.Common.{◌≡◌}
use Rattle.form_urlencoded.specs.Form as form
use Rattle.form_urlencoded.specs.Parse.{raw_pairs_left}
use Rattle.bx_office_world.specs.Quotes.{first_value}
use Rattle.bx_office_world.proofs.quoting.value_of.Given as goal

abbrev pub invariant-loop-field : goal.invariant-loop-field
invariant-loop-field l =
    (goal.iterator-loop-field).can_next l.field-iterator ×
    (goal.iterator-loop-field).is_finite l.field-iterator ×
    (first_value l.name (raw_pairs_left l.field-iterator) ≡ first_value l.name (form.raw_pairs l.query))
