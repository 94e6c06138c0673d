use Rattle.bx_planfile.proofs.Refusals.{line_never, count_never, total_never, end_never, not_memory}
use Rattle.bx_planfile.proofs.reading.tail_of.Goals as goal

pub returns-in_err-fields-clause-memory : goal.returns-in_err-fields-clause-memory
returns-in_err-fields-clause-memory c = λ m. not_memory (line_never _ _) c.in_err-fields.ensures m c.from_residual.ensures.1

pub returns-in_err-count-clause-memory : goal.returns-in_err-count-clause-memory
returns-in_err-count-clause-memory c = λ m. not_memory (count_never _ _ _ _) c.in_err-count.ensures.value m c.from_residual-in_err-count.ensures.1

pub returns-in_err-fields-2-clause-memory : goal.returns-in_err-fields-2-clause-memory
returns-in_err-fields-2-clause-memory c = λ m. not_memory (line_never _ _) c.in_err-fields-2.ensures m c.from_residual-in_err-fields-2.ensures.1

pub returns-in_err-total-clause-memory : goal.returns-in_err-total-clause-memory
returns-in_err-total-clause-memory c = λ m. not_memory (total_never _ _) c.in_err-total.ensures.value m c.from_residual-in_err-total.ensures.1

pub returns-in_err-fields-3-clause-memory : goal.returns-in_err-fields-3-clause-memory
returns-in_err-fields-3-clause-memory c = λ m. not_memory (line_never _ _) c.in_err-fields-3.ensures m c.from_residual-in_err-fields-3.ensures.1

pub returns-in_err-ends-clause-memory : goal.returns-in_err-ends-clause-memory
returns-in_err-ends-clause-memory c = λ m. not_memory (end_never _ _ _) c.in_err-ends.ensures m c.from_residual-in_err-ends.ensures.1
