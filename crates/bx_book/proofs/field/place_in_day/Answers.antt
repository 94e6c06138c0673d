use Rattle.std.proofs.Common.{rules}
use Rattle.bx_book.proofs.field.place_in_day.Goals as goal

pub returns-then-place-from-clause-none : goal.returns-then-place-from-clause-none
returns-then-place-from-clause-none c = search rules steps 400000
