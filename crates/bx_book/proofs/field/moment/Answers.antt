use Rattle.std.proofs.Common.{rules}
use Rattle.bx_book.proofs.field.moment.Goals as goal

pub returns-then-not-instant : goal.returns-then-not-instant
returns-then-not-instant c = search rules steps 400000
