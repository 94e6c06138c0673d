use Rattle.std.proofs.Common.{rules}
use Rattle.bx_book.proofs.text.columns_under.Goals as goal

pub returns-in-6 : goal.returns-in-6
returns-in-6 c = search rules steps 400000
