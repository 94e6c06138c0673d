use Rattle.std.proofs.Common.{◌≡◌, decimal, ap, ◌∙◌, rules}
use Rattle.bx_sales.specs.Amending.{row_numbered}
use Rattle.bx_sales.proofs.RowLines.{row_again}
use Rattle.bx_sales.proofs.row_line.cancel_line.Goals as goal

pub returns-clause-again : goal.returns-clause-again
returns-clause-again c =
    let text : c.put.new.line.items ≡ decimal c.args.row = search rules in
    ap row_numbered text ∙ row_again c.args.row c.ranges.row.fits
