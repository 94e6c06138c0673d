use Rattle.std.proofs.Common.{◌≡◌, [], ◌∷◌, ◌++◌, List, ℕ, length, decimal, ap, ◌∙◌, arith, append_assoc}
use Rattle.bx_sales.specs.Amending.{row_named, behind_row}
use Rattle.bx_sales.proofs.RowLines.{named_again, text_again, short}
use Rattle.bx_sales.proofs.row_line.change_line.Goals as goal

pub put-requires : goal.put-requires
put-requires c =
    let few = short c.args.row c.ranges.row.fits in
    let n = ap length c.cancel_line-line.ensures.text in
    omega (arith, few, n)

pub put-requires-2 : goal.put-requires-2
put-requires-2 c =
    let few = short c.args.row c.ranges.row.fits in
    let n = ap length c.cancel_line-line.ensures.text in
    omega (arith, few, n, c.put.ensures.len, c.requires)

pub returns-clause-row : goal.returns-clause-row
returns-clause-row c =
    let b = c.args.booking.now in
    let text : c.put-2.new.line.items ≡ decimal c.args.row ++ 32 ∷ b =
    c.put-2.ensures.items ∙ ap (λ (l : List ℕ). l ++ b) (c.put.ensures.items ∙ ap (λ (l : List ℕ). l ++ 32 ∷ []) c.cancel_line-line.ensures.text) ∙ append_assoc (decimal c.args.row) (32 ∷ []) b in
    ap row_named text ∙ named_again c.args.row c.ranges.row.fits b

pub returns-clause-booking : goal.returns-clause-booking
returns-clause-booking c =
    let b = c.args.booking.now in
    let text : c.put-2.new.line.items ≡ decimal c.args.row ++ 32 ∷ b =
    c.put-2.ensures.items ∙ ap (λ (l : List ℕ). l ++ b) (c.put.ensures.items ∙ ap (λ (l : List ℕ). l ++ 32 ∷ []) c.cancel_line-line.ensures.text) ∙ append_assoc (decimal c.args.row) (32 ∷ []) b in
    ap behind_row text ∙ text_again c.args.row c.ranges.row.fits b
