use Rattle.std.proofs.Common.{◌≡◌, ◌+◌, None, sym, ◌∙◌, subst, arith}
use Rattle.std.proofs.lemmas.List.{get_or_default}
use Rattle.bx_line.specs.ByPlace.{IsFirstRow, row_in, row_place}
use Rattle.bx_line.proofs.line.Line.next_row.Goals as goal

pub returns : goal.returns
returns c =
    let next = c.chains.result.now.next.items in
    let read : c.index.result.now ≡ row_in next c.args.row = c.index.ensures ∙ get_or_default next c.args.row c.index.result.now None (omega (arith, c.chains.ensures.next_each, c.requires)) in
    subst (IsFirstRow c.args.side c.args.self.now.arcs (row_place c.args.side c.args.self.now.arcs c.args.row) (c.args.row + 1)) (sym read) (c.chains.ensures.goes_on c.args.row c.requires)
