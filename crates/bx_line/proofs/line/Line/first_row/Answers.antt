use Rattle.std.proofs.Common.{◌≡◌, None, sym, ◌∙◌, subst, arith}
use Rattle.std.proofs.lemmas.List.{get_or_default}
use Rattle.bx_line.specs.ByPlace.{IsFirstRow, row_in}
use Rattle.bx_line.proofs.line.Line.first_row.Goals as goal

pub returns : goal.returns
returns c =
    let first = c.chains.result.now.first.items in
    let read : c.index.result.now ≡ row_in first c.args.place = c.index.ensures ∙ get_or_default first c.args.place c.index.result.now None (omega (arith, c.chains.ensures.first_each, c.requires)) in
    subst (IsFirstRow c.args.side c.args.self.now.arcs c.args.place 0) (sym read) (c.chains.ensures.begins c.args.place c.requires)
