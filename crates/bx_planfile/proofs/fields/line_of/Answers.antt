use Rattle.std.proofs.Common.{sym, ◌∙◌}
use Rattle.bx_planfile.proofs.LineCuts.{line_found, line_missing}
use Rattle.bx_planfile.proofs.fields.line_of.Goals as goal

pub returns-in-Some : goal.returns-in-Some
returns-in-Some c = line_found c.args.n c.args.bytes.now c.in-Some.end c.of.result c.of.ensures (sym c.place_of.ensures ∙ c.in-Some.is)

pub returns-in-None : goal.returns-in-None
returns-in-None c = line_missing c.args.n c.args.bytes.now (sym c.place_of.ensures ∙ c.in-None.is)
