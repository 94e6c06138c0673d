use Rattle.std.proofs.Common.{rules}
use Rattle.bx_planfile.proofs.fields.Fields.again.Goals as goal

pub returns : goal.returns
returns c = search rules steps 60000
