use Rattle.bx_planfile.proofs.FieldSteps.{done_is}
use Rattle.bx_planfile.proofs.fields.Fields.is_done.Goals as goal

pub returns : goal.returns
returns c = done_is c.self.inside.is_done c.self.inside.rest.now c.args.self.now c.self.view_is
