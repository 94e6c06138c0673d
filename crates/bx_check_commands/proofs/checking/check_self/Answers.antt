use Rattle.bx_devices.specs.Devices.{reading_of, writing_of}
use Rattle.bx_base.specs.PlanParts.{parts_of}
use Rattle.bx_check_commands.proofs.Judging.{unjudged}
use Rattle.bx_check_commands.proofs.checking.check_self.Goals as goal

pub returns-clause-refused : goal.returns-clause-refused
returns-clause-refused g c = unjudged (reading_of g.R.Read.remaining c.args.input.now c.plan_from.new.input) (writing_of g.W.Write.contents c.args.output.now c.judge.new.output) (parts_of c.in_ok-plan.plan) c.in_ok-plan.ensures.found c.judge.result c.judge.ensures.refused
