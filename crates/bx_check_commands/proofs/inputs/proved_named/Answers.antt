use Rattle.bx_devices.specs.Devices.{reading_of}
use Rattle.bx_base.specs.PlanParts.{parts_of}
use Rattle.bx_check_commands.proofs.Named.{named, proved_named}
use Rattle.bx_check_commands.proofs.inputs.proved_named.Goals as goal

pub returns-clause-found : goal.returns-clause-found
returns-clause-found g c = proved_named (g.I.Inputs.gives c.args.inputs.now) c.args.name.now parts_of c.proved_plan.result
    (named (g.I.Inputs.gives c.args.inputs.now) c.args.name.now (reading_of g.I.Reader.Read.remaining c.in_ok-input.input c.proved_plan.new.input) parts_of c.proved_plan.result
    (record { given = c.in_ok-input.ensures.opened; unfaulted = c.in_ok-input.ensures.unfaulted; unread = c.in_ok-input.ensures.unread }) c.proved_plan.ensures.found c.proved_plan.ensures.read) c.proved_plan.ensures.proved
