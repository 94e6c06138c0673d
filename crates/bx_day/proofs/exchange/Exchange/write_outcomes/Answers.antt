use Rattle.std.proofs.Common.{[], ◌++◌, subst}
use Rattle.std.specs.Prelude.{OnErr}
use Rattle.std.proofs.lemmas.List.{append-nil}
use Rattle.bx_devices.specs.Octets.{AppendsPrefix}
use Rattle.bx_devices.specs.Watching.{device_of}
use Rattle.bx_text.specs.Gathering.{held}
use Rattle.bx_text.proofs.GatheringSteps.{puts_then, whole_written}
use Rattle.bx_day.specs.Telling.{outcomes_text}
use Rattle.bx_day.proofs.exchange.Exchange.write_outcomes.Goals as goal

pub returns-clause-prefix : goal.returns-clause-prefix
returns-clause-prefix g c =
    let contents = g.W.Write.contents in
    let text = outcomes_text c.args.given_up.now c.args.self.now in
    let start = held c.args.writer.now c.new-block.result in
    let full = held c.put_outcomes.new.writer c.put_outcomes.new.block in
    let whole = puts_then contents start full (held c.write_out.new.w c.write_out.new.self) c.write_out.result text [] c.in_ok-put_outcomes.ensures c.write_out.ensures.text in
    subst (λ t. OnErr c.write_out.result (AppendsPrefix (contents (device_of c.args.writer.now)) (contents (device_of c.write_out.new.w)) t)) (append-nil text)
    (whole_written contents c.args.writer.now c.write_out.new.w c.new-block.result c.write_out.new.self (text ++ []) c.new-block.ensures c.write_out.result whole c.write_out.ensures.empty).prefix
