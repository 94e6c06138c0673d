use Rattle.std.proofs.Common.{[]}
use Rattle.bx_text.specs.Gathering.{held}
use Rattle.bx_text.proofs.GatheringSteps.{puts_then, put_at_once}
use Rattle.bx_text.proofs.block.Block.put_first.Goals as goal

pub returns-in-Err : goal.returns-in-Err
returns-in-Err g c =
    let contents = g.W.Write.contents in
    let empty = held c.write_out.new.w c.write_out.new.self in
    let w = c.write_octets.ensures in
    let last = put_at_once contents c.write_out.new.w c.write_octets.new.w c.write_out.new.self c.write_octets.result c.args.octets.now c.in_ok-write_out.ensures.empty w.ok w.prefix w.err w.unfaulted w.reads in
    rw c.in-Err.ensures.err (puts_then contents (held c.args.w.now c.args.self.now) empty (held c.write_octets.new.w c.write_out.new.self) c.write_octets.result [] c.args.octets.now c.in_ok-write_out.ensures.text last)
