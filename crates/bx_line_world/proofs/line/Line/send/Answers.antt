use Rattle.std.proofs.Common.{refl, sym, ap, ◌∙◌}
use Rattle.bx_line_world.specs.Steps.{with_wire}
use Rattle.bx_line_world.proofs.Stepping.{sent_more}
use Rattle.bx_line_world.proofs.line.Line.send.Goals as goal

pub loop-frame-init : goal.loop-frame-init
loop-frame-init g c = record { network = c.is_network-network.ensures; wire = g.met.W.Wire.did_nothing c.args.self.now.wire; rest = refl }

pub loop-frame-preserved : goal.loop-frame-preserved
loop-frame-preserved g c =
    let i = c.loop-frame.invariant in
    let new = c.send_one.new.self in
    record {
      network = i.network;
      wire = sent_more g.met.W.Wire.did_more c.args.self.now.wire c.is_network-network.result c.args.frames.now c.loop-frame.frame-index c.frame-item.result c.loop-frame.self.wire new.wire c.loop-frame-test.true (sym c.frame-item.is) i.wire c.send_one.ensures.wire;
      rest = c.send_one.ensures.rest ∙ ap (λ x. with_wire x new.wire) i.rest;
    }
