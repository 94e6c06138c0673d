use Rattle.std.proofs.Common.{◌≡◌, map, take}
use Rattle.bx_line_world.specs.Lines.{sent_as}
use Rattle.bx_line_world.proofs.line.Line.send.Given as goal

abbrev pub invariant-loop-frame : goal.invariant-loop-frame
invariant-loop-frame g l = record {
  network : l.network ≡ l.fn.self.end.network;
  wire : g.W.Wire.did l.fn.self.wire (map (sent_as l.network) (take l.frame-index l.frames)) l.self.wire;
  rest : l.self ≡ record l.fn.self { wire = l.self.wire };
}
