use Rattle.std.proofs.Common.{rules}
use Rattle.bx_flow.proofs.First.{first_potentials}
use Rattle.bx_flow.proofs.flowing.sent.Goals as goal

pub loop-init : goal.loop-init
loop-init g c =
    let empty = c.in_ok-carried.ensures.value in
    record {
      flow = c.in_ok-carried.ensures.flow;
      units = search rules;
      fits = first_potentials c.args.line.now c.in_ok-carried.carried c.in_ok-potentials.potentials c.requires.limits c.in_ok-carried.ensures.flow (rw empty c.in_ok-potentials.ensures);
    }
