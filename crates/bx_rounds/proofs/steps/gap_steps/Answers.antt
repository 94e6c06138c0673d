use Rattle.std.proofs.Common.{arith}
use Rattle.bx_line.specs.Network.{places_of}
use Rattle.bx_rounds.proofs.Listing.{listed_none, listed_gap, listed_fewer}
use Rattle.bx_rounds.proofs.steps.gap_steps.Goals as goal

pub loop-v-init : goal.loop-v-init
loop-v-init c = rw c.new-steps.ensures.items (listed_none c.args.part c.args.line.now c.args.carried.now)

pub loop-v-preserved : goal.loop-v-preserved
loop-v-preserved c =
    listed_gap c.args.part c.args.line.now c.args.carried.now c.loop-v.v c.loop-v.steps.items c.add_open.new.steps.items c.add_open-in-loop-v.new.steps.items (omega arith) c.loop-v.invariant c.in_ok-add_open.ensures c.in_ok-add_open-2.ensures

pub returns : goal.returns
returns c =
    listed_fewer c.args.part c.args.line.now c.args.carried.now c.loop-v.v (places_of c.args.line.now) 0 c.loop-v.steps.items (omega arith) c.loop-v.invariant
