use Rattle.std.proofs.Common.{◌≡◌, ℕ, length, subst, arith}
use Rattle.bx_line.specs.Network.{places_of}
use Rattle.bx_rounds.specs.Rounds.{ListsOpenSteps}
use Rattle.bx_rounds.proofs.Listing.{listed_row, listed_all}
use Rattle.bx_rounds.proofs.steps.listed.Goals as goal

pub loop-i-preserved : goal.loop-i-preserved
loop-i-preserved c =
    listed_row c.args.part c.args.line.now c.args.carried.now (places_of c.args.line.now) c.loop-i.i c.loop-i.steps.items c.add_open.new.steps.items c.add_open-in-loop-i.new.steps.items c.loop-i.invariant c.in_ok-add_open.ensures c.in_ok-add_open-2.ensures

pub returns : goal.returns
returns c =
    let all : c.loop-i.i ≡ length c.args.line.now.arcs = omega arith in
    listed_all c.args.part c.args.line.now c.args.carried.now c.loop-i.steps.items (subst (λ (n : ℕ). ListsOpenSteps c.args.part c.args.line.now c.args.carried.now (places_of c.args.line.now) n c.loop-i.steps.items) all c.loop-i.invariant)
