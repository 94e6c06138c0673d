use Rattle.std.proofs.Common.{◌≡◌, ℕ, List, Option, length, subst, arith}
use Rattle.bx_sales.proofs.Beside.{AreSomeIn, all_in, some_inside}
use Rattle.bx_sales.proofs.going_on.with_own.Goals as goal

pub returns-clause-choices : goal.returns-clause-choices
returns-clause-choices c =
    let own = c.args.own.now in
    let all : c.loop-index.index ≡ length own = omega arith in
    all_in c.loop-index.service own c.args.channels (subst (λ (k : ℕ). AreSomeIn c.loop-index.service own c.args.channels k) all c.loop-index.invariant)

pub returns-clause-own : goal.returns-clause-own
returns-clause-own c = λ i n given.
    let own = c.args.own.now in
    let all : c.loop-index.index ≡ length own = omega arith in
    let inside = some_inside own i n given in
    c.loop-index.invariant.of_own i n (omega (arith, inside, all)) given
