use Rattle.std.proofs.Common.{◌+◌, ℕ, ℤ, List, Option, length, subst, arith}
use Rattle.bx_line.specs.ByPlace.{IsFirstRow}
use Rattle.bx_line.specs.declared.incidence.Incidence.TheVariants.{Leaving}
use Rattle.bx_dist.specs.Search.{AreMedium}
use Rattle.bx_dist.specs.Residual.{AreSmall}
use Rattle.bx_dist.proofs.Along.{IsPassing, IsRowLeft, bounds_small, passed_bounds, idle_passed, row_passed, next_passed, rows_passed}
use Rattle.bx_dist.proofs.Rows.{fewer_left}
use Rattle.bx_dist.proofs.first.pass.Goals as goal

small_medium : (lengths : List ℤ) → AreSmall lengths → AreMedium lengths
small_medium lengths small v = omega (arith, small v)

pub shorten-requires-clause-medium : goal.shorten-requires-clause-medium
shorten-requires-clause-medium c =
    small_medium c.args.lengths.now (bounds_small c.args.line.now c.requires.limits c.args.lengths.now (passed_bounds c.args.line.now c.requires.limits c.args.place c.args.lengths.now c.requires.passed))

pub loop-next-init : goal.loop-next-init
loop-next-init c =
    let line = c.args.line.now in
    let limits = c.requires.limits in
    let place = c.args.place in
    let first = c.first_row-next.ensures in
    record {
      there = λ r e. (let t = first.there r e in (t.1, t.2));
      passing = next_passed line limits place 0 c.first_row-next.result c.shorten.new.lengths first (idle_passed line limits place c.args.lengths.now c.shorten.new.lengths c.shorten.result c.requires.within c.requires.passed c.shorten.ensures.shorter c.shorten.ensures.settled c.shorten.ensures.unchanged);
    }

pub overflow_add-row : goal.overflow_add-row
overflow_add-row c = omega (arith, (c.loop-next.invariant.there c.in-Some.row c.in-Some.is).0, c.requires.limits.few_rows)

pub shorten-requires-in-Some-clause-step : goal.shorten-requires-in-Some-clause-step
shorten-requires-in-Some-clause-step c =
    let there = c.loop-next.invariant.there c.in-Some.row c.in-Some.is in
    (omega arith, omega (arith, there.0))

pub shorten-requires-in-Some-clause-medium : goal.shorten-requires-in-Some-clause-medium
shorten-requires-in-Some-clause-medium c =
    small_medium c.loop-next.lengths (bounds_small c.args.line.now c.requires.limits c.loop-next.lengths c.loop-next.invariant.passing.bounds)

pub next_row-next-requires : goal.next_row-next-requires
next_row-next-requires c = (c.loop-next.invariant.there c.in-Some.row c.in-Some.is).0

pub loop-next-smaller : goal.loop-next-smaller
loop-next-smaller c =
    let first = c.next_row-next.ensures in
    rw c.in-Some.is (fewer_left (length c.args.line.now.arcs) c.in-Some.row c.next_row-next.result (c.loop-next.invariant.there c.in-Some.row c.in-Some.is).0 (λ r e. (let t = first.there r e in (t.0, t.1))))

pub loop-next-preserved : goal.loop-next-preserved
loop-next-preserved c =
    let line = c.args.line.now in
    let limits = c.requires.limits in
    let place = c.args.place in
    let row = c.in-Some.row in
    let next = c.next_row-next.result in
    let there = c.loop-next.invariant.there row c.in-Some.is in
    let step = c.shorten-in-Some.ensures in
    let passing = subst (λ (o : Option ℕ). IsPassing line place (IsRowLeft line place o) c.loop-next.lengths) c.in-Some.is c.loop-next.invariant.passing in
    let first = subst (λ (v : ℕ). IsFirstRow Leaving line.arcs v (row + 1) next) there.1 c.next_row-next.ensures in
    record {
      there = λ r e. (let t = first.there r e in (t.1, t.2));
      passing = next_passed line limits place (row + 1) next c.shorten-in-Some.new.lengths first (row_passed line limits place row c.loop-next.lengths c.shorten-in-Some.new.lengths c.shorten-in-Some.result there.0 there.1 passing step.shorter step.settled step.unchanged);
    }

pub returns : goal.returns
returns c =
    let passing = subst (λ (o : Option ℕ). IsPassing c.args.line.now c.args.place (IsRowLeft c.args.line.now c.args.place o) c.loop-next.lengths) c.in_default.is c.loop-next.invariant.passing in
    rows_passed c.args.line.now c.requires.limits c.args.place c.loop-next.lengths passing
