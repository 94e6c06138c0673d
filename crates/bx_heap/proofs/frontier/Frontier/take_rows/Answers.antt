use Rattle.std.proofs.Common.{◌≡◌, ◌∙◌, ◌+◌, ◌<◌, ℕ, Option, length, refl, sym, subst, arith}
use Rattle.bx_line.specs.ByPlace.{IsFirstRow, row_place}
use Rattle.bx_line.specs.declared.incidence.Incidence.{Incidence}
use Rattle.bx_line.specs.declared.incidence.Incidence.TheVariants.{Leaving, Arriving}
use Rattle.bx_line.specs.Network.{Network}
use Rattle.bx_dist.specs.declared.step.Step.{Step}
use Rattle.bx_dist.specs.Search.{IsStep}
use Rattle.bx_dist.proofs.Rows.{fewer_left}
use Rattle.bx_heap.specs.Searching.{state_from, setting_of, row_step, turn_on, IsLeftToTake, IsSettling, TakesOpenStep}
use Rattle.bx_heap.proofs.Searches.{search_room, fits_part, takes_count}
use Rattle.bx_heap.proofs.Rows.{IsStillLeft, rows_begin, rows_next, row_taken}
use Rattle.bx_heap.proofs.frontier.Frontier.take_rows.Goals as goal

named : (line : Network) (side : Incidence) (row : ℕ) → row < length line.arcs → IsStep line (row_step side row)
named line Leaving row h = (omega arith, omega (arith, h))
named line Arriving row h = (omega arith, omega (arith, h))

pub loop-next-init : goal.loop-next-init
loop-next-init c =
    let s = setting_of c.args.part c.args.line.now c.args.carried.now c.args.potentials.now in
    let limits = c.requires.setting.limits in
    let fits = fits_part s c.requires.setting in
    let st = state_from c.args.self.now in
    let first = c.first_row-next.ensures in
    record {
      there = λ r e. (let t = first.there r e in (t.1, t.2));
      settling = rows_next s limits fits c.args.place c.args.side st 0 c.first_row-next.result first (rows_begin s limits fits c.args.place c.args.side st c.requires.settling);
      count = refl;
    }

pub step_along-requires : goal.step_along-requires
step_along-requires c = omega (arith, (c.loop-next.invariant.there c.in-Some.row c.in-Some.is).0, c.requires.setting.limits.few_rows)

pub take_step-requires-clause-step : goal.take_step-requires-clause-step
take_step-requires-clause-step c =
    subst (IsStep c.args.line.now) (sym c.step_along.ensures) (named c.args.line.now c.args.side c.in-Some.row (c.loop-next.invariant.there c.in-Some.row c.in-Some.is).0)

pub take_step-requires-clause-room : goal.take_step-requires-clause-room
take_step-requires-clause-room c =
    let s = setting_of c.args.part c.args.line.now c.args.carried.now c.args.potentials.now in
    search_room s (state_from c.loop-next.self) (λ _. ⊥) (λ t. IsLeftToTake c.args.line.now c.args.place (turn_on c.args.side) t × IsStillLeft c.args.side c.loop-next.next t) c.requires.setting c.loop-next.invariant.settling.search

pub loop-next-smaller : goal.loop-next-smaller
loop-next-smaller c =
    let n = length c.args.line.now.arcs in
    let first = c.next_row-next.ensures in
    rw c.in-Some.is (fewer_left n c.in-Some.row c.next_row-next.result (c.loop-next.invariant.there c.in-Some.row c.in-Some.is).0 (λ r e. (let t = first.there r e in (t.0, t.1))))

pub loop-next-preserved : goal.loop-next-preserved
loop-next-preserved c =
    let s = setting_of c.args.part c.args.line.now c.args.carried.now c.args.potentials.now in
    let limits = c.requires.setting.limits in
    let fits = fits_part s c.requires.setting in
    let place = c.args.place in
    let side = c.args.side in
    let row = c.in-Some.row in
    let next = c.next_row-next.result in
    let before = state_from c.loop-next.self in
    let after = state_from c.take_step.new.self in
    let at : row_place side c.args.line.now.arcs row ≡ place = (c.loop-next.invariant.there row c.in-Some.is).1 in
    let settling = subst (λ (o : Option ℕ). IsSettling s before place (λ t. IsLeftToTake s.line place (turn_on side) t × IsStillLeft side o t)) c.in-Some.is c.loop-next.invariant.settling in
    let takes = subst (λ (u : Step). TakesOpenStep s u before after) c.step_along.ensures c.in_ok-take_step.ensures in
    let first = subst (λ (v : ℕ). IsFirstRow side c.args.line.now.arcs v (row + 1) next) at c.next_row-next.ensures in
    record {
      there = λ r e. (let t = first.there r e in (t.1, t.2));
      settling = rows_next s limits fits place side after (row + 1) next first (row_taken s limits fits place side before after row at settling takes);
      count = takes_count s (row_step side row) before after takes ∙ c.loop-next.invariant.count;
    }
