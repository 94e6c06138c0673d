use Rattle.std.proofs.Common.{◌≡◌, ◌<◌, ◌-◌, ℕ, true, false, List, length, replicate, sym, ◌∙◌, ap, arith, rules}
use Rattle.std.proofs.Common.{Vec, Global}
use Rattle.std.specs.List.{each_same}
use Rattle.std.proofs.lemmas.List.{with_items_is}
use Rattle.bx_line.specs.Flows.{Flow, carries_unit}
use Rattle.bx_dist.proofs.Resting.{rest_first, rest_more, rest_same, some_idle, flow_from_rest}
use Rattle.bx_dist.proofs.carried.Carried.along.Goals.{then-carries, else-carries}
use Rattle.bx_dist.proofs.carried.Carried.along.Goals as goal

pub take_over-requires : goal.take_over-requires
take_over-requires c =
    let line = c.args.line.now in
    let flow = c.args.self.now in
    let rest = c.loop-row.invariant in
    let network = c.rows-row-end.ensures.limits in
    let within : c.loop-row.row < length line.arcs = omega (arith, c.rows-row-end.ensures.count) in
    let carried : carries_unit flow c.loop-row.row ≡ true = sym c.carries.ensures ∙ c.if-carries.true in
    rw (c.deref_mut.ensures.value) (record {
      rising = c.arc.ensures.limits.rising;
      within = omega (arith, c.arc.ensures.limits.within, rest.size);
      some = rw c.arc.ensures.value (some_idle line flow c.loop-row.row c.loop-row.idle.items rest network within c.requires.room carried);
    })

pub loop-row-preserved : goal.loop-row-preserved
loop-row-preserved c =
    let line = c.args.line.now in
    let flow = c.args.self.now in
    let old = c.loop-row.idle.items in
    let new = c.if-carries.idle.items in
    let rest = c.loop-row.invariant in
    elim c.if-carries.branch [
      | then-carries w ↦ (
          let carried : carries_unit flow c.loop-row.row ≡ true = sym c.carries.ensures ∙ w.if-carries.true in
          let size : length w.take_over.new.idle ≡ length old = w.take_over.ensures.size ∙ ap (λ (xs : List ℕ). length xs) w.deref_mut.ensures.value in
          let write : new ≡ w.take_over.new.idle = ap (λ (v : Vec ℕ Global). v.items) w.idle-is ∙ with_items_is c.loop-row.idle w.take_over.new.idle (size ∙ sym c.loop-row.idle.ok.0) in
          let each = rw (w.deref_mut.ensures.value, w.arc.ensures.value) at w.take_over.ensures.each in
          rw write (rest_more line flow c.loop-row.row old rest w.take_over.new.idle carried size each))
      | else-carries w ↦ (
          let left : carries_unit flow c.loop-row.row ≡ false = sym c.carries.ensures ∙ w.if-carries.false in
          let same : new ≡ old = search rules in
          rw same (rest_same line flow c.loop-row.row old rest left))
    ]

pub loop-row-init : goal.loop-row-init
loop-row-init c =
    let flow = c.args.self.now in
    let filled : c.in_ok-idle.idle.items ≡ replicate (c.places.result - 1) c.self.inside.units = search rules in
    let all : c.in_ok-idle.idle.items ≡ replicate (c.places.result - 1) flow.units = filled ∙ ap (λ (w : Flow). replicate (c.places.result - 1) w.units) c.self.view_is in
    rest_first c.args.line.now flow (c.places.result - 1) c.in_ok-idle.idle.items (ap (λ (n : ℕ). n - 1) c.places.ensures.count) all

pub returns-clause-flow : goal.returns-clause-flow
returns-clause-flow c =
    let line = c.args.line.now in
    let flow = c.args.self.now in
    let rows : c.in_ok-clone.field-0.items ≡ flow.accepted = each_same c.self.inside.accepted.items c.in_ok-clone.field-0.items c.in_ok-clone.ensures.cases.0 ∙ ap (λ (w : Flow). w.accepted) c.self.view_is in
    let units : c.self.inside.units ≡ flow.units = ap (λ (w : Flow). w.units) c.self.view_is in
    let all : c.loop-row.row ≡ length line.arcs = omega (arith, c.rows-row-end.ensures.count, c.loop-row.auto.row-end) in
    rw (rows, units) (flow_from_rest line flow c.loop-row.row c.loop-row.idle.items c.rows-row-end.ensures.limits c.requires.no_gap c.requires.rows all c.loop-row.invariant)
