use Rattle.std.proofs.Common.{◌≡◌, ℕ, ◌-◌, ◌≤◌, ◌↔◌, true, false, List, ℤ, pos, nat_abs, ◌+ℤ◌, ◌-ℤ◌, ◌≤ℤ◌, ap, sym, ◌∙◌, subst}
use Rattle.bx_line.specs.declared.arc.Arc.{Arc}
use Rattle.bx_line.specs.Network.{Network}
use Rattle.bx_line.specs.Flows.{Flow, carries_unit}
use Rattle.bx_dist.specs.Residual.{height_at, row_arc}
use Rattle.bx_dist.specs.Inside.{RowFits}
use Rattle.bx_dist.proofs.Fitting.{test_up, test_down}
use Rattle.bx_dist.proofs.potentials.Potentials.row_fits.Goals as goal

module _ (line : Network) (flow : Flow) (heights : List ℤ) (row : ℕ) (arc : Arc) (from to : ℤ) (arc_is : arc ≡ row_arc line row) (from_is : from ≡ height_at heights arc.from) (to_is : to ≡ height_at heights arc.to) where
  ends : (from ≡ height_at heights (row_arc line row).from) × (to ≡ height_at heights (row_arc line row).to) × (arc.pay ≡ (row_arc line row).pay)
  ends = (from_is ∙ ap (λ (a : Arc). height_at heights a.from) arc_is, to_is ∙ ap (λ (a : Arc). height_at heights a.to) arc_is, ap (λ (a : Arc). a.pay) arc_is)

  taken_fits : carries_unit flow (row - 1) ≡ true → (from ≤ℤ (to +ℤ pos arc.pay)) ↔ RowFits line flow heights row
  taken_fits e = (λ h. record { onward = λ n. cc; back = λ _. rw (← ends.0, ← ends.1, ← ends.2) h }, λ r. rw (ends.0, ends.1, ends.2) (r.back e))

  free_fits : carries_unit flow (row - 1) ≡ false → (to ≤ℤ (from -ℤ pos arc.pay)) ↔ RowFits line flow heights row
  free_fits e = (λ h. record { onward = λ _. rw (← ends.0, ← ends.1, ← ends.2) h; back = λ n. cc }, λ r. rw (ends.0, ends.1, ends.2) (r.onward e))

small_at : (heights : List ℤ) (v : ℕ) (z : ℤ) → ((v : ℕ) → nat_abs (height_at heights v) ≤ 550000000000000000) → z ≡ height_at heights v → nat_abs z ≤ 550000000000000000
small_at heights v z small e = subst (λ (x : ℤ). nat_abs x ≤ 550000000000000000) (sym e) (small v)

pub returns-then-accepted : goal.returns-then-accepted
returns-then-accepted c =
    let small = small_at c.args.self.now in
    let t = test_up c.at-from.result c.at-to.result c.arc-arc.result.pay (small c.arc-arc.result.from c.at-from.result c.at-from.ensures.small c.at-from.ensures.value) (small c.arc-arc.result.to c.at-to.result c.at-to.ensures.small c.at-to.ensures.value) c.arc-arc.ensures.limits.pay_limit in
    let r = taken_fits c.args.line.now c.args.carried.now c.args.self.now c.args.row c.arc-arc.result c.at-from.result c.at-to.result c.arc-arc.ensures.value c.at-from.ensures.value c.at-to.ensures.value (sym (c.accepted.ensures.row c.requires.named) ∙ c.if-accepted.true) in
    (λ h. r.0 (t.0 h), λ f. t.1 (r.1 f))

pub returns-else-accepted : goal.returns-else-accepted
returns-else-accepted c =
    let small = small_at c.args.self.now in
    let t = test_down c.at-to.result c.at-from.result c.arc-arc.result.pay (small c.arc-arc.result.to c.at-to.result c.at-to.ensures.small c.at-to.ensures.value) (small c.arc-arc.result.from c.at-from.result c.at-from.ensures.small c.at-from.ensures.value) c.arc-arc.ensures.limits.pay_limit in
    let r = free_fits c.args.line.now c.args.carried.now c.args.self.now c.args.row c.arc-arc.result c.at-from.result c.at-to.result c.arc-arc.ensures.value c.at-from.ensures.value c.at-to.ensures.value (sym (c.accepted.ensures.row c.requires.named) ∙ c.if-accepted.false) in
    (λ h. r.0 (t.0 h), λ f. t.1 (r.1 f))
