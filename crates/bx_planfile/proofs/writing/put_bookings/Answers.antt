use Rattle.std.proofs.Common.{◌≡◌, ℕ, zero, suc, List, ◌∷◌, [], ◌<◌, ◌≤◌, length, get_or, Option, Some, None, refl, sym, ap, subst, ◌∙◌, arith, inl, inr}
use Rattle.std.proofs.lemmas.Bool.{cases_eq}
use Rattle.std.proofs.lemmas.List.{get_or_read}
use Rattle.std.proofs.lemmas.Result.{err_from_is_err_and}
use Rattle.std.specs.Prelude.{IfSome}
use Rattle.bx_channels.specs.ChannelNumbers.{IsChannel}
use Rattle.bx_planfile.specs.declared.version.Version.TheVariants.{Three}
use Rattle.bx_planfile.specs.Text.{booking_fields, booking_lines}
use Rattle.bx_planfile.proofs.WritingSteps.{length-booking_lines, booking_line_at}
use Rattle.bx_text.proofs.GatheringSteps.{line_put, line_failed, lines_put}
use Rattle.bx_text.specs.Gathering.{held}
use Rattle.bx_planfile.proofs.writing.put_bookings.Goals as goal

if_some : (o : Option ℕ) (c : ℕ) → o ≡ Some c → IfSome o IsChannel → IsChannel c
if_some None c e h = absurd cc
if_some (Some x) c e h = let same : x ≡ c = cc in subst IsChannel same h

pub returns-in_err-put-clause-text : goal.returns-in_err-put-clause-text
returns-in_err-put-clause-text g c =
    let p = err_from_is_err_and c.from_residual.result c.from_residual.ensures.1 in
    let plan = c.args.plan.now in
    let i = c.loop-i.i in
    let lines = booking_lines Three plan.bookings plan.assigned.items in
    let one_each : length plan.assigned.items ≡ length plan.bookings = omega (arith, plan.assigned.ok.0, plan.one_each) in
    let below : i < length plan.bookings = omega (arith, c.loop-i-test.true, c.len-i-end.ensures.count) in
    let within : i < length lines = omega (arith, length-booking_lines Three plan.bookings plan.assigned.items one_each) in
    let channel = get_or_read plan.assigned.items i c.index-channel.result.now (omega arith) c.index-channel.ensures None in
    let line : get_or lines i [] ≡ booking_fields Three c.nth.result c.index-channel.result.now = booking_line_at Three plan.bookings plan.assigned.items i one_each below ∙ rw (c.nth.ensures.value, ← channel) refl in
    rw p.1 (line_failed g.W.Write.contents lines i (held c.args.w.now c.args.block.now) (held c.loop-i.w c.loop-i.block) (held c.put.new.w c.put.new.block) c.in_err-put.field-0.0 p.0 (booking_fields Three c.nth.result c.index-channel.result.now) c.deref.result.now within line
    (c.deref.ensures.0 ∙ c.booking_line.ensures.text) c.loop-i.invariant.text c.in_err-put.ensures)

pub loop-i-preserved : goal.loop-i-preserved
loop-i-preserved g c =
    let plan = c.args.plan.now in
    let i = c.loop-i.i in
    let lines = booking_lines Three plan.bookings plan.assigned.items in
    let one_each : length plan.assigned.items ≡ length plan.bookings = omega (arith, plan.assigned.ok.0, plan.one_each) in
    let below : i < length plan.bookings = omega (arith, c.loop-i-test.true, c.len-i-end.ensures.count) in
    let within : i < length lines = omega (arith, length-booking_lines Three plan.bookings plan.assigned.items one_each) in
    let channel = get_or_read plan.assigned.items i c.index-channel.result.now (omega arith) c.index-channel.ensures None in
    let line : get_or lines i [] ≡ booking_fields Three c.nth.result c.index-channel.result.now = booking_line_at Three plan.bookings plan.assigned.items i one_each below ∙ rw (c.nth.ensures.value, ← channel) refl in
    record {
      text = line_put g.W.Write.contents lines i (held c.args.w.now c.args.block.now) (held c.loop-i.w c.loop-i.block) (held c.put.new.w c.put.new.block) (booking_fields Three c.nth.result c.index-channel.result.now) c.deref.result.now within line
          (c.deref.ensures.0 ∙ c.booking_line.ensures.text) c.loop-i.invariant.text c.in_ok-put.ensures;
      limits = λ k n lt e. elim (cases_eq k i) [
        | inl same ↦ if_some c.index-channel.result.now n (channel ∙ ap (λ (m : ℕ). get_or plan.assigned.items m None) (sym same) ∙ e) c.booking_line.ensures.limits
        | inr other ↦ c.loop-i.invariant.limits k n (omega arith) e
      ];
    }

pub returns-clause-text : goal.returns-clause-text
returns-clause-text g c =
    let plan = c.args.plan.now in
    let lines = booking_lines Three plan.bookings plan.assigned.items in
    let one_each : length plan.assigned.items ≡ length plan.bookings = omega (arith, plan.assigned.ok.0, plan.one_each) in
    let all : length lines ≤ c.loop-i.i = omega (arith, length-booking_lines Three plan.bookings plan.assigned.items one_each, c.loop-i-test.false, c.len-i-end.ensures.count) in
    lines_put g.W.Write.contents lines c.loop-i.i (held c.args.w.now c.args.block.now) (held c.loop-i.w c.loop-i.block) all c.loop-i.invariant.text

within : (xs : List (Option ℕ)) (k n : ℕ) → get_or xs k None ≡ Some n → k < length xs
within [] k n e = absurd cc
within (x ∷ xs) zero n e = omega arith
within (x ∷ xs) (suc k) n e = let more = within xs k n e in omega (arith, more)

pub returns-clause-limits : goal.returns-clause-limits
returns-clause-limits g c = λ k n e.
    let plan = c.args.plan.now in
    let all = within plan.assigned.items k n e in
    c.loop-i.invariant.limits k n (omega (arith, all, plan.assigned.ok.0, plan.one_each, c.loop-i-test.false, c.len-i-end.ensures.count)) e
