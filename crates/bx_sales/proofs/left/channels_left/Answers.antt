use Rattle.std.proofs.Common.{◌≡◌, ℕ, ◌+◌, Bool, true, false, List, refl, sym, subst, ap, ◌∙◌, slice_set}
use Rattle.std.proofs.lemmas.Bool.{true≢false}
use Rattle.bx_base.specs.Channels.{has_channel}
use Rattle.bx_channels.specs.Marks.{is_marked}
use Rattle.bx_day.proofs.Once.{decide}
use Rattle.bx_sales.proofs.LeftOver.{left_marked, left_unmarked, left_none}
use Rattle.bx_sales.proofs.left.channels_left.Goals as goal
use Rattle.bx_sales.proofs.left.channels_left.Goals.{in-Some+then-in_maintenance, in-Some+else-in_maintenance, in_default}

pub loop-number-preserved : goal.loop-number-preserved
loop-number-preserved c = elim c.match-new.branch [
  | in-Some+then-in_maintenance w ↦ (
      let n = c.loop-number.number in
      let lost = c.args.exchange.now.maintenance in
      let here = w.in-Some.ensures.value in
      let marked : is_marked lost n ≡ true = ap (is_marked lost) (sym here) ∙ sym w.in_maintenance.ensures ∙ w.if-in_maintenance.true in
      w.left-is ∙ w.without-left.ensures.value ∙ ap (λ (k : ℕ). slice_set c.loop-number.left k false) here ∙ left_marked n lost c.args.channels c.loop-number.left c.loop-number.invariant marked)
  | in-Some+else-in_maintenance w ↦ (
      let n = c.loop-number.number in
      let lost = c.args.exchange.now.maintenance in
      let unmarked : is_marked lost n ≡ false = ap (is_marked lost) (sym w.in-Some.ensures.value) ∙ sym w.in_maintenance.ensures ∙ w.if-in_maintenance.false in
      w.left-is ∙ left_unmarked n lost c.args.channels c.loop-number.left c.loop-number.invariant unmarked)
  | in_default w ↦ (
      let n = c.loop-number.number in
      let none : has_channel c.args.channels n ≡ false = decide (has_channel c.args.channels n) (λ has. absurd (true≢false (sym (w.in_default.ensures.exactly.1 (c.count-count.ensures.set.only n has))))) (λ out. out) in
      w.left-is ∙ left_none n c.args.exchange.now.maintenance c.args.channels c.loop-number.left c.loop-number.invariant none)
]
