use Rattle.std.proofs.Common.{◌≡◌, ◌<◌, Some, None, length, sym, ap, subst, refl, ◌∙◌, arith}
use Rattle.std.proofs.lemmas.Bool.{false≢true}
use Rattle.std.specs.Prelude.{is_some}
use Rattle.std.specs.List.{AllByRecursion}
use Rattle.bx_day.specs.Reading.{Seated}
use Rattle.bx_day.specs.Slots.{slot_at}
use Rattle.bx_day.proofs.SlotLemmas.{slot_is, slot_none}
use Rattle.bx_day.proofs.TouchLemmas.{passed_as}
use Rattle.bx_day.proofs.TouchSlots.{none_below, same_below, one_below, undone_below, all_below, kept_as}
use Rattle.bx_day.proofs.ticking.move_all.Goals.{in-Some, in_default}
use Rattle.bx_day.proofs.ticking.move_all.Goals as goal

pub loop-number-init : goal.loop-number-init
loop-number-init c = record {
  size = refl;
  seated = c.requires.seated;
  moved = λ d done t b h blocked own undone p. passed_as c.args.link d done _ c.args.entries.now c.args.maintenance.now c.args.said.now (λ i lt. none_below d c.args.slots.now done i) p;
}

pub loop-number-preserved : goal.loop-number-preserved
loop-number-preserved c =
    let n = c.loop-number.number in
    let slots = c.args.slots.now in
    let room : n < length slots = omega (arith, c.loop-number-test.true, c.told-slots) in
    let now = c.loop-number.invariant in
    elim c.match-slots-number.branch [
      | in-Some w ↦
          let j = w.in-Some.index in
          let slot : slot_at slots n ≡ Some j = slot_is slots n _ (Some j) room w.in-Some.is in
          record {
            size = ap length w.entries-is ∙ w.move_one.ensures.size ∙ now.size;
            seated = subst (AllByRecursion Seated) (sym w.entries-is) w.move_one.ensures.seated;
            moved = λ d done t b h blocked own undone p.
                let on = (own n j slot).1 in
                kept_as c.args.link d _ w.move_one.new.entries c.match-slots-number.entries w.move_one.new.maintenance c.match-slots-number.maintenance w.move_one.new.said c.match-slots-number.said w.entries-is w.maintenance-is w.said-is
                (passed_as c.args.link d _ _ w.move_one.new.entries w.move_one.new.maintenance w.move_one.new.said (λ i lt. one_below d slots done n j i slot on)
                (w.move_one.ensures.moved d _ t b h blocked (undone_below d slots done n j on (undone n j slot)) (now.moved d done t b h blocked own undone p)));
          }
      | in_default w ↦
          let slot : slot_at slots n ≡ None = slot_none slots n _ room w.in_default.not-Some in
          record {
            size = ap length w.entries-is ∙ now.size;
            seated = subst (AllByRecursion Seated) (sym w.entries-is) now.seated;
            moved = λ d done t b h blocked own undone p.
                kept_as c.args.link d _ c.loop-number.entries c.match-slots-number.entries c.loop-number.maintenance c.match-slots-number.maintenance c.loop-number.said c.match-slots-number.said w.entries-is w.maintenance-is w.said-is
                (passed_as c.args.link d _ _ c.loop-number.entries c.loop-number.maintenance c.loop-number.said (λ i lt. same_below d slots done n i (λ is. false≢true (ap is_some (sym slot ∙ is)))) (now.moved d done t b h blocked own undone p));
          }
    ]

pub returns-clause-moved : goal.returns-clause-moved
returns-clause-moved c d done t b h blocked own undone p =
    passed_as c.args.link d _ _ c.loop-number.entries c.loop-number.maintenance c.loop-number.said (λ i lt. all_below d c.args.slots.now done c.loop-number.number i (omega (arith, c.told-slots, c.loop-number-test.false))) (c.loop-number.invariant.moved d done t b h blocked own undone p)
