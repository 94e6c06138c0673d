use Rattle.std.proofs.Common.{ap, ◌∙◌, refl, rules, arith, subst, sym, ℕ, ◌<◌}
use Rattle.bx_office_door.proofs.KeptSums.{kept_on}
use Rattle.bx_office_door.specs.declared.guest.Guest.{Guest}
use Rattle.bx_office_door.specs.Guests.{are_given}
use Rattle.bx_office_door.proofs.GivenNumbers.{numbers-set}
use Rattle.bx_office_door.proofs.Quiet.{quiet_more, quiet_all, eve_there}
use Rattle.bx_office_door.proofs.door.Door.go_on.Goals as goal

pub invariant_of-self-in-loop-index : goal.invariant_of-self-in-loop-index
invariant_of-self-in-loop-index c =
    let same = numbers-set c.loop-index.self.guests.items c.loop-index.index c.attend.new.self c.index_mut.result.now (c.attend.ensures.number ∙ ap (λ (g : Guest). g.number) c.index_mut.ensures.value) in
    let free = c.free_at-free.ensures c.index_mut.result.now in
    let kept = kept_on c.loop-index.self.guests.items _ c.loop-index.index c.attend.new.self c.index_mut.result.now _ c.free_at-free.result (search rules) refl free (search rules) c.loop-index.self.kept in
    record { few = c.loop-index.self.few; kept = kept; given = ap (are_given c.loop-index.self.count) same ∙ c.loop-index.self.given }

pub loop-index-preserved : goal.loop-index-preserved
loop-index-preserved c =
    let same = numbers-set c.loop-index.self.guests.items c.loop-index.index c.attend.new.self c.index_mut.result.now (c.attend.ensures.number ∙ ap (λ (g : Guest). g.number) c.index_mut.ensures.value) in
    record {
      count = c.loop-index.invariant.count;
      many = c.loop-index.invariant.many;
      numbers = same ∙ c.loop-index.invariant.numbers;
      others = record { office = c.loop-index.invariant.others.office; counter = c.loop-index.invariant.others.counter; answers = c.loop-index.invariant.others.answers; shown = c.loop-index.invariant.others.shown; heard = c.loop-index.invariant.others.heard; opens = c.loop-index.invariant.others.opens; figures = c.loop-index.invariant.others.figures };
      early = λ lt. quiet_more c.loop-index.self.guests.items c.loop-index.index c.attend.new.self (omega (arith, c.loop-index.invariant.many)) (c.loop-index.invariant.early lt)
          (c.attend.ensures.early (eve_there c.loop-index.self.opens c.args.now c.loop-index.self.is_heard _ _ c.eve_at-eve.ensures (subst (λ (opens : ℕ). c.args.now < opens) (sym c.loop-index.invariant.others.opens) lt)));
    }

pub returns-clause-early : goal.returns-clause-early
returns-clause-early c = λ lt. quiet_all c.loop-index.self.guests.items c.loop-index.index (omega (arith, c.loop-index.invariant.many)) (c.loop-index.invariant.early lt)
