use Rattle.std.proofs.Common.{◌≡◌, false, None, refl, replicate, sym, ap}
use Rattle.bx_day.specs.Day.{Day}
use Rattle.bx_day.proofs.TouchLemmas.{none_passed}
use Rattle.bx_day.proofs.TouchSlots.{kept_as, all_passed, with_all, second_undone, third_undone}
use Rattle.bx_day.proofs.ticking.move_on.Goals as goal

pub returns : goal.returns
returns c unlinked d is b h blocked t =
    let first = c.args.live.now in
    let second = c.args.waiting.now in
    let third = c.args.second.now in
    let moment : d.moment ≡ c.args.moment = ap (λ (x : Day). x.moment) is in
    let start = kept_as c.args.link d (λ i. false) d.entries c.args.entries.now d.maintenance c.args.maintenance.now (replicate 32 None) (replicate 32 None) (sym (ap (λ (x : Day). x.entries) is)) (sym (ap (λ (x : Day). x.maintenance) is)) refl (none_passed c.args.link d) in
    let one = c.move_all.ensures.moved d (λ i. false) moment b h blocked t.firsts (λ k i there. refl) start in
    let two = c.move_all-2.ensures.moved d _ moment b h blocked t.seconds (second_undone c.args.link d first second third t) one in
    let three = c.move_all-3.ensures.moved d _ moment b h blocked t.thirds (third_undone c.args.link d first second third t) two in
    all_passed c.args.link d _ c.move_all-3.new.entries c.move_all-3.new.maintenance c.move_all-3.new.said h (λ i lt none. with_all c.args.link d first second third i t lt none) three
