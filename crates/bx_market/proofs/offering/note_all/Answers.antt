use Rattle.std.proofs.Common.{◌≡◌, ◌<◌, [], List, ℕ, ◌+◌, Bool, length, false, sym, ap, ◌∙◌, subst, arith, rules}
use Rattle.std.proofs.lemmas.Result.{err_from_is_err_and}
use Rattle.bx_colour.specs.Colouring.{is_in}
use Rattle.bx_market.specs.declared.market.Answer.{Answer}
use Rattle.bx_market.specs.declared.market.Answer.TheVariants.{Refused}
use Rattle.bx_market.specs.Deals.{sold_of}
use Rattle.bx_market.specs.Offers.{why_not, TellsOfAny}
use Rattle.bx_market.proofs.Batches.{sold_none, none_more}
use Rattle.bx_market.proofs.Settled.{as_result}
use Rattle.bx_market.proofs.Noted.{AreNoted, none_noted, noted_next, noted_over, noted_all}
use Rattle.bx_market.proofs.offering.note_all.Goals as goal

pub loop-index-init : goal.loop-index-init
loop-index-init g c =
    let b = c.args.batch.now in
    let e : c.new-answers.result.items ≡ [] = search rules in
    record {
      len = ap length e;
      none = λ x. ap (sold_of b) e ∙ sold_none b;
      noted = λ channels d d1 now eligible best sold. none_noted channels g.met.W.Market.dealt_by g.met.W.World.did_nothing c.args.world.now d d1 c.args.tag b c.args.choice.now.chosen.items c.new-answers.result.items e sold;
    }

pub returns-in_err-answer : goal.returns-in_err-answer
returns-in_err-answer g c channels d d1 now eligible best sold =
    let p = err_from_is_err_and c.from_residual.result c.from_residual.ensures.1 in
    let l = c.loop-index in
    let b = c.args.batch.now in
    let lt : l.index < length b = omega (arith, c.loop-index-test.true, c.len-index-end.ensures.count) in
    let noted = l.invariant.noted channels d d1 now eligible best sold in
    rw p.1 (noted_over g.W.Market.dealt g.met.W.Market.dealt_more channels c.args.world.now l.world c.note_one.new.world d d1 c.args.tag b c.args.choice.now.chosen.items best l.answers.items l.index noted l.invariant.len lt
    c.nth-booking.result c.is_chosen-is_chosen.result c.in_err-answer.field-0.0 c.nth-booking.ensures.value c.is_chosen-is_chosen.ensures c.in_err-answer.ensures.noted)

pub push-requires : goal.push-requires
push-requires g c =
    let n = c.len-index-end.ensures.bookings.few in
    (omega arith, omega (arith, c.loop-index.invariant.len, c.loop-index-test.true, c.len-index-end.ensures.count, n))

pub loop-index-preserved : goal.loop-index-preserved
loop-index-preserved g c =
    let l = c.loop-index in
    let b = c.args.batch.now in
    let items = l.answers.items in
    let a = c.in_ok-answer.answer in
    let lt : l.index < length b = omega (arith, c.loop-index-test.true, c.len-index-end.ensures.count) in
    record {
      len = omega (arith, c.push.ensures.len, l.invariant.len);
      none = λ e. let h = c.is_sold_now-is_any_sold.ensures e in ap (sold_of b) c.push.ensures.items ∙ none_more b items a h.1 (l.invariant.none h.0);
      noted = λ channels d d1 now eligible best sold.
          let noted = l.invariant.noted channels d d1 now eligible best sold in
          let eligible_is = c.is_eligible-is_eligible.ensures ∙ ap (λ (ms : List Bool). is_in ms l.index) eligible in
          let left_out : c.is_chosen-is_chosen.result ≡ false → as_result a ≡ as_result (Refused (why_not d.moment c.nth-booking.result c.is_eligible-is_eligible.result)) = λ h. subst (λ (t : ℕ). as_result a ≡ as_result (Refused (why_not t c.nth-booking.result c.is_eligible-is_eligible.result))) (sym now) (c.in_ok-answer.ensures.left_out h) in
          let next = noted_next g.W.Market.dealt g.met.W.Market.dealt_more channels c.args.world.now l.world c.note_one.new.world d d1 c.args.tag b c.args.choice.now.chosen.items best items l.index noted l.invariant.len lt
          c.len-index-end.ensures.bookings a c.nth-booking.result c.is_eligible-is_eligible.result c.is_chosen-is_chosen.result c.nth-booking.ensures.value eligible_is c.is_chosen-is_chosen.ensures
          c.in_ok-answer.ensures.noted c.in_ok-answer.ensures.chosen left_out in
          subst (λ (xs : List Answer). AreNoted g.W.Market.dealt channels c.args.world.now c.note_one.new.world d d1 c.args.tag b c.args.choice.now.chosen.items xs (l.index + 1)) (sym c.push.ensures.items) next;
    }

pub returns : goal.returns
returns g c channels d d1 now eligible best sold =
    let l = c.loop-index in
    let b = c.args.batch.now in
    let e : c.deref.result.now ≡ l.answers.items = search rules in
    let noted = l.invariant.noted channels d d1 now eligible best sold in
    let at : l.index ≡ length b = omega (arith, c.loop-index-test.false, c.len-index-end.ensures.count) in
    noted_all g.W.Market.dealt g.met.W.Market.dealt_more channels c.args.world.now l.world c.tell.new.world d d1 c.args.tag b c.args.choice.now.chosen.items best l.answers.items l.index noted at (l.invariant.len ∙ at) l.is_any_sold l.invariant.none c.tell.result
    (subst (λ (xs : List Answer). TellsOfAny g.W.Market.dealt l.world c.tell.new.world xs l.is_any_sold c.tell.result) e c.tell.ensures)
