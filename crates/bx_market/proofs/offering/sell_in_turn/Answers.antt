use Rattle.std.proofs.Common.{◌≡◌, ◌<◌, ◌++◌, ◌∷◌, [], List, Bool, true, length, false, Ok, sym, ap, ◌∙◌, subst, arith, rules}
use Rattle.std.proofs.lemmas.Result.{err_from_is_err_and}
use Rattle.bx_colour.specs.Colouring.{is_in}
use Rattle.bx_live.specs.Runs.{Between}
use Rattle.bx_market.specs.declared.market.Answer.{Answer}
use Rattle.bx_market.specs.Answers.{AreTold}
use Rattle.bx_market.specs.Deals.{sold_of}
use Rattle.bx_market.specs.Offers.{OrOver, IsOfferSettled}
use Rattle.bx_sales.specs.Left.{left_below, left_in_service}
use Rattle.bx_market.specs.Stands.{Within, Filing}
use Rattle.bx_market.proofs.Eligible.{eligible_count}
use Rattle.bx_market.proofs.Steps.{none_asked, then_asked, at_stand}
use Rattle.bx_market.proofs.Batches.{sold_none, none_more, offered_more, or_more}
use Rattle.bx_market.proofs.Settled.{AreSettled, none_settled, step, all_told}
use Rattle.bx_market.proofs.offering.sell_in_turn.Goals as goal

pub loop-index-init : goal.loop-index-init
loop-index-init g c =
    let d = c.args.exchange.now in
    let tag = c.args.tag in
    let b = c.args.batch.now in
    let e : c.new-answers.result.items ≡ [] = search rules in
    let none : sold_of b c.new-answers.result.items ≡ [] = ap (sold_of b) e ∙ sold_none b in
    record {
      len = ap length e;
      run = at_stand (Filing d d tag b []) (Filing d d tag b (sold_of b c.new-answers.result.items)) (ap (Filing d d tag b) (sym none)) (none_asked c.args.channels g.met.W.Market.dealt_by g.met.W.World.did_nothing c.args.world.now (Filing d d tag b []));
      none = λ x. none;
      settled = none_settled (left_in_service c.args.channels d) d b c.args.choice.now.chosen.items c.new-answers.result.items e;
    }

pub is_eligible-requires : goal.is_eligible-requires
is_eligible-requires g c =
    let d = c.args.exchange.now in
    let tag = c.args.tag in
    let n = ap length c.requires.eligible ∙ eligible_count d.moment (length d.entries) c.args.batch.now in
    omega (arith, n, c.loop-index-test.true, c.len-index-end.ensures.count)

pub returns-in_err-answered-clause-sold : goal.returns-in_err-answered-clause-sold
returns-in_err-answered-clause-sold g c =
    let p = err_from_is_err_and c.from_residual.result c.from_residual.ensures.1 in
    let b = c.args.batch.now in
    let tag = c.args.tag in
    let bad = c.in_err-answered.ensures.offered c.args.exchange.now b (sold_of b c.loop-index.answers.items) in
    rw p.1 (bad.0, then_asked g.met.W.Market.dealt_more c.loop-index.invariant.run bad.1)

pub loop-index-preserved : goal.loop-index-preserved
loop-index-preserved g c =
    let l = c.loop-index in
    let d = c.args.exchange.now in
    let tag = c.args.tag in
    let b = c.args.batch.now in
    let d2 = c.settle.new.exchange in
    let items = l.answers.items in
    let chosen = c.args.choice.now.chosen.items in
    let a = c.in_ok-answered.answered in
    let lt : l.index < length b = omega (arith, c.loop-index-test.true, c.len-index-end.ensures.count) in
    let offered = c.in_ok-answered.ensures.offered d b (sold_of b items) in
    let run = offered_more c.args.channels tag l.world c.settle.new.world d l.exchange d2 b items a l.index c.nth.result offered c.nth.ensures.value l.invariant.len lt in
    let same : left_in_service c.args.channels l.exchange ≡ left_in_service c.args.channels d = ap (λ (lost : List Bool). left_below 32 lost c.args.channels) l.invariant.settled.maintenance in
    let settled_so : c.is_chosen.result ≡ true → IsOfferSettled (left_in_service c.args.channels d) c.nth.result l.exchange d2 (Ok a) =
    λ h. subst (λ (left : List Bool). IsOfferSettled left c.nth.result l.exchange d2 (Ok a)) same (c.in_ok-answered.ensures.chosen h) in
    let next = step (left_in_service c.args.channels d) d b chosen c.requires.best.best l.exchange items l.invariant.settled l.index l.invariant.len lt c.len-index-end.ensures.bookings g.W.Market.dealt c.args.channels tag l.world c.settle.new.world d2 a c.nth.result c.is_eligible.result c.is_chosen.result c.nth.ensures.value (c.is_eligible.ensures ∙ ap (λ (ms : List Bool). is_in ms l.index) c.requires.eligible) c.is_chosen.ensures
    c.in_ok-answered.ensures.moment offered settled_so c.in_ok-answered.ensures.left_out in
    record {
      len = omega (arith, c.push.ensures.len, l.invariant.len);
      run = at_stand (Filing d d2 tag b (sold_of b (items ++ a ∷ []))) (Filing d d2 tag b (sold_of b c.push.new.self.items)) (ap (λ (xs : List Answer). Filing d d2 tag b (sold_of b xs)) (sym c.push.ensures.items))
          (then_asked g.met.W.Market.dealt_more l.invariant.run run);
      none = λ e. let h = c.is_sold_now-is_any_sold.ensures e in ap (sold_of b) c.push.ensures.items ∙ none_more b items a h.1 (l.invariant.none h.0);
      settled = subst (AreSettled (left_in_service c.args.channels d) d b chosen d2) (sym c.push.ensures.items) next;
    }

pub returns-clause-sold : goal.returns-clause-sold
returns-clause-sold g c =
    let l = c.loop-index in
    let d = c.args.exchange.now in
    let tag = c.args.tag in
    let b = c.args.batch.now in
    let e : c.deref.result.now ≡ l.answers.items = search rules in
    let told = subst (λ (xs : List Answer). AreTold (left_in_service c.args.channels d) d b xs → (l.is_any_sold ≡ false → sold_of b xs ≡ []) → OrOver g.W.Market.dealt c.args.channels l.world c.tell.new.world (Filing d l.exchange tag b (sold_of b xs)) (Within (Between l.exchange)) c.tell.result) e (c.tell.ensures c.args.channels d l.exchange tag b) in
    let all = all_told (left_in_service c.args.channels d) d b c.args.choice.now.chosen.items c.requires.best.best l.exchange l.answers.items l.invariant.settled (omega (arith, l.invariant.len, c.loop-index-test.false, c.len-index-end.ensures.count)) in
    or_more c.args.channels g.met.W.Market.dealt_more c.args.world.now l.world c.tell.new.world (Filing d d tag b []) (Filing d l.exchange tag b (sold_of b l.answers.items)) (Within (Between l.exchange)) c.tell.result l.invariant.run (told all l.invariant.none)
