use Rattle.std.proofs.Common.{◌≡◌, List, Bool, true, length, Ok, sym, ap, subst, ◌∙◌, rules}
use Rattle.std.proofs.lemmas.Result.{err_from_is_err_and}
use Rattle.bx_colour.specs.Colouring.{is_in}
use Rattle.bx_sales.specs.Left.{left_below, left_in_service}
use Rattle.bx_sales.specs.Selling.{marks_of}
use Rattle.bx_market.specs.Leaving.{IsBestKept}
use Rattle.bx_market.specs.LeavingSteps.{with_begun}
use Rattle.bx_market.specs.Stands.{Leaving}
use Rattle.bx_market.proofs.Batches.{or_more}
use Rattle.bx_market.proofs.KeptStays.{kept_then, best_then}
use Rattle.bx_market.proofs.Steps.{then_asked}
use Rattle.bx_market.proofs.leaving.leave_all.Goals as goal

pub returns-in_err-is_delayed-clause-left : goal.returns-in_err-is_delayed-clause-left
returns-in_err-is_delayed-clause-left g c shown =
    let p = err_from_is_err_and c.from_residual.result c.from_residual.ensures.1 in
    rw p.1 (c.in_err-is_delayed.ensures.delayed c.args.channels shown)

pub returns-then-not-is_delayed-clause-left : goal.returns-then-not-is_delayed-clause-left
returns-then-not-is_delayed-clause-left g c shown = c.in_ok-is_delayed.ensures.delayed c.args.channels shown

pub returns-in_default-clause-left : goal.returns-in_default-clause-left
returns-in_default-clause-left g c shown = c.in_ok-is_delayed.ensures.delayed c.args.channels shown

pub drop_all-requires-clause-count : goal.drop_all-requires-clause-count
drop_all-requires-clause-count g c = ap length c.deref.ensures.value ∙ c.in-Ok.ensures.count

pub drop_all-requires-clause-among : goal.drop_all-requires-clause-among
drop_all-requires-clause-among g c i h = c.in-Ok.ensures.among i (sym (ap (λ (ms : List Bool). is_in ms i) c.deref.ensures.value) ∙ h)

pub returns-in_err-is_dropped-clause-left : goal.returns-in_err-is_dropped-clause-left
returns-in_err-is_dropped-clause-left g c shown =
    let p = err_from_is_err_and c.from_residual-in_err-is_dropped.result c.from_residual-in_err-is_dropped.ensures.1 in
    let bad = c.in_err-is_dropped.ensures.dropped c.args.channels shown in
    rw p.1 (bad.0, then_asked g.met.W.Market.dealt_more (c.in_ok-is_delayed.ensures.delayed c.args.channels shown) bad.1)

pub returns-then-not-is_dropped-clause-left : goal.returns-then-not-is_dropped-clause-left
returns-then-not-is_dropped-clause-left g c shown = then_asked g.met.W.Market.dealt_more (c.in_ok-is_delayed.ensures.delayed c.args.channels shown) (c.in_ok-is_dropped.ensures.dropped c.args.channels shown)

pub returns-clause-left : goal.returns-clause-left
returns-clause-left g c shown =
    or_more c.args.channels g.met.W.Market.dealt_more c.args.world.now c.drop_all.new.world c.leave_one.new.world (Leaving shown c.args.exchange.now) (Leaving shown c.drop_all.new.exchange) (Leaving shown c.leave_one.new.exchange) c.leave_one.result
    (then_asked g.met.W.Market.dealt_more (c.in_ok-is_delayed.ensures.delayed c.args.channels shown) (c.in_ok-is_dropped.ensures.dropped c.args.channels shown)) (c.leave_one.ensures.left shown)

pub returns-clause-moment : goal.returns-clause-moment
returns-clause-moment g c = c.leave_one.ensures.moment ∙ c.drop_all.ensures.moment ∙ c.delay_all.ensures.moment

pub returns-clause-best : goal.returns-clause-best
returns-clause-best g c = λ e.
    let d1 = c.delay_all.new.exchange in
    let d2 = c.drop_all.new.exchange in
    let d3 = c.leave_one.new.exchange in
    let channels = c.args.channels in
    let kept = with_begun d1.moment d1.entries c.deref.result.now in
    let dropped : c.drop_all.result ≡ Ok true = search rules in
    let now = kept_then kept d1 d2 d3 (c.drop_all.ensures.done dropped) (c.leave_one.ensures.kept e) in
    let left : c.channels_left-left.result ≡ left_in_service channels d3 = c.channels_left-left.ensures ∙ sym (ap (λ (lost : List Bool). left_below 32 lost channels) now.maintenance) in
    best_then (left_in_service channels d3) (marks_of c.args.exchange.now) kept d1 d3 now
    (subst (λ (l : List Bool). IsBestKept l (marks_of c.args.exchange.now) d1 kept) left
    (subst (λ (before : List Bool). IsBestKept c.channels_left-left.result before d1 kept) c.delay_all.ensures.marks
    (subst (λ (ms : List Bool). IsBestKept c.channels_left-left.result (marks_of d1) d1 (with_begun d1.moment d1.entries ms)) (sym c.deref.ensures.value) c.in-Ok.ensures.best)))
