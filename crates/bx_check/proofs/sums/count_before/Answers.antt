use Rattle.std.proofs.Common.{◌≡◌, ◌≤◌, ◌<◌, ◌+◌, ◌-◌, ◌/◌, sym, ◌∙◌, ap, arith}
use Rattle.std.proofs.lemmas.List.{get_or_default}
use Rattle.bx_base.specs.Bound.{Charge, price_at, no_charge}
use Rattle.bx_check.proofs.Before.{before_middle, after_middle}
use Rattle.bx_check.proofs.sums.count_before.Goals as goal

pub loop-low-preserved-then-price-moment : goal.loop-low-preserved-then-price-moment
loop-low-preserved-then-price-moment c =
    let prices = c.args.prices.now in
    let m = c.loop-low.low + (c.loop-low.high - c.loop-low.low) / 2 in
    let at : price_at prices m ≡ c.index-prices-middle.result = get_or_default prices m no_charge c.index-prices-middle.result (omega arith) ∙ sym c.index-prices-middle.is in
    let here : (price_at prices m).moment < c.args.moment = (let e = ap (λ (p : Charge). p.moment) at in let v = ap (λ (p : Charge). p.moment) c.price.view_is in omega (arith, e, v, c.if-price-moment.true)) in
    record {
      order = omega arith;
      limit = c.loop-low.invariant.limit;
      before = before_middle prices c.requires m c.args.moment (omega arith) here;
      following = c.loop-low.invariant.following;
    }

pub loop-low-preserved : goal.loop-low-preserved
loop-low-preserved c =
    let prices = c.args.prices.now in
    let m = c.loop-low.low + (c.loop-low.high - c.loop-low.low) / 2 in
    let at : price_at prices m ≡ c.index-prices-middle.result = get_or_default prices m no_charge c.index-prices-middle.result (omega arith) ∙ sym c.index-prices-middle.is in
    let here : c.args.moment ≤ (price_at prices m).moment = (let e = ap (λ (p : Charge). p.moment) at in let v = ap (λ (p : Charge). p.moment) c.price.view_is in omega (arith, e, v, c.if-price-moment.false)) in
    record {
      order = omega arith;
      limit = omega arith;
      before = c.loop-low.invariant.before;
      following = after_middle prices c.requires m c.args.moment here;
    }
