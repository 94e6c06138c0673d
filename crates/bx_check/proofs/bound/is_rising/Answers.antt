use Rattle.std.proofs.lemmas.Grind.{common_steps}
use Rattle.std.proofs.Common.{◌≡◌, ◌<◌, ◌≤◌, ◌+◌, ◌-◌, ℕ, List, length, get_or, sym, ◌∙◌, ap, arith, refl}
use Rattle.std.proofs.lemmas.List.{get_or_default}
use Rattle.bx_base.specs.Bound.{Charge, price_at, no_charge}
use Rattle.bx_check.specs.Check.{IsRising}
use Rattle.bx_check.proofs.Rising.{rising_from_each, each_from_rising}
use Rattle.bx_check.proofs.bound.is_rising.Goals as goal

not_rising : (prices : List Charge) (i : ℕ) (earlier later : Charge) → 1 ≤ i → i < length prices → earlier ≡ get_or prices (i - 1) earlier → later ≡ get_or prices i later → later.moment ≤ earlier.moment → IsRising prices → ⊥
not_rising prices i earlier later a b p q le h =
    let first : price_at prices (i - 1) ≡ earlier = get_or_default prices (i - 1) no_charge earlier (omega arith) ∙ sym p in
    let second : price_at prices i ≡ later = get_or_default prices i no_charge later b ∙ sym q in
    let next : (i - 1) + 1 ≡ i = omega arith in
    let rise : (price_at prices (i - 1)).moment < (price_at prices i).moment = rw next at (each_from_rising prices h (i - 1) (omega arith)) in
    let m1 = ap (λ (c : Charge). c.moment) first in
    let m2 = ap (λ (c : Charge). c.moment) second in
    omega (arith, rise, m1, m2, le)

pub returns-then-later-earlier : goal.returns-then-later-earlier
returns-then-later-earlier c =
    let first = ap (λ (p : Charge). p.moment) c.earlier.view_is in
    let second = ap (λ (p : Charge). p.moment) c.later.view_is in
    (λ f. cc, λ h. absurd (not_rising c.args.prices.now c.loop-i.i c.index-prices-i.result c.index-prices-i-in-loop-i.result (omega arith) (omega arith) c.index-prices-i.is c.index-prices-i-in-loop-i.is (omega (arith, first, second, c.if-later-earlier.true)) h))

pub returns : goal.returns
returns c = (λ _. rising_from_each c.args.prices.now (λ k b. c.loop-i.invariant k (omega arith)), λ _. refl)

pub loop-i-preserved : goal.loop-i-preserved
loop-i-preserved c = grind (arith, common_steps) steps 2000000
