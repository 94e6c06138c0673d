use Rattle.std.proofs.Common.{◌≡◌, ◌+◌, ℕ, refl, ◌∙◌, ap, arith}
use Rattle.std.proofs.lemmas.List.{length_push}
use Rattle.bx_line.specs.Flows.{Flow}
use Rattle.bx_flow.proofs.First.{first_potentials}
use Rattle.bx_planner.proofs.Earned.{all_earned, more_earned}
use Rattle.bx_planner.proofs.earnings.earnings_of.Goals as goal

pub loop-count-init : goal.loop-count-init
loop-count-init c =
    record {
      size = rw c.new-earnings.ensures.items refl;
      each = λ k d h. absurd (omega (arith, h));
      flow = c.in_ok-carried.ensures.flow;
      units = λ some. ap (λ (flow : Flow). flow.units) c.in_ok-carried.ensures.value;
      fits = first_potentials c.args.shorter.now c.in_ok-carried.carried c.in_ok-potentials.potentials c.places-places.ensures.limits c.in_ok-carried.ensures.flow (rw c.in_ok-carried.ensures.value c.in_ok-potentials.ensures);
      musts = c.requires.musts;
    }

pub lifted-requires : goal.lifted-requires
lifted-requires c =
    let loop = c.loop-count.invariant in
    record { cliques = c.requires.cliques; shorter = c.args.shorter.now; limits = c.places-places.ensures.limits; shortened = c.requires.shortened; is_flow = loop.flow; fits = loop.fits }

pub lifted-requires-2 : goal.lifted-requires-2
lifted-requires-2 c =
    let loop = c.loop-count.invariant in
    record { cliques = c.requires.cliques; shorter = c.args.shorter.now; limits = c.places-places.ensures.limits; shortened = c.requires.shortened; is_flow = loop.flow; fits = loop.fits }

pub loop-count-preserved : goal.loop-count-preserved
loop-count-preserved c =
    let loop = c.loop-count.invariant in
    let earnings = c.loop-count.earnings.items in
    rw c.in_ok-push.ensures.items (record {
      size = length_push earnings c.in_ok-earning.earning ∙ ap (λ (n : ℕ). n + 1) loop.size;
      each = more_earned c.args.bookings.now earnings c.in_ok-earning.earning c.loop-count.count loop.size loop.each c.in_ok-earning.ensures.earned;
      flow = c.in_ok-potentials-2.ensures.flow;
      units = λ some. c.in_ok-potentials-2.ensures.units some ∙ ap (λ (n : ℕ). n + 1) (loop.units some);
      fits = c.in_ok-potentials-2.ensures.fits;
      musts = λ t. c.earning_of.ensures.same t ∙ loop.musts t;
    })

pub returns : goal.returns
returns c =
    let loop = c.loop-count.invariant in
    let whole : c.loop-count.count ≡ 30 = omega (arith, c.loop-count-test.false, c.loop-count.auto.count-end) in
    all_earned c.args.bookings.now c.loop-count.earnings.items c.in_ok-last.last c.push-2.new.self.items (omega (arith, loop.size, whole)) (λ k d h. loop.each k d (omega (arith, h, whole))) c.in_ok-last.ensures.earned c.in_ok-push-2.ensures.items
