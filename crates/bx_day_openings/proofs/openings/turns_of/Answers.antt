use Rattle.std.proofs.Common.{◌≡◌, ℕ, ◌+◌, max, length, subst, sym, arith}
use Rattle.std.proofs.lemmas.Grind.{common_steps}
use Rattle.bx_base.specs.Bookings.{row_at}
use Rattle.bx_base.specs.Plans.{is_accepted}
use Rattle.bx_day_openings.specs.Openings.{IsLastOf}
use Rattle.bx_day_openings.proofs.LastTurns.{none_yet, next_row}
use Rattle.bx_day_openings.proofs.openings.turns_of.Goals as goal

pub loop-index-init : goal.loop-index-init
loop-index-init c = record { limit = omega arith; last = none_yet (is_accepted c.args.plan.now.assigned.items) (λ (i : ℕ). (row_at c.args.plan.now.bookings i).end) }

pub loop-index-preserved : goal.loop-index-preserved
loop-index-preserved c =
    let l = c.loop-index in
    let over = c.over_from.result in
    let greater : c.max-turns.result ≡ max l.turns over = grind (arith, common_steps, c.max-turns.ensures) in
    record {
      limit = omega (arith, greater, l.invariant.limit, c.over_from.ensures.limit);
      last = subst (λ (n : ℕ). IsLastOf c.args.plan.now.bookings c.args.plan.now.assigned.items (l.index + 1) n) (sym greater)
          (next_row (is_accepted c.args.plan.now.assigned.items) (λ (i : ℕ). (row_at c.args.plan.now.bookings i).end) l.index l.turns over l.invariant.last l.invariant.limit.0 c.over_from.ensures.over);
    }

pub returns : goal.returns
returns c =
    let all : c.loop-index.index ≡ length c.args.plan.now.bookings = omega (arith, c.loop-index-test.false, c.loop-index.auto.index-end, c.len-index-end.ensures.count) in
    subst (λ (n : ℕ). IsLastOf c.args.plan.now.bookings c.args.plan.now.assigned.items n c.loop-index.turns) all c.loop-index.invariant.last
