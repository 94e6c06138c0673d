use Rattle.std.proofs.Common.{◌≡◌, ◌∙◌, ◌++◌, ◌∷◌, [], ap, List, ℕ, ◌+◌, arith, rules, length, sym, subst, true, false}
use Rattle.bx_base.specs.Bookings.{Row, is_running}
use Rattle.bx_base.specs.PlanParts.{parts_of}
use Rattle.bx_base.specs.Plans.{is_accepted}
use Rattle.bx_planner.specs.Musts.{IsTooManyMust}
use Rattle.bx_planner.specs.Quotes.{with_asked}
use Rattle.bx_planner.specs.Weighing.{IsSettledRow, rows_held, freed}
use Rattle.bx_planner.proofs.Crowding.{has_room, none_crowded}
use Rattle.bx_planner.proofs.Settling.{settle_asked, row_last, musts_asked, held_asked, freed_asked}
use Rattle.bx_planner.proofs.quoting.quoted.Goals as goal

put_after : (rows copy after : List Row) (must booking : Row) → copy ≡ rows → after ≡ copy ++ must ∷ [] → must ≡ record booking { must = true } → after ≡ rows ++ record booking { must = true } ∷ []
put_after rows copy after must booking e p m = p ∙ (ap (λ (list : List Row). list ++ must ∷ []) e ∙ ap (λ (r : Row). rows ++ r ∷ []) m)

same_asked : (rows after : List Row) (booking : Row) (n : ℕ) → after ≡ rows ++ record booking { must = true } ∷ [] → n ≡ length rows → freed after n ≡ with_asked rows booking
same_asked rows after booking n e s =
    ap (λ (list : List Row). freed list n) e ∙ (ap (λ (k : ℕ). freed (rows ++ record booking { must = true } ∷ []) k) s ∙ freed_asked rows booking)

pub weighed-requires-clause-settled : goal.weighed-requires-clause-settled
weighed-requires-clause-settled c =
    let plan = parts_of c.args.plan.now in
    let booking = c.args.booking.now in
    let all = put_after plan.rows c.in_ok-rows.rows c.push.new.self c.as_must.result booking c.in_ok-rows.ensures c.in-Ok.ensures.ok c.as_must.ensures in
    let same = same_asked plan.rows c.push.new.self booking c.len.result all c.len.ensures.count in
    let settled = settle_asked plan booking c.requires.proved (search rules steps 1000000) in
    subst (λ (k : ℕ). IsSettledRow plan (freed c.push.new.self c.len.result) k) (sym c.len.ensures.count) (subst (λ (rows : List Row). IsSettledRow plan rows (length plan.rows)) (sym same) settled)

pub weighed-requires-clause-marked : goal.weighed-requires-clause-marked
weighed-requires-clause-marked c =
    let plan = parts_of c.args.plan.now in
    let booking = c.args.booking.now in
    let all = put_after plan.rows c.in_ok-rows.rows c.push.new.self c.as_must.result booking c.in_ok-rows.ensures c.in-Ok.ensures.ok c.as_must.ensures in
    let same = same_asked plan.rows c.push.new.self booking c.len.result all c.len.ensures.count in
    all ∙ (sym (held_asked plan.rows booking) ∙ (ap (λ (k : ℕ). rows_held (with_asked plan.rows booking) k) (sym c.len.ensures.count) ∙ ap (λ (rows : List Row). rows_held rows c.len.result) (sym same)))

pub weighed-requires-clause-room : goal.weighed-requires-clause-room
weighed-requires-clause-room c =
    let plan = parts_of c.args.plan.now in
    let booking = c.args.booking.now in
    let all = put_after plan.rows c.in_ok-rows.rows c.push.new.self c.as_must.result booking c.in_ok-rows.ensures c.in-Ok.ensures.ok c.as_must.ensures in
    let settled = settle_asked plan booking c.requires.proved (search rules steps 1000000) in
    let last = row_last plan.rows (record booking { must = false }) in
    λ t too. none_crowded (with_asked plan.rows booking) (length plan.rows) settled.inside settled.free plan.channels (is_accepted plan.assigned) settled.lawful (λ s r. (
    let few = has_room plan.rows plan.channels booking c.requires.room (s + 1) s (omega arith) (ap (λ (row : Row). is_running row s) (sym last) ∙ r) in
    omega (arith, few, musts_asked plan.rows booking s))) t (subst (λ (rows : List Row). IsTooManyMust rows plan.channels t) (all ∙ sym (held_asked plan.rows booking)) too)

pub returns : goal.returns
returns c =
    let plan = parts_of c.args.plan.now in
    let booking = c.args.booking.now in
    let all = put_after plan.rows c.in_ok-rows.rows c.push.new.self c.as_must.result booking c.in_ok-rows.ensures c.in-Ok.ensures.ok c.as_must.ensures in
    let same = same_asked plan.rows c.push.new.self booking c.len.result all c.len.ensures.count in
    rw (same, c.len.ensures.count) at c.weighed.ensures
