use Rattle.std.proofs.Common.{◌≡◌, ◌∙◌, ap, List, ℕ, ◌+◌, arith, sym, subst}
use Rattle.bx_base.specs.Bookings.{Row, row_at}
use Rattle.bx_base.specs.PlanParts.{parts_of}
use Rattle.bx_base.specs.Plans.{is_accepted}
use Rattle.bx_planner.specs.Musts.{IsTooManyMust}
use Rattle.bx_planner.specs.Weighing.{IsSettledRow, rows_held, freed}
use Rattle.bx_planner.proofs.Crowding.{has_room, none_crowded}
use Rattle.bx_planner.proofs.Holding.{freed_held}
use Rattle.bx_planner.proofs.Settling.{is_free, settle_refused}
use Rattle.bx_planner.proofs.quoting.explained.Goals as goal

same_rows : (rows marked : List Row) (i : ℕ) → marked ≡ rows_held rows i → freed (rows_held rows i) i ≡ rows → freed marked i ≡ rows
same_rows rows marked i e h = ap (λ (list : List Row). freed list i) e ∙ h

pub weighed-requires-clause-settled : goal.weighed-requires-clause-settled
weighed-requires-clause-settled c =
    let plan = parts_of c.args.plan.now in
    let free = is_free plan c.args.index c.requires.proved c.requires.inside c.requires.refused in
    let same = same_rows plan.rows c.in_ok-rows.rows c.args.index c.in_ok-rows.ensures (freed_held plan.rows c.args.index c.requires.inside free) in
    subst (λ (rows : List Row). IsSettledRow plan rows c.args.index) (sym same) (settle_refused plan c.args.index c.requires.proved c.requires.inside c.requires.refused)

pub weighed-requires-clause-marked : goal.weighed-requires-clause-marked
weighed-requires-clause-marked c =
    let plan = parts_of c.args.plan.now in
    let free = is_free plan c.args.index c.requires.proved c.requires.inside c.requires.refused in
    let same = same_rows plan.rows c.in_ok-rows.rows c.args.index c.in_ok-rows.ensures (freed_held plan.rows c.args.index c.requires.inside free) in
    c.in_ok-rows.ensures ∙ ap (λ (rows : List Row). rows_held rows c.args.index) (sym same)

pub weighed-requires-clause-room : goal.weighed-requires-clause-room
weighed-requires-clause-room c =
    let plan = parts_of c.args.plan.now in
    let settled = settle_refused plan c.args.index c.requires.proved c.requires.inside c.requires.refused in
    let room = λ (s : ℕ). has_room plan.rows plan.channels (row_at plan.rows c.args.index) c.requires.room (s + 1) s (omega arith) in
    λ t too. none_crowded plan.rows c.args.index c.requires.inside settled.free plan.channels (is_accepted plan.assigned) settled.lawful room t (subst (λ (rows : List Row). IsTooManyMust rows plan.channels t) c.in_ok-rows.ensures too)

pub returns : goal.returns
returns c =
    let plan = parts_of c.args.plan.now in
    let free = is_free plan c.args.index c.requires.proved c.requires.inside c.requires.refused in
    let same = same_rows plan.rows c.in_ok-rows.rows c.args.index c.in_ok-rows.ensures (freed_held plan.rows c.args.index c.requires.inside free) in
    rw same at c.weighed.ensures
