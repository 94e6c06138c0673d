use Rattle.std.proofs.Common.{◌≡◌, ℕ, ◌-◌, ◌<◌, length, arith, false, Some, ap, rules, subst, sym, refl}
use Rattle.bx_base.specs.Bookings.{Row}
use Rattle.bx_planner.specs.Rooms.{IsNoChannel}
use Rattle.bx_base.specs.PlanParts.{parts_of}
use Rattle.bx_base.specs.Plans.{is_accepted}
use Rattle.bx_check.proofs.Sound.{sound-lawful_itself}
use Rattle.bx_planner.proofs.FewMusts.{few_musts}
use Rattle.bx_planner.proofs.Crowding.{never_taken}
use Rattle.bx_planner.proofs.Settling.{is_free}
use Rattle.bx_planner.proofs.quoting.explain.Goals as goal

pub no_channel-requires : goal.no_channel-requires
no_channel-requires c =
    let plan = parts_of c.args.plan.now in
    few_musts plan.rows plan.channels (is_accepted plan.assigned) (sound-lawful_itself plan.rows plan.channels plan c.requires.proved.0)

pub returns-in-Some-no_channel-clause-no_channel : goal.returns-in-Some-no_channel-clause-no_channel
returns-in-Some-no_channel-clause-no_channel c =
    let plan = c.args.plan.now in
    let here = c.in-Some.ensures.value in
    λ t. (
      λ e. let same : c.in-Some-no_channel.moment ≡ t = cc in (
        record { row_of = c.in-Some.ensures.exactly.0 (search rules steps 1000000); left_out = search rules steps 1000000 },
        subst (λ (row : Row). IsNoChannel plan.bookings plan.channels row t) here ((c.in-Some-no_channel.ensures t).0 (ap (λ (x : ℕ). Some x) same)),
      ),
      λ h. let found = (c.in-Some-no_channel.ensures t).1 (subst (λ (row : Row). IsNoChannel plan.bookings plan.channels row t) (sym here) h.1) in let same : c.in-Some-no_channel.moment ≡ t = cc in rw same refl,
    )

pub returns-in-Some-no_channel-clause-fail : goal.returns-in-Some-no_channel-clause-fail
returns-in-Some-no_channel-clause-fail c =
    let plan = parts_of c.args.plan.now in
    let moment = c.in-Some-no_channel.moment in
    let i = c.args.row - 1 in
    let row_of = c.in-Some.ensures.exactly.0 (search rules steps 1000000) in
    let out : is_accepted plan.assigned i ≡ false = search rules steps 1000000 in
    let inside : i < length plan.rows = omega (arith, row_of.0, row_of.1) in
    let found = subst (λ (row : Row). IsNoChannel plan.rows plan.channels row moment) c.in-Some.ensures.value ((c.in-Some-no_channel.ensures moment).0 refl) in (
      record { row_of = row_of; left_out = out },
      found,
      never_taken plan.rows i inside (is_free plan i c.requires.proved inside out) plan.channels moment found.running found.full,
    )

pub returns-in_default-clause-no_row : goal.returns-in_default-clause-no_row
returns-in_default-clause-no_row c = search rules steps 60000
