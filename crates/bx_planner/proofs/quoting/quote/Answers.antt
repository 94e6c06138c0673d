use Rattle.std.proofs.Common.{◌≡◌, ◌∙◌, ℕ, Some, ap, arith, rules, length, refl, false}
use Rattle.bx_base.specs.PlanParts.{parts_of}
use Rattle.bx_base.specs.Plans.{is_accepted}
use Rattle.bx_check.proofs.Sound.{sound-lawful_itself}
use Rattle.bx_planner.proofs.FewMusts.{few_musts}
use Rattle.bx_planner.proofs.Crowding.{never_taken}
use Rattle.bx_planner.proofs.Settling.{settle_asked, row_last, musts_asked}
use Rattle.bx_planner.specs.Quotes.{with_asked}
use Rattle.bx_base.specs.Bookings.{Row, is_running}
use Rattle.bx_planner.proofs.quoting.quote.Goals as goal

pub no_channel-requires : goal.no_channel-requires
no_channel-requires c =
    let plan = parts_of c.args.plan.now in
    few_musts plan.rows plan.channels (is_accepted plan.assigned) (sound-lawful_itself plan.rows plan.channels plan c.requires.proved.0)

pub returns-in-Some-clause-no_channel : goal.returns-in-Some-clause-no_channel
returns-in-Some-clause-no_channel c = λ t. (
  λ e. let same : c.in-Some.moment ≡ t = cc in (omega arith, (c.in-Some.ensures t).0 (ap (λ (x : ℕ). Some x) same)),
  λ h. let found = (c.in-Some.ensures t).1 h.1 in let same : c.in-Some.moment ≡ t = cc in rw same refl,
)

pub returns-in-Some-clause-fail : goal.returns-in-Some-clause-fail
returns-in-Some-clause-fail c =
    let plan = parts_of c.args.plan.now in
    let booking = c.args.booking.now in
    let found = (c.in-Some.ensures c.in-Some.moment).0 refl in
    let settled = settle_asked plan booking c.requires.proved (search rules steps 1000000) in
    let last = row_last plan.rows (record booking { must = false }) in
    let full = found.full in (
      found,
      never_taken (with_asked plan.rows booking) (length plan.rows) settled.inside settled.free plan.channels c.in-Some.moment (ap (λ (row : Row). is_running row c.in-Some.moment) last ∙ found.running) (omega (arith, full, musts_asked plan.rows booking c.in-Some.moment)),
    )
