use Rattle.std.proofs.Common.{sym, subst, ◌++◌}
use Rattle.bx_day.specs.Day.{Day, opening}
use Rattle.bx_day.specs.Law.{IsOrderly, SentFits}
use Rattle.bx_day.specs.Outages.{live_happens, lost_since}
use Rattle.bx_live.specs.Acts.{logged_by}
use Rattle.bx_planfile.specs.OneBooking.{row_on}
use Rattle.bx_sales.specs.Journal.{rows_after}
use Rattle.bx_market.specs.Deals.{acts_of}
use Rattle.bx_market.proofs.PlanDays.{plan_at}
use Rattle.bx_market.proofs.laws.one_per_channel.Goals as goal

pub returns : goal.returns
returns c channels rows marks earlier d deals to p run =
    let plan = plan_at channels rows marks earlier d deals to p run in
    let events = earlier ++ logged_by (acts_of deals) in
    let last = rows_after row_on (logged_by (acts_of deals)) rows in
    record {
      plan = plan;
      orderly = subst (λ (x : Day). IsOrderly last plan.last (λ m. lost_since m events (opening last plan.last)) x) (sym plan.day) (c.one_per_channel.ensures.state last channels plan.last events plan.bookings plan.carried);
      sent = λ event. subst (λ (x : Day). SentFits last plan.last (live_happens x event)) (sym plan.day) (c.one_per_channel.ensures.sent last channels plan.last events event plan.bookings plan.carried);
    }
