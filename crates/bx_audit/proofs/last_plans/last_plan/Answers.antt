use Rattle.std.proofs.Common.{◌≡◌, ◌∙◌, ℕ, List, Option, not, map, ap, sym, subst}
use Rattle.bx_base.specs.Bookings.{Row, pay_of}
use Rattle.bx_base.specs.Bound.{Charge}
use Rattle.bx_base.specs.Plans.{is_accepted}
use Rattle.bx_day.specs.Invariant.{is_refused}
use Rattle.bx_day.specs.declared.entry.Entry.{Entry}
use Rattle.bx_audit.specs.DayChannels.{channel_on, channels_on}
use Rattle.bx_audit.specs.HeldRows.{row_held}
use Rattle.bx_audit.specs.PlansOfDays.{rows_held_on, ArePrices}
use Rattle.bx_audit.proofs.last_plans.last_plan.Goals as goal

pub returns-in-Some : goal.returns-in-Some
returns-in-Some c =
    let d = c.args.exchange.now in
    let rows = c.in_ok-rows.rows in
    let assigned = c.in_ok-assigned.assigned.items in
    let parts = c.in-Some.ensures.parts in
    let rows_are : rows ≡ rows_held_on d = c.in_ok-rows.ensures ∙ ap (λ (es : List Entry). map (λ (e : Entry). row_held e.booking (not (is_refused e.standing))) es) c.entries.ensures in
    let assigned_are : assigned ≡ channels_on d = c.in_ok-assigned.ensures ∙ ap (λ (es : List Entry). map channel_on es) c.entries-2.ensures in
    let same : c.in-Some.plan.assigned.items ≡ assigned = ap (λ v. v.items) parts.2 in
    record {
      rows_are = parts.0 ∙ rows_are;
      in_service = parts.1;
      assigned_are = same ∙ assigned_are;
      paid = parts.4 ∙ (c.total_pay-total.ensures ∙ (ap (λ (rs : List Row). pay_of rs (is_accepted c.deref.result.now)) rows_are ∙ ap (λ (a : List (Option ℕ)). pay_of (rows_held_on d) (is_accepted a)) (c.deref.ensures.value ∙ sym same)));
      priced = subst (λ (ps : List Charge). ArePrices (rows_held_on d) c.args.channels ps) (sym (ap (λ v. v.items) parts.3))
          (subst (λ (rs : List Row). ArePrices rs c.args.channels c.in_ok-prices.prices.items) rows_are c.in_ok-prices.ensures);
    }
