use Rattle.std.proofs.Common.{◌≡◌, ℕ, List, Bool, true, Option, None, Some, ap, ap₂, subst, sym, ◌∙◌, slice_index_or}
use Rattle.bx_base.specs.Bookings.{Row, Carries}
use Rattle.bx_base.specs.Channels.{has_channel}
use Rattle.bx_base.specs.Plans.{is_accepted, channel_at}
use Rattle.bx_day.specs.Changed.{changed}
use Rattle.bx_sales.proofs.Still.{carried_by}
use Rattle.bx_sales.proofs.leaving.go_on_still.Goals as goal

pub go_on-requires : goal.go_on-requires
go_on-requires c =
    let parts = c.in-Some.ensures.parts in
    let own = subst (λ (a : List (Option ℕ)). (i n : ℕ) → slice_index_or a i None ≡ Some n → has_channel c.with_own-service.result n ≡ true) c.deref.ensures.value c.with_own-service.ensures.own in
    let carried = carried_by c.args.bookings c.args.assigned.items c.with_own-service.result own c.requires.apart in
    subst (λ (a : List (Option ℕ)). Carries c.in-Some.plan.bookings c.in-Some.plan.channels (is_accepted a) (channel_at a)) (sym (ap (λ v. v.items) parts.2))
    (subst (λ (cs : List Bool). Carries c.in-Some.plan.bookings cs (is_accepted c.args.assigned.items) (channel_at c.args.assigned.items)) (sym parts.1)
    (subst (λ (rs : List Row). Carries rs c.with_own-service.result (is_accepted c.args.assigned.items) (channel_at c.args.assigned.items)) (sym parts.0) carried))

pub returns-in-Ok-clause-gone_on : goal.returns-in-Ok-clause-gone_on
returns-in-Ok-clause-gone_on c =
    let parts = c.in-Some.ensures.parts in
    let own = subst (λ (a : List (Option ℕ)). (i n : ℕ) → slice_index_or a i None ≡ Some n → has_channel c.with_own-service.result n ≡ true) c.deref.ensures.value c.with_own-service.ensures.own in
    record {
      service = c.with_own-service.result;
      change = record {
        bookings = c.len-rows.ensures.bookings;
        carried = carried_by c.args.bookings c.args.assigned.items c.with_own-service.result own c.requires.apart;
        agrees = c.requires.agrees;
      };
      day = c.in-Ok.ensures.ok ∙ ap₂ (λ rs a. changed rs a c.args.exchange.now) parts.0 (ap (λ v. v.items) parts.2);
    }
