use Rattle.std.proofs.Common.{List, length, replicate, sym, ap, subst, refl, ◌∙◌}
use Rattle.std.specs.List.{AllByRecursion}
use Rattle.bx_events.specs.Events.{WithoutLink}
use Rattle.bx_day.specs.Day.{Day}
use Rattle.bx_day.specs.Outages.{live_day_after}
use Rattle.bx_day.specs.Outlasting.{AreEarliest}
use Rattle.bx_day.specs.Passing.{day_of}
use Rattle.bx_day.specs.Reading.{Seated}
use Rattle.bx_day.specs.declared.entry.Entry.{Entry}
use Rattle.bx_day.proofs.Outlasting.{skipped}
use Rattle.bx_day.proofs.WaitingAnew.{skip_day, skip_index, outlasted_exchange}
use Rattle.bx_day.proofs.exchange.Exchange.skip_without_link.Goals as goal

pub first_waiting-self-inside-requires-clause-seated : goal.first_waiting-self-inside-requires-clause-seated
first_waiting-self-inside-requires-clause-seated c =
    let x = c.self.inside in
    let d = day_of x.moment x.unlinked x.entries.items x.maintenance in
    let h = c.self.invariant.exchange in
    let at = c.moment-before.ensures.value ∙ ap (λ (d : Day). d.moment) (sym c.self.view_is) in
    let is = skip_day c.args.rules c.args.seconds c.min-seconds.result c.moment-before.result x.entries.len _ d c.deref_mut.result.now c.outlast.new.entries refl at c.min-seconds.ensures h c.deref_mut.ensures.value x.entries.ok.0 c.outlast.ensures in
    subst (AllByRecursion Seated) (sym (c.deref.ensures.value ∙ ap (λ (d : Day). d.entries) is)) (outlasted_exchange c.args.rules c.args.seconds d h).seated

pub invariant_of-self : goal.invariant_of-self
invariant_of-self c =
    let x = c.self.inside in
    let d = day_of x.moment x.unlinked x.entries.items x.maintenance in
    let h = c.self.invariant.exchange in
    let at = c.moment-before.ensures.value ∙ ap (λ (d : Day). d.moment) (sym c.self.view_is) in
    let is = skip_day c.args.rules c.args.seconds c.min-seconds.result c.moment-before.result x.entries.len c.unlinked_for-self-inside.result d c.deref_mut.result.now c.outlast.new.entries c.unlinked_for-self-inside.ensures at c.min-seconds.ensures h c.deref_mut.ensures.value x.entries.ok.0 c.outlast.ensures in
    skip_index c.args.rules c.args.seconds d _ x.live x.waiting x.following.items c.first_waiting-self-inside.result h is c.self.invariant.slots
    (subst (λ (es : List Entry). AreEarliest es (length es) c.first_waiting-self-inside.result) c.deref.ensures.value c.first_waiting-self-inside.ensures)

pub returns : goal.returns
returns c =
    let x = c.self.inside in
    let d = day_of x.moment x.unlinked x.entries.items x.maintenance in
    let h = c.self.invariant.exchange in
    let at = c.moment-before.ensures.value ∙ ap (λ (d : Day). d.moment) (sym c.self.view_is) in
    skip_day c.args.rules c.args.seconds c.min-seconds.result c.moment-before.result x.entries.len c.unlinked_for-self-inside.result d c.deref_mut.result.now c.outlast.new.entries c.unlinked_for-self-inside.ensures at c.min-seconds.ensures h c.deref_mut.ensures.value x.entries.ok.0 c.outlast.ensures
    ∙ skipped c.args.rules c.args.seconds d h ∙ ap (live_day_after (replicate c.args.seconds (WithoutLink c.args.rules))) c.self.view_is
