use Rattle.std.proofs.Common.{◌≡◌, ◌+◌, ℕ, refl, sym, ap, subst, ◌∙◌, rules}
use Rattle.std.proofs.lemmas.Result.{err_from_is_err_and}
use Rattle.bx_base.specs.Bookings.{Row}
use Rattle.bx_events.specs.declared.amendment.Amendment.TheVariants.{Delayed}
use Rattle.bx_planfile.specs.OneBooking.{booking_text, row_on, row_or_none}
use Rattle.bx_sales.specs.Amending.{row_named, behind_row}
use Rattle.bx_sales.specs.Leaving.{IsDelayed}
use Rattle.bx_market.proofs.LeavingSteps.{well_is, bad_is, back_again, step_logged, step_over, no_step}
use Rattle.bx_market.proofs.StillThere.{delayed_same, delayed_later, delayed_ahead}
use Rattle.bx_market.proofs.leaving.delay_one.Goals as goal

pub returns-then-not-is_to_leave-clause-delayed : goal.returns-then-not-is_to_leave-clause-delayed
returns-then-not-is_to_leave-clause-delayed g c channels shown = no_step channels g.met.W.Market.dealt_by shown c.args.exchange.now c.args.exchange.now g.met.W.World.did_nothing c.args.world.now refl

pub returns-then-is_err-clause-delayed : goal.returns-then-is_err-clause-delayed
returns-then-is_err-clause-delayed g c channels shown =
    no_step channels g.met.W.Market.dealt_by shown c.args.exchange.now c.delay.new.exchange g.met.W.World.did_nothing c.args.world.now (bad_is c.delay.result (sym c.is_err.ensures.value ∙ c.if-is_err.true) c.delay.ensures.kept)

pub returns-in_err-log-clause-delayed : goal.returns-in_err-log-clause-delayed
returns-in_err-log-clause-delayed g c channels shown =
    let p = err_from_is_err_and c.from_residual.result c.from_residual.ensures.1 in
    rw p.1 (c.args.exchange.now, step_over channels g.met.W.Market.dealt_by shown c.args.exchange.now c.delay.new.exchange Delayed c.deref-2.result.now c.in_err-log.ensures)

pub returns-in_err-log-clause-others : goal.returns-in_err-log-clause-others
returns-in_err-log-clause-others g c =
    delayed_same c.args.place (c.args.place + 1) (back_again c.args.place) c.next_start-next.result c.args.exchange.now c.delay.new.exchange
    (well_is c.delay.result (sym c.is_err.ensures.value ∙ c.if-is_err.false) c.delay.ensures.delayed)

pub returns-in_err-log-clause-later : goal.returns-in_err-log-clause-later
returns-in_err-log-clause-later g c =
    delayed_later c.args.place (c.args.place + 1) (back_again c.args.place) c.next_start-next.result c.args.exchange.now c.delay.new.exchange
    (well_is c.delay.result (sym c.is_err.ensures.value ∙ c.if-is_err.false) c.delay.ensures.delayed)

pub returns-clause-others : goal.returns-clause-others
returns-clause-others g c =
    delayed_same c.args.place (c.args.place + 1) (back_again c.args.place) c.next_start-next.result c.args.exchange.now c.delay.new.exchange
    (well_is c.delay.result (sym c.is_err.ensures.value ∙ c.if-is_err.false) c.delay.ensures.delayed)

pub returns-clause-later : goal.returns-clause-later
returns-clause-later g c =
    delayed_later c.args.place (c.args.place + 1) (back_again c.args.place) c.next_start-next.result c.args.exchange.now c.delay.new.exchange
    (well_is c.delay.result (sym c.is_err.ensures.value ∙ c.if-is_err.false) c.delay.ensures.delayed)

pub returns-clause-done : goal.returns-clause-done
returns-clause-done g c = λ e behind.
    delayed_ahead c.args.place (c.args.place + 1) (back_again c.args.place) c.next_start-next.result c.args.exchange.now c.delay.new.exchange
    (well_is c.delay.result (sym c.is_err.ensures.value ∙ c.if-is_err.false) c.delay.ensures.delayed) c.args.channels behind

pub returns-clause-delayed : goal.returns-clause-delayed
returns-clause-delayed g c channels shown =
    let d = c.args.exchange.now in
    let new = c.delay.new.exchange in
    let next = c.next_start-next.result in
    let is = well_is c.delay.result (sym c.is_err.ensures.value ∙ c.if-is_err.false) c.delay.ensures.delayed in
    let told : c.deref.result.now ≡ booking_text next = search rules in
    let line : c.deref-2.result.now ≡ c.change_line-line.result.items = search rules in
    let row : row_named c.deref-2.result.now ≡ c.args.place + 1 = ap row_named line ∙ c.change_line-line.ensures.row in
    let booking : row_on (behind_row c.deref-2.result.now) ≡ next = ap row_on (ap behind_row line ∙ c.change_line-line.ensures.booking ∙ told) ∙ ap row_or_none c.spell_booking.ensures.again in
    step_logged channels g.met.W.Market.dealt_by shown d new Delayed c.deref-2.result.now c.in_ok-log.ensures
    (subst (λ (n : ℕ). IsDelayed n (row_on (behind_row c.deref-2.result.now)) d new) (sym row) (subst (λ (b : Row). IsDelayed (c.args.place + 1) b d new) (sym booking) is)) tt
