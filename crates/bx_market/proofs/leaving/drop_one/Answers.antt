use Rattle.std.proofs.Common.{◌≡◌, ◌+◌, ◌&&◌, not, ℕ, Bool, true, refl, sym, ap, ap₂, subst, ◌∙◌, rules}
use Rattle.std.proofs.lemmas.Bool.{and_parts}
use Rattle.std.proofs.lemmas.Result.{err_from_is_err_and}
use Rattle.bx_day.specs.Day.{entry_at, is_unoffered}
use Rattle.bx_events.specs.declared.amendment.Amendment.TheVariants.{Dropped}
use Rattle.bx_sales.specs.Amending.{row_numbered}
use Rattle.bx_sales.specs.Leaving.{IsDropped}
use Rattle.bx_market.specs.LeavingSteps.{is_ahead, IsGivenUpWhere}
use Rattle.bx_market.proofs.LeavingSteps.{well_is, bad_is, back_again, step_logged, step_over, no_step}
use Rattle.bx_market.proofs.StillThere.{dropped_same, dropped_here}
use Rattle.bx_market.proofs.leaving.drop_one.Goals as goal

pub returns-then-is_kept-clause-dropped : goal.returns-then-is_kept-clause-dropped
returns-then-is_kept-clause-dropped g c channels shown = no_step channels g.met.W.Market.dealt_by shown c.args.exchange.now c.args.exchange.now g.met.W.World.did_nothing c.args.world.now refl

pub returns-then-is_err-clause-dropped : goal.returns-then-is_err-clause-dropped
returns-then-is_err-clause-dropped g c channels shown =
    no_step channels g.met.W.Market.dealt_by shown c.args.exchange.now c.give_up.new.exchange g.met.W.World.did_nothing c.args.world.now (bad_is c.give_up.result (sym c.is_err.ensures.value ∙ c.if-is_err.true) c.give_up.ensures.kept)

pub returns-in_err-log-clause-dropped : goal.returns-in_err-log-clause-dropped
returns-in_err-log-clause-dropped g c channels shown =
    let p = err_from_is_err_and c.from_residual.result c.from_residual.ensures.1 in
    rw p.1 (c.args.exchange.now, step_over channels g.met.W.Market.dealt_by shown c.args.exchange.now c.give_up.new.exchange Dropped c.deref.result.now c.in_err-log.ensures)

pub returns-in_err-log-clause-others : goal.returns-in_err-log-clause-others
returns-in_err-log-clause-others g c =
    dropped_same c.args.place (c.args.place + 1) (back_again c.args.place) c.args.exchange.now c.give_up.new.exchange
    (well_is c.give_up.result (sym c.is_err.ensures.value ∙ c.if-is_err.false) c.give_up.ensures.dropped)

pub returns-clause-others : goal.returns-clause-others
returns-clause-others g c =
    dropped_same c.args.place (c.args.place + 1) (back_again c.args.place) c.args.exchange.now c.give_up.new.exchange
    (well_is c.give_up.result (sym c.is_err.ensures.value ∙ c.if-is_err.false) c.give_up.ensures.dropped)

pub returns-clause-done : goal.returns-clause-done
returns-clause-done g c = λ e.
    let d = c.args.exchange.now in
    let place = c.args.place in
    let ahead : is_ahead d.moment (entry_at d.entries place) ≡ true = search rules in
    let waits : is_unoffered (entry_at d.entries place).standing ≡ true = (and_parts (is_unoffered (entry_at d.entries place).standing) _ ahead).0 in
    subst (λ (w : Bool). IsGivenUpWhere w (entry_at d.entries place) (entry_at c.give_up.new.exchange.entries place)) (sym (ap₂ (λ (a : Bool) (k : Bool). a && not k) ahead c.if-is_kept.false))
    (dropped_here place (place + 1) (back_again place) d c.give_up.new.exchange (well_is c.give_up.result (sym c.is_err.ensures.value ∙ c.if-is_err.false) c.give_up.ensures.dropped) waits)

pub returns-clause-dropped : goal.returns-clause-dropped
returns-clause-dropped g c channels shown =
    let d = c.args.exchange.now in
    let new = c.give_up.new.exchange in
    let is = well_is c.give_up.result (sym c.is_err.ensures.value ∙ c.if-is_err.false) c.give_up.ensures.dropped in
    let line : c.deref.result.now ≡ c.cancel_line.result.items = search rules in
    let row : row_numbered c.deref.result.now ≡ c.args.place + 1 = ap row_numbered line ∙ c.cancel_line.ensures.again in
    step_logged channels g.met.W.Market.dealt_by shown d new Dropped c.deref.result.now c.in_ok-log.ensures (subst (λ (n : ℕ). IsDropped n d new) (sym row) is) tt
