use Rattle.std.proofs.Common.{◌≡◌, ℕ, refl, sym, ap, subst, ◌∙◌, rules}
use Rattle.std.proofs.lemmas.Result.{err_from_is_err_and}
use Rattle.bx_events.specs.declared.amendment.Amendment.TheVariants.{Out}
use Rattle.bx_sales.specs.Amending.{row_numbered}
use Rattle.bx_sales.specs.Leaving.{IsChannelLeft}
use Rattle.bx_market.proofs.KeptStays.{kept_left}
use Rattle.bx_market.proofs.LeavingSteps.{well_is, bad_is, step_logged, step_over, no_step}
use Rattle.bx_market.proofs.MovedAway.{behind_then}
use Rattle.bx_market.proofs.leaving.leave_one.Goals as goal

pub returns-in_default-clause-left : goal.returns-in_default-clause-left
returns-in_default-clause-left g c shown = no_step c.args.channels g.met.W.Market.dealt_by shown c.args.exchange.now c.args.exchange.now g.met.W.World.did_nothing c.args.world.now refl

pub returns-then-is_err-clause-left : goal.returns-then-is_err-clause-left
returns-then-is_err-clause-left g c shown =
    no_step c.args.channels g.met.W.Market.dealt_by shown c.args.exchange.now c.leave.new.exchange g.met.W.World.did_nothing c.args.world.now (bad_is c.leave.result (sym c.is_err.ensures.value ∙ c.if-is_err.true) c.leave.ensures.kept)

pub returns-in_err-log-clause-left : goal.returns-in_err-log-clause-left
returns-in_err-log-clause-left g c shown =
    let p = err_from_is_err_and c.from_residual.result c.from_residual.ensures.1 in
    rw p.1 (c.args.exchange.now, step_over c.args.channels g.met.W.Market.dealt_by shown c.args.exchange.now c.leave.new.exchange Out c.deref.result.now c.in_err-log.ensures)

pub returns-in_err-log-clause-moment : goal.returns-in_err-log-clause-moment
returns-in_err-log-clause-moment g c =
    (kept_left c.args.channels c.in-Some.channel c.args.exchange.now c.leave.new.exchange (well_is c.leave.result (sym c.is_err.ensures.value ∙ c.if-is_err.false) c.leave.ensures.left)).moment

pub returns-clause-left : goal.returns-clause-left
returns-clause-left g c shown =
    let d = c.args.exchange.now in
    let new = c.leave.new.exchange in
    let is = well_is c.leave.result (sym c.is_err.ensures.value ∙ c.if-is_err.false) c.leave.ensures.left in
    let line : c.deref.result.now ≡ c.out_line.result.items = search rules in
    let number : row_numbered c.deref.result.now ≡ c.in-Some.channel = ap row_numbered line ∙ c.out_line.ensures.again in
    step_logged c.args.channels g.met.W.Market.dealt_by shown d new Out c.deref.result.now c.in_ok-log.ensures (subst (λ (n : ℕ). IsChannelLeft c.args.channels n d new) (sym number) is) tt

pub returns-clause-moment : goal.returns-clause-moment
returns-clause-moment g c =
    (kept_left c.args.channels c.in-Some.channel c.args.exchange.now c.leave.new.exchange (well_is c.leave.result (sym c.is_err.ensures.value ∙ c.if-is_err.false) c.leave.ensures.left)).moment

pub returns-clause-kept : goal.returns-clause-kept
returns-clause-kept g c = λ e. kept_left c.args.channels c.in-Some.channel c.args.exchange.now c.leave.new.exchange (well_is c.leave.result (sym c.is_err.ensures.value ∙ c.if-is_err.false) c.leave.ensures.left)

pub returns-clause-done : goal.returns-clause-done
returns-clause-done g c = λ e i to_leave.
    behind_then c.args.channels c.in-Some.channel c.args.exchange.now c.leave.new.exchange (well_is c.leave.result (sym c.is_err.ensures.value ∙ c.if-is_err.false) c.leave.ensures.left) c.count-count.ensures.set i to_leave
