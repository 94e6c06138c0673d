use Rattle.std.proofs.Common.{ℕ, List, subst}
use Rattle.std.proofs.lemmas.Result.{err_from_is_err_and}
use Rattle.bx_base.specs.Channels.{AreChannels, HasJust}
use Rattle.bx_base.specs.ChannelFaults.{IsFirstChannelFault}
use Rattle.bx_plan_commands.proofs.NamedDays.{no_terms}
use Rattle.bx_plan_commands.proofs.naming.channels_and_day.Goals as goal

pub returns-in-Err-clause-none : goal.returns-in-Err-clause-none
returns-in-Err-clause-none c = subst (λ (numbers : List ℕ). IsFirstChannelFault numbers c.in-Err.fault) c.deref.ensures.value c.in-Err.ensures.fault

pub returns-in_err-day-clause-none : goal.returns-in_err-day-clause-none
returns-in_err-day-clause-none c =
    let p = err_from_is_err_and c.from_residual.result c.from_residual.ensures.1 in
    rw (p.1, p.2) (no_terms c.args.terms.now c.in_err-day.field-0.0 (subst (λ (numbers : List ℕ). AreChannels numbers) c.deref.ensures.value c.in-Ok.ensures.channels.0) c.in_err-day.ensures.none)

pub returns-clause-named : goal.returns-clause-named
returns-clause-named c = record {
  day_of = c.in_ok-day.ensures.named;
  numbers = subst (λ (numbers : List ℕ). AreChannels numbers) c.deref.ensures.value c.in-Ok.ensures.channels.0;
  just = subst (λ (numbers : List ℕ). HasJust c.in-Ok.channels numbers) c.deref.ensures.value c.in-Ok.ensures.channels.1;
}
