use Rattle.std.proofs.Common.{◌≡◌, ◌∙◌, ℕ, List, Some, Err, Bor, ap}
use Rattle.std.proofs.lemmas.Result.{err_from_is_err_and}
use Rattle.sha2.specs.Sha256.{sha256}
use Rattle.bx_base.specs.PlanParts.{parts_of}
use Rattle.bx_check_commands.proofs.Unread.{none_proved}
use Rattle.bx_devices.specs.Devices.{reading_of}
use Rattle.bx_devices.specs.Watching.{device_of}
use Rattle.bx_day_openings.proofs.Texts.{text_told, tied_by}
use Rattle.bx_day_openings.proofs.tied.tied_plan.Goals as goal

pub returns-clause-found : goal.returns-clause-found
returns-clause-found g c =
    let before = g.R.Read.remaining (device_of c.args.input.now) in
    let after = g.R.Read.remaining (device_of c.read_octets.new.r) in
    let text = c.in-Ok.text.items in
    let proved = c.in_ok-plan.ensures.proved in
    let digest : c.plan_digest-digest.result ≡ sha256 text = c.plan_digest-digest.ensures ∙ ap sha256 c.deref.ensures.value in
    tied_by before _ text (parts_of c.in_ok-plan.plan) c.plan_digest-digest.result (text_told before after text c.in-Ok.ensures.all) (ap (λ (s : Bor (List ℕ)). Some s.now) c.new-octets.ensures.device ∙ ap Some c.as_slice.ensures.value) c.in_ok-plan.ensures.found proved.0 proved.1 digest

pub returns-in_err-plan-clause-none : goal.returns-in_err-plan-clause-none
returns-in_err-plan-clause-none g c =
    let p = err_from_is_err_and c.from_residual.result c.from_residual.ensures.1 in
    rw (p.1, p.2)
    (none_proved {T = Unit {0}} c.args.name.now (reading_of (λ (s : Bor (List ℕ)). Some s.now) c.new-octets.result c.proved_plan.new.input) (Err c.in_err-plan.field-0.0) c.in_err-plan.ensures.refused)
