use Rattle.std.proofs.Common.{◌≡◌, ◌-◌, ◌∙◌, ℕ, ap}
use Rattle.bx_base.specs.Bookings.{Row, row_at}
use Rattle.bx_devices.specs.Devices.{writing_of}
use Rattle.bx_base.specs.PlanParts.{parts_of}
use Rattle.bx_planner.specs.Texts.{explained_text}
use Rattle.bx_planner.specs.Writing.{IsExplainRefusal}
use Rattle.bx_planner.specs.declared.answer.NoQuote.TheVariants.{Accepted}
use Rattle.bx_planner.proofs.Told.{told, not_written, as_told, never_told, no_memory}
use Rattle.bx_planner.proofs.writing.write_explained.Goals as goal

pub returns-in-Ok-explained_text-clause-told : goal.returns-in-Ok-explained_text-clause-told
returns-in-Ok-explained_text-clause-told g c =
    let plan = parts_of c.args.plan.now in
    let row = c.args.row in
    let output = writing_of g.W.Write.contents c.args.output.now c.put.new.output in
    let pay : c.pay.result ≡ (row_at plan.rows (row - 1)).pay = c.pay.ensures.value ∙ ap (λ (r : Row). r.pay) c.in-Some.ensures.value in
    told c.put.result plan.rows plan (row - 1) (explained_text row (row_at plan.rows (row - 1)).pay) c.in-Ok.quote output c.deref.result.now c.in-Ok.ensures.explained (c.deref.ensures.value ∙ (c.in-Ok-explained_text.ensures ∙ ap (λ (n : ℕ). explained_text row n c.in-Ok.quote) pay)) c.put.ensures.all

pub returns-in-Ok-explained_text-clause-refused : goal.returns-in-Ok-explained_text-clause-refused
returns-in-Ok-explained_text-clause-refused g c =
    let plan = parts_of c.args.plan.now in
    let row = c.args.row in
    let output = writing_of g.W.Write.contents c.args.output.now c.put.new.output in
    let pay : c.pay.result ≡ (row_at plan.rows (row - 1)).pay = c.pay.ensures.value ∙ ap (λ (r : Row). r.pay) c.in-Some.ensures.value in
    not_written c.put.result (IsExplainRefusal plan row output) output c.deref.result.now (explained_text row (row_at plan.rows (row - 1)).pay c.in-Ok.quote) (c.deref.ensures.value ∙ (c.in-Ok-explained_text.ensures ∙ ap (λ (n : ℕ). explained_text row n c.in-Ok.quote) pay)) (λ f p. (f, record { quote = c.in-Ok.quote; is = c.in-Ok.ensures.explained; written = p })) c.put.ensures.fault

pub returns-in-Err-clause-accepted : goal.returns-in-Err-clause-accepted
returns-in-Err-clause-accepted g c = λ named. as_told c.in-Err.fail (Accepted named) (c.in-Err.ensures.accepted named)

pub returns-in-Ok-explained_text-clause-accepted : goal.returns-in-Ok-explained_text-clause-accepted
returns-in-Ok-explained_text-clause-accepted g c = λ named. never_told c.put.result c.in-Ok.quote (Accepted named) (writing_of g.W.Write.contents c.args.output.now c.put.new.output) c.deref.result.now c.put.ensures.fault (c.in-Ok.ensures.accepted named)

pub returns-clause-accepted : goal.returns-clause-accepted
returns-clause-accepted g c = λ named. no_memory c.in-Ok.quote named (c.in-Ok.ensures.accepted named)
