use Rattle.std.proofs.Common.{◌∙◌, length}
use Rattle.bx_devices.specs.Devices.{writing_of}
use Rattle.bx_base.specs.PlanParts.{parts_of}
use Rattle.bx_planner.specs.Quotes.{with_asked}
use Rattle.bx_planner.specs.Texts.{quote_text}
use Rattle.bx_planner.specs.Writing.{IsQuoteRefusal}
use Rattle.bx_planner.proofs.Told.{told, not_written}
use Rattle.bx_planner.proofs.writing.write_quote.Goals as goal

pub returns-in-Ok-quote_text-clause-told : goal.returns-in-Ok-quote_text-clause-told
returns-in-Ok-quote_text-clause-told g c =
    let plan = parts_of c.args.plan.now in
    let output = writing_of g.W.Write.contents c.args.output.now c.put.new.output in
    told c.put.result (with_asked plan.rows c.args.booking.now) plan (length plan.rows) quote_text c.in-Ok.quote output c.deref.result.now c.in-Ok.ensures.quoted (c.deref.ensures.value ∙ c.in-Ok-quote_text.ensures) c.put.ensures.all

pub returns-in-Ok-quote_text-clause-refused : goal.returns-in-Ok-quote_text-clause-refused
returns-in-Ok-quote_text-clause-refused g c =
    let plan = parts_of c.args.plan.now in
    let output = writing_of g.W.Write.contents c.args.output.now c.put.new.output in
    not_written c.put.result (IsQuoteRefusal plan c.args.booking.now output) output c.deref.result.now (quote_text c.in-Ok.quote) (c.deref.ensures.value ∙ c.in-Ok-quote_text.ensures) (λ f p. (f, record { quote = c.in-Ok.quote; is = c.in-Ok.ensures.quoted; written = p })) c.put.ensures.fault
