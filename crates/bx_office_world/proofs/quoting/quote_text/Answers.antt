use Rattle.std.proofs.Common.{◌≡◌, ◌-◌, ◌∙◌, ap, ℕ, max}
use Rattle.bx_base.specs.PlanParts.{parts_of}
use Rattle.bx_planner.specs.Texts.{quote_text}
use Rattle.bx_office_world.specs.Quotes.{IsQuoteText}
use Rattle.bx_office_world.specs.Tariff.{least_pay}
use Rattle.bx_office_world.proofs.quoting.quote_text.Goals as goal

pub returns-in-Ok-quote_lines-clause-text : goal.returns-in-Ok-quote_lines-clause-text
returns-in-Ok-quote_lines-clause-text c =
    let quote = c.in-Ok.quote in
    let above : c.max.result ≡ max quote.threshold (least_pay c.args.rate c.args.call.now - 1) =
    c.max.ensures ∙ ap (λ (n : ℕ). max quote.threshold n) (c.saturating_sub-unpaid.ensures ∙ ap (λ (n : ℕ). n - 1) c.least_pay.ensures) in
    let made : IsQuoteText c.args.exchange.now c.args.channels c.args.rate c.args.call.now c.in-Ok-quote_lines.text.items = record {
      plan = parts_of c.in_ok-plan.plan;
      promised = c.in_ok-plan.ensures.plan;
      quote = quote;
      is = c.in-Ok.ensures.quoted;
      are = c.in-Ok-quote_lines.ensures ∙ ap (λ (n : ℕ). quote_text (record quote { threshold = n })) above;
    } in
    made
