-- What is written of quotes, and what each refusal says.
use Rattle.std.specs.Prelude.{◌≡◌, ℕ, ◌-◌, true, List, length}
use Rattle.std.specs.Io.KnownBytes.{Appends}
use Rattle.bx_base.specs.Bookings.{Row, row_at}
use Rattle.bx_devices.specs.Devices.{Writing, KeepsOutput}
use Rattle.bx_devices.specs.Octets.{AppendsPrefix}
use Rattle.bx_base.specs.PlanParts.{Parts}
use Rattle.bx_planner.specs.declared.answer.Quote.{Quote}
use Rattle.bx_planner.specs.declared.answer.NoQuote.TheVariants.{Memory}
use Rattle.bx_planner.specs.declared.writing.QuoteFault.{QuoteFault}
use Rattle.bx_planner.specs.declared.writing.QuoteFault.TheVariants as fault
use Rattle.bx_planner.specs.Quotes.{IsQuote, IsNoQuote, IsNoExplanation, with_asked}
use Rattle.bx_planner.specs.Texts.{quote_text, explained_text, refused_text}

-- the text of a quote of the row at i was written
pub record IsToldOfRow (rows : List Row) (plan : Parts) (i : ℕ) (text : Quote → List ℕ) (output : Writing) : Type 0 where
  pub quote : Quote
  pub is : IsQuote rows plan i quote
  pub written : Appends output.before output.after (text quote)

-- a prefix of it was
pub record IsCutTold (rows : List Row) (plan : Parts) (i : ℕ) (text : Quote → List ℕ) (output : Writing) : Type 0 where
  pub quote : Quote
  pub is : IsQuote rows plan i quote
  pub written : AppendsPrefix output.before output.after (text quote)

-- the text of a quote of this booking was written
abbrev pub IsQuoteTold : Parts → Row → Writing → Type 0
IsQuoteTold plan booking output =
    IsToldOfRow (with_asked plan.rows booking) plan (length plan.rows) quote_text output

-- the text of what this row has to pay was
abbrev pub IsExplanationTold : Parts → ℕ → Writing → Type 0
IsExplanationTold plan row output =
    IsToldOfRow plan.rows plan (row - 1) (explained_text row (row_at plan.rows (row - 1)).pay) output

-- each refusal of a quote: why there is none, and that nothing was written, or that the output failed
abbrev pub IsQuoteRefusal : Parts → Row → Writing → QuoteFault → Type 0
IsQuoteRefusal plan booking output (fault.Quote fail) = IsNoQuote plan booking fail × KeepsOutput output
IsQuoteRefusal plan booking output fault.WriteFailed = (output.is_faulted ≡ true) × IsCutTold (with_asked plan.rows booking) plan (length plan.rows) quote_text output

-- the same of a row of the plan
abbrev pub IsExplainRefusal : Parts → ℕ → Writing → QuoteFault → Type 0
IsExplainRefusal plan row output (fault.Quote fail) = IsNoExplanation plan row fail × KeepsOutput output
IsExplainRefusal plan row output fault.WriteFailed = (output.is_faulted ≡ true) × IsCutTold plan.rows plan (row - 1) (explained_text row (row_at plan.rows (row - 1)).pay) output

-- the same of all that the plan refuses: only memory and the output can fail
abbrev pub IsListRefusal : Parts → Writing → QuoteFault → Type 0
IsListRefusal plan output (fault.Quote fail) = (fail ≡ Memory) × KeepsOutput output
IsListRefusal plan output fault.WriteFailed = (output.is_faulted ≡ true) × AppendsPrefix output.before output.after (refused_text plan)
