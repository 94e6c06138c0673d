-- What a call would have to pay.
use Rattle.std.specs.Prelude.{◌≡◌, ◌⊎◌, ◌<◌, ◌≤◌, ℕ, ◌-◌, max, Bool, List, [], ◌∷◌, length, codes, Option, Some, None, if◌then◌else◌}
use Rattle.std.specs.Str.{bytes_eq}
use Rattle.form_urlencoded.specs.Form as form
use Rattle.bx_base.specs.Bookings.{Row}
use Rattle.bx_base.specs.PlanParts.{Parts}
use Rattle.bx_book.specs.Rows.{Span, IsMomentOf, IsTimeFault}
use Rattle.bx_day.specs.Day.{Day}
use Rattle.bx_planner.specs.declared.answer.Quote.{Quote}
use Rattle.bx_planner.specs.Quotes.{IsQuote, IsNoQuote, with_asked}
use Rattle.bx_planner.specs.Texts.{quote_text}
use Rattle.bx_office_world.specs.Answers.{IsPromisedPlan, IsNoPromisedPlan}
use Rattle.bx_office_world.specs.Tariff.{least_pay}
use Rattle.bx_office_world.specs.declared.fault.NoAnswer.{NoAnswer}
use Rattle.bx_office_world.specs.declared.fault.NoAnswer.TheVariants.{NoTimes, Book, Quote as NoQuoteOf, Memory}
use Rattle.bx_book.specs.declared.fault.BookFault.TheVariants.{EndNotAfterStart}

-- the value of the first field of this name
abbrev pub first_value : List ℕ → List (List ℕ × List ℕ) → Option (List ℕ)
first_value name [] = None
first_value name (pair ∷ more) = if bytes_eq pair.0 name then Some pair.1 else first_value name more

-- the same in a query
abbrev pub value_in : List ℕ → List ℕ → Option (List ℕ)
value_in query name = first_value name (form.raw_pairs query)

-- a field of a query names this second of the day
pub record IsSecondOfQuery (query name : List ℕ) (span : Span) (second : ℕ) : Type 0 where
  pub value : List ℕ
  pub found : value_in query name ≡ Some value
  pub text : List ℕ
  pub decoded : form.DecodesTo value text
  pub moment : IsMomentOf span text second

-- why it names none
abbrev pub IsNoSecond : List ℕ → List ℕ → Span → NoAnswer → Type 0
IsNoSecond query name span NoTimes = value_in query name ≡ None
IsNoSecond query name span (Book fault) = (value text : List ℕ) × (value_in query name ≡ Some value) × form.DecodesTo value text × IsTimeFault span 1 text fault
IsNoSecond query name span Memory = Unit {0}
IsNoSecond query name span _ = ⊥

-- the call starts and ends at the times that a query names
pub record IsCallOfQuery (query : List ℕ) (span : Span) (call : Row) : Type 0 where
  pub start : IsSecondOfQuery query (codes "start") span call.start
  pub end : IsSecondOfQuery query (codes "end") span call.end
  pub turned : call.start < call.end

-- both times are there, and the end is not after the start
pub record IsTurned (query : List ℕ) (span : Span) : Type 0 where
  pub start : ℕ
  pub end : ℕ
  pub starts : IsSecondOfQuery query (codes "start") span start
  pub ends : IsSecondOfQuery query (codes "end") span end
  pub turned : end ≤ start

-- why a query names no call: the first of its times that is none, or both are turned
abbrev pub IsNoCallOfQuery : List ℕ → Span → NoAnswer → Type 0
IsNoCallOfQuery query span (Book (EndNotAfterStart row)) = (row ≡ 1) × IsTurned query span
IsNoCallOfQuery query span why = IsNoSecond query (codes "start") span why ⊎ ((start : ℕ) × IsSecondOfQuery query (codes "start") span start × IsNoSecond query (codes "end") span why)

-- the same where nothing is sold below its least pay at this rate: whatever pays more than this threshold pays at least that too
abbrev pub quote_at : ℕ → Row → Quote → Quote
quote_at rate call quote = record quote { threshold = max quote.threshold (least_pay rate call - 1) }

-- what the command says of the call beside a plan of all that is promised, on the channels that are left, at this rate
pub record IsQuoteText (d : Day) (channels : List Bool) (rate : ℕ) (call : Row) (text : List ℕ) : Type 0 where
  pub plan : Parts
  pub promised : IsPromisedPlan d channels plan
  pub quote : Quote
  pub is : IsQuote (with_asked plan.rows call) plan (length plan.rows) quote
  pub are : text ≡ quote_text (quote_at rate call quote)

-- why it says nothing: there is no such plan, or no quote beside it
abbrev pub IsNoQuoteText : Day → List Bool → Row → NoAnswer → Type 0
IsNoQuoteText d channels call (NoQuoteOf why) = (plan : Parts) × IsPromisedPlan d channels plan × IsNoQuote plan call why
IsNoQuoteText d channels call why = IsNoPromisedPlan d channels why
