-- What stands at each path now.
use Rattle.std.specs.Prelude.{◌≡◌, ◌⊎◌, ℕ, List, [], Option}
use Rattle.bx_office_world.specs.Answers.{IsNoRecords}
use Rattle.bx_office_world.specs.LastPlans.{IsPlanText, HasNoLastPlan}
use Rattle.bx_office_world.specs.FreeTimes.{IsFreeAnswered, IsFreeUnanswered}
use Rattle.bx_office_world.specs.Health.{health_text, ready_now, ready_words}
use Rattle.bx_office_world.specs.Metrics.{metrics_text}
use Rattle.bx_office_world.specs.Quotes.{IsCallOfQuery, IsNoCallOfQuery, IsQuoteText, IsNoQuoteText}
use Rattle.bx_office_world.specs.declared.fault.NoAnswer.{NoAnswer}
use Rattle.bx_office_world.specs.declared.fault.NoAnswer.TheVariants.{Memory}
use Rattle.bx_office_world.specs.declared.metrics.Figures.{Figures}
use Rattle.bx_base.specs.Bookings.{Row}
use Rattle.bx_book.specs.Rows.{span_of}
use Rattle.bx_day.specs.Day.{Day}
use Rattle.bx_day.specs.Telling.{outcomes_text}
use Rattle.bx_day.specs.declared.outcome.GivenUp.{GivenUp}
use Rattle.bx_day_chart.specs.Charts.{IsDayChart}
use Rattle.bx_day_chart.specs.Sights.{Sight}
use Rattle.bx_office.specs.declared.gate.Route.{Route}
use Rattle.bx_office.specs.declared.gate.Route.TheVariants as routes
use Rattle.bx_office.specs.declared.reply.Kind.{Kind}
use Rattle.bx_office.specs.declared.reply.Kind.TheVariants as kinds
use Rattle.bx_records.specs.Records.{IsRecordsText}
use Rattle.bx_office_world.specs.declared.desk.Opened.{Opened}

-- the quote of the call that a query asks for
pub record IsQuoteAnswered (opened : Opened) (d : Day) (query text : List ℕ) : Type 0 where
  pub call : Row
  pub is : IsCallOfQuery query (span_of opened.day) call
  pub quoted : IsQuoteText d opened.channels opened.rate call text

-- each path has just what its command says of the day as it stands, whose bookings were given up so
abbrev pub IsWritten : Opened → Day → List (Option GivenUp) → Figures → Sight → List ℕ → Route → Kind → List ℕ → Type 0
IsWritten opened d given_up figures sight query routes.Plan kind text = (kind ≡ kinds.Text) × IsPlanText d.entries opened.channels text
IsWritten opened d given_up figures sight query routes.Outcomes kind text = (kind ≡ kinds.Text) × (text ≡ outcomes_text given_up d)
IsWritten opened d given_up figures sight query routes.Records kind text = (kind ≡ kinds.Csv) × IsRecordsText opened.clock d.entries text
IsWritten opened d given_up figures sight query routes.Quote kind text = (kind ≡ kinds.Text) × IsQuoteAnswered opened d query text
IsWritten opened d given_up figures sight query routes.Free kind text = (kind ≡ kinds.Csv) × IsFreeAnswered opened d query text
IsWritten opened d given_up figures sight query routes.Chart kind text = (kind ≡ kinds.Picture) × IsDayChart d opened.channels sight opened.clock text
IsWritten opened d given_up figures sight query routes.Metrics kind text = (kind ≡ kinds.Metrics) × (text ≡ metrics_text d figures)
IsWritten opened d given_up figures sight query routes.Health kind text = (kind ≡ kinds.Text) × (text ≡ health_text d figures)
IsWritten opened d given_up figures sight query routes.Ready kind text = (kind ≡ kinds.Text) × (text ≡ ready_words (ready_now opened d figures))
IsWritten opened d given_up figures sight query _ kind text = (kind ≡ kinds.Text) × (text ≡ [])

-- why there is no quote: the query names no call, or there is none for the call that it names
abbrev pub IsQuoteUnanswered : Opened → Day → List ℕ → NoAnswer → Type 0
IsQuoteUnanswered opened d query why = IsNoCallOfQuery query (span_of opened.day) why ⊎ ((call : Row) × IsCallOfQuery query (span_of opened.day) call × IsNoQuoteText d opened.channels call why)

-- why nothing stands at a path: just what its command is refused for, or memory runs out
abbrev pub IsUnanswered : Opened → Day → List ℕ → Route → NoAnswer → Type 0
IsUnanswered opened d query routes.Plan why = HasNoLastPlan d.entries opened.channels why
IsUnanswered opened d query routes.Outcomes why = why ≡ Memory
IsUnanswered opened d query routes.Records why = IsNoRecords opened.clock why
IsUnanswered opened d query routes.Quote why = IsQuoteUnanswered opened d query why
IsUnanswered opened d query routes.Free why = IsFreeUnanswered opened query why
IsUnanswered opened d query routes.Chart why = why ≡ Memory
IsUnanswered opened d query routes.Metrics why = why ≡ Memory
IsUnanswered opened d query routes.Health why = why ≡ Memory
IsUnanswered opened d query routes.Ready why = why ≡ Memory
IsUnanswered opened d query _ why = ⊥
