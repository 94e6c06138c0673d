-- A quote put together from the two plans.
use Rattle.std.proofs.Common.{◌≡◌, ℕ, ◌+◌, ◌-◌, ◌≤◌, false, List, length, Option, sym, ◌∙◌, ap, subst, arith}
use Rattle.std.proofs.lemmas.List.{get_or-set_same, length-set}
use Rattle.bx_base.specs.Bookings.{Row, row_at, no_row}
use Rattle.bx_base.specs.Bound.{cost_of}
use Rattle.bx_base.specs.PlanParts.{Parts}
use Rattle.bx_base.specs.Plans.{is_accepted}
use Rattle.bx_planner.specs.Amending.{IsBestPlan}
use Rattle.bx_planner.specs.declared.answer.Quote.{Quote}
use Rattle.bx_planner.specs.Named.{picked}
use Rattle.bx_planner.specs.QuotesInside.{is_apart}
use Rattle.bx_planner.specs.Quotes.{IsQuote}
use Rattle.bx_planner.specs.Weighing.{IsSettledRow, rows_held, freed}
use Rattle.bx_planner.proofs.Deciding.{threshold_decides}
use Rattle.bx_planner.proofs.Holding.{cost_alike}
use Rattle.bx_planner.proofs.Weighed.{threshold_is, cost_below, instead_named, besides_named, trade_lawful, trade_settles, not_less}

-- what was read of the answer
pub record IsRead (plan best : Parts) (rows : List Row) (i : ℕ) (booking : Row) (quote : Quote) : Type 0 where
  pub booking_is : booking ≡ row_at rows i
  pub threshold_is : quote.threshold ≡ plan.total + booking.pay - best.total
  pub cost_is : quote.cost ≡ cost_of plan.prices booking
  pub instead_is : quote.instead.items ≡ picked (is_apart (is_accepted plan.assigned) (is_accepted best.assigned) i) (length rows)
  pub besides_is : quote.besides.items ≡ picked (is_apart (is_accepted best.assigned) (is_accepted plan.assigned) i) (length rows)

-- which rows are named, where lists and their count are equal to those that were passed
pub named_as : (a b c d : List (Option ℕ)) (i m n : ℕ) (named : List ℕ) → named ≡ picked (is_apart (is_accepted a) (is_accepted b) i) m → a ≡ c → b ≡ d → m ≡ n → named ≡ picked (is_apart (is_accepted c) (is_accepted d) i) n
named_as a b c d i m n named h s t e =
    h ∙ (ap (λ (x : List (Option ℕ)). picked (is_apart (is_accepted x) (is_accepted b) i) m) s ∙ (ap (λ (x : List (Option ℕ)). picked (is_apart (is_accepted c) (is_accepted x) i) m) t ∙ ap (λ (k : ℕ). picked (is_apart (is_accepted c) (is_accepted d) i) k) e))

module _ (plan best : Parts) (rows : List Row) (i : ℕ) (settled : IsSettledRow plan (freed rows i) i) (marked : rows ≡ rows_held (freed rows i) i) (is_best : IsBestPlan rows plan.channels best) where
  abbrev all : List Row
  all = freed rows i

  many : length all ≡ length rows
  many = length-set rows i (record (row_at rows i) { must = false })

  there : row_at all i ≡ record (row_at rows i) { must = false }
  there = get_or-set_same rows i (record (row_at rows i) { must = false }) no_row (let inside = settled.inside in omega (arith, inside, many))

  best_held : IsBestPlan (rows_held all i) plan.channels best
  best_held = subst (λ (list : List Row). IsBestPlan list plan.channels best) marked is_best

  same_pay : (row_at all i).pay ≡ (row_at rows i).pay
  same_pay = ap (λ (r : Row). r.pay) there

  pub enough : (booking : Row) → booking ≡ row_at rows i → best.total ≤ plan.total + booking.pay
  enough booking e =
      let more = not_less plan all i settled best best_held in
      let pay = ap (λ (r : Row). r.pay) e in
      omega (arith, more, pay, same_pay)

  module _ (booking : Row) (quote : Quote) (read : IsRead plan best rows i booking quote) where
    same_threshold : quote.threshold ≡ plan.total + (row_at all i).pay - best.total
    same_threshold =
        read.threshold_is ∙ ap (λ (n : ℕ). plan.total + n - best.total) (ap (λ (r : Row). r.pay) read.booking_is ∙ sym same_pay)

    same_cost : quote.cost ≡ cost_of plan.prices (row_at all i)
    same_cost =
        read.cost_is ∙ cost_alike plan.prices booking (row_at all i) (ap (λ (r : Row). r.start) read.booking_is ∙ ap (λ (r : Row). r.start) (sym there)) (ap (λ (r : Row). r.end) read.booking_is ∙ ap (λ (r : Row). r.end) (sym there))

    same_instead : quote.instead.items ≡ picked (is_apart (is_accepted plan.assigned) (is_accepted best.assigned) i) (length all)
    same_instead = read.instead_is ∙ ap (λ (k : ℕ). picked (is_apart (is_accepted plan.assigned) (is_accepted best.assigned) i) k) (sym many)

    same_besides : quote.besides.items ≡ picked (is_apart (is_accepted best.assigned) (is_accepted plan.assigned) i) (length all)
    same_besides = read.besides_is ∙ ap (λ (k : ℕ). picked (is_apart (is_accepted best.assigned) (is_accepted plan.assigned) i) k) (sym many)

    pub quote_is : IsQuote all plan i quote
    quote_is =
        let is = threshold_is plan all i settled best best_held in
        record {
          threshold_of = rw same_threshold is;
          decides = rw same_threshold (threshold_decides all plan.channels i (plan.total + (row_at all i).pay - best.total) settled.inside is);
          costs = same_cost;
          bound = rw (same_cost, same_threshold) (cost_below plan all i settled best best_held);
          instead_rows = rw same_instead (instead_named plan all i settled best best_held);
          besides_rows = rw same_besides (besides_named plan all i settled best best_held);
          lawful = rw (same_instead, same_besides) (trade_lawful plan all i settled best best_held);
          settled = rw (same_threshold, same_besides, same_instead) (trade_settles plan all i settled best best_held);
        }
