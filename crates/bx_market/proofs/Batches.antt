-- A booking of a batch that is offered.
use Rattle.std.proofs.Common.{◌≡◌, ◌⊎◌, inl, inr, ℕ, suc, ◌<◌, ◌≤◌, Bool, true, false, List, [], ◌∷◌, ◌++◌, length, Option, Some, Result, Ok, Err, refl, sym, ap, ◌∙◌, subst, arith}
use Rattle.std.proofs.lemmas.Bool.{cases_lt}
use Rattle.bx_base.specs.Bookings.{Row, row_at}
use Rattle.bx_day.specs.Day.{Day}
use Rattle.bx_events.specs.Events.{Amended}
use Rattle.bx_events.specs.declared.amendment.Amendment.TheVariants.{Sold}
use Rattle.bx_live.specs.declared.world.CannotLog.{CannotLog}
use Rattle.bx_live.specs.Acts.{Act, Logged}
use Rattle.bx_live.specs.Runs.{Over}
use Rattle.bx_planfile.specs.OneBooking.{booking_text, booking_on, row_on, row_or_none}
use Rattle.bx_sales.specs.Tags.{row_behind, IsReadBack}
use Rattle.bx_sales.specs.declared.tag.Tag.{Tag}
use Rattle.bx_sales.specs.Left.{left_in_service}
use Rattle.bx_sales.specs.Selling.{IsSold}
use Rattle.bx_sales.specs.declared.selling.NoSale.{NoSale}
use Rattle.bx_market.specs.declared.market.Answer.{Answer}
use Rattle.bx_market.specs.declared.market.Answer.TheVariants.{Accepted, Refused}
use Rattle.bx_market.specs.Answers.{answer_at, AreToldOfMemory}
use Rattle.bx_market.specs.Deals.{Deal, all_ran, sold_of}
use Rattle.bx_market.specs.Stands.{Stand, Within, Filing}
use Rattle.bx_market.specs.Offers.{Asks, IsOffered, OrOver}
use Rattle.bx_market.proofs.Steps.{one_inside, none_asked, then_asked, at_stand}

-- ---- what is sold of a batch

pub sold_none : (batch : List Row) → sold_of batch [] ≡ []
sold_none [] = refl
sold_none (row ∷ batch) = refl

pub sold_more : (batch : List Row) (answers : List Answer) → length answers < length batch → sold_of batch (answers ++ Accepted ∷ []) ≡ sold_of batch answers ++ row_at batch (length answers) ∷ []
sold_more [] answers lt = absurd (omega (arith, lt))
sold_more (row ∷ batch) [] lt = ap (λ (l : List Row). row ∷ l) (sold_none batch)
sold_more (row ∷ batch) (Accepted ∷ answers) lt = ap (λ (l : List Row). row ∷ l) (sold_more batch answers (omega (arith, lt)))
sold_more (row ∷ batch) (Refused why ∷ answers) lt = sold_more batch answers (omega (arith, lt))

pub sold_same : (batch : List Row) (answers : List Answer) (why : NoSale) → sold_of batch (answers ++ Refused why ∷ []) ≡ sold_of batch answers
sold_same [] answers why = refl
sold_same (row ∷ batch) [] why = sold_none batch
sold_same (row ∷ batch) (Accepted ∷ answers) why = ap (λ (l : List Row). row ∷ l) (sold_same batch answers why)
sold_same (row ∷ batch) (Refused other ∷ answers) why = sold_same batch answers why

-- no booking that is accepted makes the list of those that are sold longer
pub none_more : (batch : List Row) (answers : List Answer) (a : Answer) → ¬ (a ≡ Accepted) → sold_of batch answers ≡ [] → sold_of batch (answers ++ a ∷ []) ≡ []
none_more batch answers Accepted other none = absurd (other refl)
none_more batch answers (Refused why) other none = sold_same batch answers why ∙ none

-- where none is accepted, none is sold
pub none_sold_of : (batch : List Row) (answers : List Answer) → ((i : ℕ) → i < length answers → ¬ (answer_at answers i ≡ Accepted)) → sold_of batch answers ≡ []
none_sold_of [] answers none = refl
none_sold_of (row ∷ batch) [] none = refl
none_sold_of (row ∷ batch) (Accepted ∷ answers) none = absurd (none 0 (omega arith) refl)
none_sold_of (row ∷ batch) (Refused why ∷ answers) none = none_sold_of batch answers (λ i lt. none (suc i) (omega (arith, lt)))

-- ---- one booking

module _ {W : Type 0} {did : W → List Act → W → Type 0} {dealt : W → List Deal → W → Type 0} (channels : List Bool) (by : (v w : W) (acts : List Act) → did v acts w → dealt v (all_ran acts) w) (u v : W) (shown d d1 : Day) (tag : Option Tag) (batch sold : List Row) where
  pub sold_is_logged : (row : Row) (line : List ℕ) → did u (Logged (Amended Sold line) true ∷ []) v → IsReadBack tag (booking_text row) line → booking_on (booking_text row) ≡ Some row → IsSold (left_in_service channels d) row d d1
      → Asks dealt channels u v (Filing shown d tag batch sold) (Filing shown d1 tag batch (sold ++ row ∷ []))
  sold_is_logged row line done (text, under) again is =
      let same : row ≡ row_behind row_on line = sym (ap row_on text ∙ ap row_or_none again) in
      one_inside channels by (Filing shown d tag batch sold) (Filing shown d1 tag batch (sold ++ row ∷ [])) (Logged (Amended Sold line) true) done
      (d1, subst (λ (r : Row). IsSold (left_in_service channels d) r d d1) same is, under, ap (λ (r : Row). Filing shown d1 tag batch (sold ++ r ∷ [])) same) refl

  pub not_logged : (line : List ℕ) → did u (Logged (Amended Sold line) false ∷ []) v → Asks dealt channels u v (Filing shown d tag batch sold) (Within (Over d))
  not_logged line done = one_inside channels by (Filing shown d tag batch sold) (Within (Over d)) (Logged (Amended Sold line) false) done refl refl

module _ {W : Type 0} {did : W → List Act → W → Type 0} {dealt : W → List Deal → W → Type 0} (channels : List Bool) (by : (v w : W) (acts : List Act) → did v acts w → dealt v (all_ran acts) w) (none : (w : W) → did w [] w) where
  pub not_sold : (u : W) (shown d d1 : Day) (tag : Option Tag) (batch sold : List Row) → d1 ≡ d → Asks dealt channels u u (Filing shown d tag batch sold) (Filing shown d1 tag batch sold) × (d1 ≡ d)
  not_sold u shown d d1 tag batch sold same = (at_stand (Filing shown d tag batch sold) (Filing shown d1 tag batch sold) (ap (λ (x : Day). Filing shown x tag batch sold) (sym same)) (none_asked channels by none u (Filing shown d tag batch sold)), same)

module _ {W : Type 0} {dealt : W → List Deal → W → Type 0} (channels : List Bool) (tag : Option Tag) (u v : W) (shown d d1 : Day) (batch : List Row) (answers : List Answer) where
  pub offered_more : (a : Answer) (index : ℕ) (row : Row) → IsOffered dealt channels tag u v shown batch (sold_of batch answers) row d d1 (Ok a) → row ≡ row_at batch index → length answers ≡ index → index < length batch
      → Asks dealt channels u v (Filing shown d tag batch (sold_of batch answers)) (Filing shown d1 tag batch (sold_of batch (answers ++ a ∷ [])))
  offered_more Accepted index row run is len lt =
      let same : row ≡ row_at batch (length answers) = is ∙ ap (row_at batch) (sym len) in
      let all : sold_of batch answers ++ row ∷ [] ≡ sold_of batch (answers ++ Accepted ∷ []) = ap (λ (r : Row). sold_of batch answers ++ r ∷ []) same ∙ sym (sold_more batch answers (omega (arith, len, lt))) in
      at_stand (Filing shown d1 tag batch (sold_of batch answers ++ row ∷ [])) (Filing shown d1 tag batch (sold_of batch (answers ++ Accepted ∷ []))) (ap (Filing shown d1 tag batch) all) run
  offered_more (Refused why) index row (run, same) is len lt =
      at_stand (Filing shown d1 tag batch (sold_of batch answers)) (Filing shown d1 tag batch (sold_of batch (answers ++ Refused why ∷ []))) (ap (Filing shown d1 tag batch) (sym (sold_same batch answers why))) run

-- a run that goes on well, or does not
pub or_more : {W A : Type 0} {dealt : W → List Deal → W → Type 0} (channels : List Bool) (more : (u v w : W) (xs ys : List Deal) → dealt u xs v → dealt v ys w → dealt u (xs ++ ys) w) (u v w : W) (p q s : Stand) (r : Result A CannotLog)
    → Asks dealt channels u v p q → OrOver dealt channels v w q s r → OrOver dealt channels u w p s r
or_more channels more u v w p q s (Ok a) run on = then_asked more run on
or_more channels more u v w p q s (Err fault) run (over, on) = (over, then_asked more run on)

-- where memory ran out before anything was chosen, nothing is sold
pub none_of_memory : (d : Day) (batch : List Row) (answers : List Answer) → AreToldOfMemory d batch answers → sold_of batch answers ≡ []
none_of_memory d batch answers told = none_sold_of batch answers (λ i lt is. by_order i lt is (cases_lt d.moment (row_at batch i).start)) where
  by_order : (i : ℕ) → i < length answers → answer_at answers i ≡ Accepted → (d.moment < (row_at batch i).start) ⊎ ((row_at batch i).start ≤ d.moment) → ⊥
  by_order i lt is (inl later) = let other = told.memory i (omega (arith, lt, told.one_each)) later in cc
  by_order i lt is (inr late) = let other = told.late i (omega (arith, lt, told.one_each)) late in cc
