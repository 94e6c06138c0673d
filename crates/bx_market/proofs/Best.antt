-- What is accepted of a batch is the best choice.
use Rattle.std.proofs.Common.{◌≡◌, ℕ, zero, suc, ◌<◌, ◌≤◌, Bool, true, false, true≢false, cond, Option, List, [], ◌∷◌, ◌++◌, map, length, refl, sym, ap, ap₂, ◌∙◌, subst, arith, append_assoc, ◌⊎◌, inl, inr}
use Rattle.std.proofs.lemmas.Bool.{cases_lt, false_from_ne_true}
use Rattle.std.proofs.lemmas.List.{append-nil, get_or_past, length-map}
use Rattle.bx_base.specs.Bookings.{Row, row_at}
use Rattle.bx_base.proofs.SumLemmas.{sum_below-zero}
use Rattle.bx_colour.specs.Colouring.{is_in}
use Rattle.bx_day.specs.Day.{Day}
use Rattle.bx_sales.specs.Left.{left_in_service}
use Rattle.bx_sales.specs.declared.selling.NoSale.TheVariants.{Late, TookOver, Memory}
use Rattle.bx_market.specs.declared.market.Answer.{Answer}
use Rattle.bx_market.specs.declared.market.Answer.TheVariants.{Accepted, Refused}
use Rattle.bx_market.specs.Answers.{answer_at, IsToldOf, AreToldByChoice, AreToldOfMemory, AreTold}
use Rattle.bx_market.specs.Choices.{IsBestBatch}
use Rattle.bx_sales.specs.declared.tag.Tag.{Tag}
use Rattle.bx_market.specs.Deals.{Deal, Answered}
use Rattle.bx_market.specs.Stands.{Stand, Within, Filing, Telling, GoesByDeal, IsMarketRun}
use Rattle.bx_market.specs.Told.{is_sold, IsUnhindered, IsToldOfBest}
use Rattle.bx_market.proofs.Eligible.{eligible_later}
use Rattle.bx_market.proofs.Logs.{AreSold, Stands, stands}

-- marks that are one by one those of these answers
same_marks : (answers : List Answer) (marks : List Bool) → length answers ≡ length marks → ((i : ℕ) → i < length answers → is_in marks i ≡ is_sold (answer_at answers i)) → marks ≡ map is_sold answers
same_marks [] [] count same = refl
same_marks (a ∷ answers) (m ∷ marks) count same = ap₂ (λ (b : Bool) (bs : List Bool). b ∷ bs) (same 0 (omega arith)) (same_marks answers marks (omega (arith, count)) (λ i lt. same (suc i) (omega (arith, lt))))
same_marks answers marks count same = absurd (omega (arith, count))

module _ (channels : List Bool) (d : Day) (batch : List Row) where
  chosen_sold : (chosen : List Bool) (i : ℕ) (b : Bool) (a : Answer) → IsToldOf channels d batch chosen i b a → IsUnhindered a → b ≡ is_sold a
  chosen_sold chosen i true Accepted told fine = refl
  chosen_sold chosen i true (Refused TookOver) told fine = absurd (fine.1 refl)
  chosen_sold chosen i true (Refused Memory) told fine = absurd (fine.0 refl)
  chosen_sold chosen i false (Refused why) told fine = refl
  chosen_sold chosen i b a told fine = absurd told

  module _ (answers : List Answer) (fine : (i : ℕ) → i < length batch → IsUnhindered (answer_at answers i)) where
    by_choice : AreToldByChoice channels d batch answers → IsBestBatch channels d batch (map is_sold answers)
    by_choice told =
        let count = told.best.one_each in
        let same : told.chosen ≡ map is_sold answers = same_marks answers told.chosen (told.one_each ∙ sym count) (λ i lt.
        let inside : i < length batch = omega (arith, lt, told.one_each) in
        chosen_sold told.chosen i (is_in told.chosen i) (answer_at answers i) (told.each i inside) (fine i inside)) in
        subst (IsBestBatch channels d batch) same told.best

    -- where all are late
    all_late : AreToldOfMemory d batch answers → (i : ℕ) → i < length batch → (row_at batch i).start ≤ d.moment
    all_late told i lt = by_order (cases_lt d.moment (row_at batch i).start) where
      by_order : (d.moment < (row_at batch i).start) ⊎ ((row_at batch i).start ≤ d.moment) → (row_at batch i).start ≤ d.moment
      by_order (inl later) = absurd ((fine i lt).0 (told.memory i lt later))
      by_order (inr late) = late

    none_sold : AreToldOfMemory d batch answers → (i : ℕ) → is_in (map is_sold answers) i ≡ true → ⊥
    none_sold told i h = by_place (cases_lt i (length batch)) where
      at : (answers : List Answer) (i : ℕ) → answer_at answers i ≡ Refused Late → is_in (map is_sold answers) i ≡ false
      at [] i e = get_or_past [] i false (omega arith)
      at (a ∷ answers) zero e = ap is_sold e
      at (a ∷ answers) (suc i) e = at answers i e

      by_place : (i < length batch) ⊎ (length batch ≤ i) → ⊥
      by_place (inl lt) = true≢false (sym h ∙ at answers i (told.late i lt (all_late told i lt)))
      by_place (inr beyond) = true≢false (sym h ∙ get_or_past (map is_sold answers) i false (let n = length-map answers is_sold in let m = told.one_each in omega (arith, beyond, n, m)))

    of_memory : AreToldOfMemory d batch answers → IsBestBatch channels d batch (map is_sold answers)
    of_memory told = record {
      one_each = length-map answers is_sold ∙ told.one_each;
      eligible = λ i h. absurd (none_sold told i h);
      fits = λ i h. absurd (none_sold told i h);
      best = λ other choice.
          let zero_paid = sum_below-zero (length batch) (λ i. cond (is_in other i) (row_at batch i).pay 0) (λ i lt.
          let out : is_in other i ≡ false = false_from_ne_true (is_in other i) (λ h. let later = eligible_later d.moment (length d.entries) batch i (choice.eligible i h) in let late = all_late told i lt in omega (arith, later, late)) in
          ap (λ (b : Bool). cond b (row_at batch i).pay 0) out) in
          omega (arith, zero_paid);
    }

    best_of : AreTold channels d batch answers → IsBestBatch channels d batch (map is_sold answers)
    best_of (inl told) = by_choice told
    best_of (inr told) = of_memory told

of_best : (channels : List Bool) (deals : List Deal) (shown : Day) (tag : Option Tag) (batch sold : List Row) (answers : List Answer) → AreSold deals shown tag batch sold → AreTold (left_in_service channels shown) shown batch answers → IsToldOfBest channels deals answers
of_best channels deals shown tag batch sold answers s told = record { shown = shown; batch = record { tag = tag; bookings = batch }; before = s.before; since = s.since; are = s.are; told = told; best = λ fine. best_of (left_in_service channels shown) shown batch answers fine told }

told_at : (channels : List Bool) (deals : List Deal) (from to : Stand) (answers : List Answer) → Stands channels deals from → GoesByDeal channels from (Answered answers) to → IsToldOfBest channels deals answers
told_at channels deals (Within p) to answers s e = absurd e
told_at channels deals (Filing shown d tag batch sold) to answers s (none, are, told, e) = of_best channels deals shown tag batch sold answers s told
told_at channels deals (Telling shown d tag batch sold) to answers s (are, told, e) = of_best channels deals shown tag batch sold answers s.sold_since told
told_at channels deals from to answers s e = absurd e

pub told_of_best : (channels : List Bool) (done before following : List Deal) (answers : List Answer) (from to : Stand) → Stands channels done from → IsMarketRun channels from (before ++ Answered answers ∷ following) to → IsToldOfBest channels (done ++ before) answers
told_of_best channels done [] following answers from to s (mid, goes, rest) = subst (λ (l : List Deal). IsToldOfBest channels l answers) (sym (append-nil done)) (told_at channels done from mid answers s goes)
told_of_best channels done (deal ∷ before) following answers from to s (mid, goes, rest) =
    subst (λ (l : List Deal). IsToldOfBest channels l answers) (append_assoc done (deal ∷ []) before)
    (told_of_best channels (done ++ deal ∷ []) before following answers mid to (stands channels done from mid deal s goes) rest)
