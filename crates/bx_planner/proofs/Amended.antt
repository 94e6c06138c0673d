-- The rows that are planned anew, one by one.
use Rattle.std.proofs.Common.{zero, suc, ◌≡◌, ℕ, ◌+◌, ◌-◌, ◌<◌, ◌≤◌, Bool, List, [], ◌∷◌, length, Option, cond, refl, sym, ◌∙◌, ap, arith}
use Rattle.std.proofs.lemmas.List.{length-append, get_or_append_left, get_or-append_right}
use Rattle.bx_base.specs.Bookings.{Row, row_at, no_row, Carries, IsLawful, pay_of}
use Rattle.bx_base.specs.Plans.{is_accepted, channel_at}
use Rattle.bx_base.specs.Channels.{count_of}
use Rattle.bx_base.specs.PlanParts.{Parts}
use Rattle.bx_planner.specs.Amending.{promised_in_plan, promised_rows, amended, IsBestPlan, KeepsPromises}
use Rattle.bx_planner.specs.Choices.{IsFirstFitPlan, ProvesBest}
use Rattle.bx_planner.specs.Inside.{IsLeastBound}
use Rattle.bx_base.proofs.SumLemmas.{sum_below-same}
use Rattle.bx_planner.proofs.Chosen.{best_from_proof}
use Rattle.bx_planner.proofs.SamePrices.{least_proof}

pub length_promised : (rows : List Row) (assigned : List (Option ℕ)) → length (promised_rows rows assigned) ≡ length rows
unfolding promised_rows
length_promised [] assigned = refl
length_promised (row ∷ rows) [] = omega (arith, length_promised rows [])
length_promised (row ∷ rows) (c ∷ assigned) = omega (arith, length_promised rows assigned)

pub length_amended : (rows : List Row) (assigned : List (Option ℕ)) (more : List Row) → length (amended rows assigned more) ≡ length rows + length more
length_amended rows assigned more = omega (arith, length-append (promised_rows rows assigned) more, length_promised rows assigned)

pub row_promised : (rows : List Row) (assigned : List (Option ℕ)) (i : ℕ) → i < length rows → row_at (promised_rows rows assigned) i ≡ promised_in_plan (row_at rows i) (is_accepted assigned i)
unfolding promised_rows
row_promised [] assigned i h = absurd (omega arith)
row_promised (row ∷ rows) [] zero h = refl
row_promised (row ∷ rows) [] (suc i) h = row_promised rows [] i (omega arith)
row_promised (row ∷ rows) (c ∷ assigned) zero h = refl
row_promised (row ∷ rows) (c ∷ assigned) (suc i) h = row_promised rows assigned i (omega arith)

-- a row of the plan
pub row_earlier : (rows : List Row) (assigned : List (Option ℕ)) (more : List Row) (i : ℕ) → i < length rows → row_at (amended rows assigned more) i ≡ promised_in_plan (row_at rows i) (is_accepted assigned i)
row_earlier rows assigned more i h =
    get_or_append_left (promised_rows rows assigned) more no_row i (omega (arith, h, length_promised rows assigned)) ∙ row_promised rows assigned i h

-- a row of the others
pub row_later : (rows : List Row) (assigned : List (Option ℕ)) (more : List Row) (i : ℕ) → length rows ≤ i → row_at (amended rows assigned more) i ≡ row_at more (i - length rows)
row_later rows assigned more i h = get_or-append_right (promised_rows rows assigned) more (length rows) i no_row (length_promised rows assigned) h

-- what stands at a place, put together from what was read there
pub same_row : (rows : List Row) (assigned : List (Option ℕ)) (more whole : List Row) (i : ℕ) (row : Row) (accepted : Bool) (result : Row) → whole ≡ amended rows assigned more → i < length rows → row ≡ row_at rows i → accepted ≡ is_accepted assigned i → result ≡ promised_in_plan row accepted → result ≡ row_at whole i
same_row rows assigned more whole i row accepted result e h a b r =
    let here = row_earlier rows assigned more i h in
    r ∙ (ap (λ (x : Row). promised_in_plan x accepted) a ∙ (ap (λ (x : Bool). promised_in_plan (row_at rows i) x) b ∙ (sym here ∙ ap (λ (x : List Row). row_at x i) (sym e))))

-- a lawful choice among the rows that are planned anew keeps each promise
pub keeps : (rows : List Row) (assigned : List (Option ℕ)) (more : List Row) (channels : List Bool) (after : List (Option ℕ)) → IsLawful (amended rows assigned more) channels (is_accepted after) → KeepsPromises rows assigned after
keeps rows assigned more channels after lawful i h a =
    lawful.has_musts i (omega (arith, h, length_amended rows assigned more)) (ap (λ (r : Row). r.must) (row_earlier rows assigned more i h) ∙ a)

-- what the accepted rows pay, from the marks that they were accepted by
pub accepted_pay : (rows : List Row) (f g : ℕ → Bool) (total : ℕ) → total ≡ pay_of rows g → ((i : ℕ) → f i ≡ g i) → total ≡ pay_of rows f
accepted_pay rows f g total paid same =
    paid ∙ sum_below-same (length rows) (λ i. cond (g i) (row_at rows i).pay 0) (λ i. cond (f i) (row_at rows i).pay 0) (λ i h. ap (λ (b : Bool). cond b (row_at rows i).pay 0) (sym (same i)))

-- all that `plan` promises, from the bounds that its prices set
pub best_plan_of : (rows : List Row) (channels : List Bool) (plan : Parts) → plan.rows ≡ rows → plan.channels ≡ channels → IsFirstFitPlan rows channels plan.assigned → Carries rows channels (is_accepted plan.assigned) (channel_at plan.assigned) → IsLawful rows channels (is_accepted plan.assigned) → plan.total ≡ pay_of rows (is_accepted plan.assigned) → ProvesBest rows (count_of channels) plan.prices plan.total → IsLeastBound rows (count_of channels) plan.prices plan.total → IsBestPlan rows channels plan
best_plan_of rows channels plan e f first carries lawful paid proof least =
    record {
      bookings = e;
      channels_of = f;
      first_fit = first;
      carried = carries;
      lawful = lawful;
      total_of = paid;
      prices_of = proof;
      best = best_from_proof rows channels plan.prices plan.total proof;
      least = least_proof rows channels plan.prices (is_accepted plan.assigned) plan.total lawful paid proof least;
    }
