-- An amended plan extends the plan before. A row that a best plan refuses stays refused, since its pay would have made the plan before
-- better: what the longer plan accepts of the old rows is a lawful choice of them.
use Rattle.std.proofs.Common.{◌≡◌, ℕ, ◌+◌, ◌-◌, ◌<◌, ◌≤◌, Bool, true, false, cond, List, length, Option, arith, refl, sym, subst, ◌∙◌}
use Rattle.std.proofs.lemmas.Bool.{true≢false, false_from_ne_true}
use Rattle.bx_base.specs.Bookings.{Row, row_at, Overlap, AreBookings, Carries, IsLawful}
use Rattle.bx_base.specs.Extending.{IsSameBooking, Extends}
use Rattle.bx_base.specs.PlanParts.{Parts}
use Rattle.bx_base.specs.Plans.{is_accepted, channel_at}
use Rattle.bx_colour.specs.Colouring.{is_in}
use Rattle.bx_colour.proofs.FirstFitStays.{extends}
use Rattle.bx_planner.specs.Amending.{promised_in_plan, amended, IsBestPlan, KeepsPromises}
use Rattle.bx_planner.specs.Choices.{IsBest, IsFirstFitPlan}
use Rattle.bx_planner.specs.Extending.{IsBestFirstFit, StartFrom}
use Rattle.bx_planner.proofs.AllMusts.{short_sum}
use Rattle.bx_planner.proofs.Amended.{length_amended, row_earlier, row_later}

-- what is accepted pays, and so does more
pay_rises : (a b : Bool) (pay : ℕ) → (a ≡ true → b ≡ true) → cond a pay 0 ≤ cond b pay 0
pay_rises true true pay h = omega arith
pay_rises true false pay h = absurd (true≢false (sym (h refl)))
pay_rises false b pay h = omega arith

pay_more : (a b : Bool) (pay : ℕ) → a ≡ false → b ≡ true → 1 ≤ pay → cond a pay 0 + 1 ≤ cond b pay 0
pay_more false true pay h k one = omega (arith, one)
pay_more true b pay h k one = absurd (true≢false h)
pay_more false false pay h k one = absurd (true≢false (sym k))

by_mark : (a b : Bool) → (a ≡ true → b ≡ true) → (a ≡ false → b ≡ true → ⊥) → b ≡ a
by_mark true b f g = f refl
by_mark false b f g = false_from_ne_true b (g refl)

module _ (m : ℕ) (rows more : List Row) (channels : List Bool) (assigned after : List (Option ℕ)) (bookings : AreBookings rows) (before : IsBestFirstFit rows channels assigned) (first_fit : IsFirstFitPlan (amended rows assigned more) channels after) (carries : Carries (amended rows assigned more) channels (is_accepted after) (channel_at after)) (kept : KeepsPromises rows assigned after) (starts : StartFrom m more) where
  abbrev all : List Row
  all = amended rows assigned more

  longer : length rows ≤ length all
  longer = let n = length_amended rows assigned more in omega (arith, n)

  same_row : (i : ℕ) → i < length rows → IsSameBooking (row_at rows i) (row_at all i)
  same_row i lt = subst (IsSameBooking (row_at rows i)) (sym (row_earlier rows assigned more i lt)) (record { start = refl; end = refl; pay = refl; number = refl; inward = refl })

  overlap_there : (i j : ℕ) → i < length rows → j < length rows → Overlap (row_at rows i) (row_at rows j) → Overlap (row_at all i) (row_at all j)
  overlap_there i j li lj o = subst (λ (a : Row). Overlap a (row_at all j)) (sym (row_earlier rows assigned more i li)) (subst (Overlap (promised_in_plan (row_at rows i) (is_accepted assigned i))) (sym (row_earlier rows assigned more j lj)) o)

  -- what the longer plan accepts of the old rows is a lawful choice of them
  old_lawful : IsLawful rows channels (is_accepted after)
  old_lawful = record {
    carried = (
      channel_at after,
      record {
        in_service = λ i lt a. carries.in_service i (omega (arith, lt, longer)) a;
        apart = λ i j lt lj a b o. carries.apart i j lt (omega (arith, lj, longer)) a b (overlap_there i j (omega (arith, lt, lj)) lj o);
      },
    );
    has_musts = λ i lt must. kept i lt (before.lawful.has_musts i lt must);
  }

  -- so it pays no more than the plan before
  refused_stays : (i : ℕ) → i < length rows → is_accepted assigned i ≡ false → is_accepted after i ≡ true → ⊥
  refused_stays i lt out now =
      let le = before.best (is_accepted after) old_lawful in
      let less = short_sum (length rows) (λ k. cond (is_accepted assigned k) (row_at rows k).pay 0) (λ k. cond (is_accepted after k) (row_at rows k).pay 0) i 1
      (λ k inside. pay_rises (is_accepted assigned k) (is_accepted after k) (row_at rows k).pay (kept k inside)) lt
      (pay_more (is_accepted assigned i) (is_accepted after i) (row_at rows i).pay out now (bookings.each i lt).paid) in
      omega (arith, le, less)

  accepted_same : (i : ℕ) → i < length rows → is_accepted after i ≡ is_accepted assigned i
  accepted_same i lt = by_mark (is_accepted assigned i) (is_accepted after i) (kept i lt) (refused_stays i lt)

  new_later : (i : ℕ) → length rows ≤ i → i < length all → m ≤ (row_at all i).start
  new_later i low lt =
      let n = length_amended rows assigned more in
      subst (λ (b : Row). m ≤ b.start) (sym (row_later rows assigned more i low)) (starts (i - length rows) (omega (arith, low, lt, n)))

  pub amended_extends : Extends m rows assigned all after
  amended_extends = extends m rows all channels before.first_fit.0 first_fit.0 assigned after (record {
    first = before.first_fit.1;
    second = first_fit.1;
    longer = longer;
    same = same_row;
    marks = λ i lt early. marks i lt;
    later = new_later;
  }) marks
    where
      marks : (i : ℕ) → i < length rows → is_in first_fit.0 i ≡ is_in before.first_fit.0 i
      marks i lt = sym (first_fit.2 i) ∙ accepted_same i lt ∙ before.first_fit.2 i

-- a best plan, as `plan` and `amend` make them
pub best_first_fit : (rows : List Row) (channels : List Bool) (plan : Parts) → IsBestPlan rows channels plan → IsBestFirstFit rows channels plan.assigned
best_first_fit rows channels plan h = record { first_fit = h.first_fit; lawful = h.lawful; best = subst (IsBest rows channels) h.total_of h.best }
