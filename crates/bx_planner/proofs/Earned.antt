-- What so many channels would earn, from a best choice for them.
use Rattle.std.proofs.Common.{◌∙◌, ◌≡◌, ℕ, ◌+◌, ◌<◌, ◌≤◌, Bool, List, [], ◌∷◌, ◌++◌, Ok, length, get_or, refl, sym, subst, arith, inl, inr}
use Rattle.std.proofs.lemmas.Bool.{cases_lt}
use Rattle.std.proofs.lemmas.List.{length_push, get_or_append_left, get_or_push}
use Rattle.bx_planner.specs.declared.earnings.Earning.{Earning}
use Rattle.bx_base.specs.Bookings.{Row, AreBookings, IsLawful, pay_of}
use Rattle.bx_base.specs.Bound.{Charge, sum_of_prices}
use Rattle.bx_base.specs.Channels.{count_of}
use Rattle.bx_base.specs.PlanParts.{Parts}
use Rattle.bx_base.specs.Plans.{is_accepted}
use Rattle.bx_check.specs.Check.{IsOutcome}
use Rattle.bx_check.proofs.Sound.{sound-best, sound-lawful}
use Rattle.bx_colour.specs.Colouring.{is_in}
use Rattle.bx_planner.specs.declared.earnings.Earning.TheVariants.{Most, TooFew}
use Rattle.bx_planner.specs.Capacity.{IsMostPaid}
use Rattle.bx_planner.specs.Earnings.{IsEarning, AreEarnings}
use Rattle.bx_planner.specs.Inside.{IsBestChoice}
use Rattle.bx_planner.specs.Musts.{musts_at}
use Rattle.bx_planner.proofs.Chosen.{best_from_proof}
use Rattle.bx_planner.proofs.FewMusts.{few_musts}
use Rattle.bx_planner.proofs.SamePrices.{least_proof}
use Rattle.bx_planner.proofs.EnoughRoom.{carried_from_room}
use Rattle.bx_planner.proofs.MostPaid.{most_paid}

module _ (rows : List Row) (accepted : List Bool) (prices : List Charge) (bookings : AreBookings rows) (channels : List Bool) (choice : IsBestChoice rows (count_of channels) accepted prices) where
  chosen_lawful : IsLawful rows channels (is_in accepted)
  chosen_lawful = record {
    carried = carried_from_room rows channels (is_in accepted) (λ i h. (bookings.each i h).in_order) choice.enough 200000 (λ i h. let b = bookings.each i h in let o = b.in_order in let e = b.in_day in omega (arith, o, e));
    has_musts = choice.musts;
  }

  earned_now : IsMostPaid rows channels (pay_of rows (is_in accepted))
  earned_now = record {
    set = is_in accepted;
    lawful = chosen_lawful;
    pays = refl;
    best = best_from_proof rows channels prices (pay_of rows (is_in accepted)) choice.proof;
  }

  earned_next : (more : List Bool) → count_of more ≡ count_of channels + 1 → IsMostPaid rows more (pay_of rows (is_in accepted) + sum_of_prices prices)
  earned_next more one = most_paid rows channels more prices (is_in accepted) bookings (least_proof rows channels prices (is_in accepted) (pay_of rows (is_in accepted)) chosen_lawful refl choice.proof choice.least) one

pub earned : (rows : List Row) (count : ℕ) (accepted : List Bool) (prices : List Charge) (total next : ℕ) → AreBookings rows → IsBestChoice rows count accepted prices → total ≡ pay_of rows (is_in accepted) → next ≡ sum_of_prices prices → IsEarning rows count (Most total next)
earned rows count accepted prices total next bookings choice paid summed =
    λ channels e.
    let here = subst (λ (n : ℕ). IsBestChoice rows n accepted prices) (sym e) choice in
    rw (paid, summed) (earned_now rows accepted prices bookings channels here, λ more one. earned_next rows accepted prices bookings channels here more (omega (arith, one, e)))

-- the same of the total of a plan that the checker proves
pub earned_beside : (plan : Parts) (accepted : List Bool) (prices : List Charge) (next : ℕ) → AreBookings plan.rows → IsOutcome plan.rows plan.channels plan (Ok plan.total) → IsBestChoice plan.rows (count_of plan.channels) accepted prices → next ≡ sum_of_prices prices → IsEarning plan.rows (count_of plan.channels) (Most plan.total next)
earned_beside plan accepted prices next bookings proved choice summed =
    let chosen = chosen_lawful plan.rows accepted prices bookings plan.channels choice in
    let above = sound-best plan.rows plan.channels plan plan.total proved.0 (sym proved.3) (is_in accepted) chosen in
    let below = best_from_proof plan.rows plan.channels prices (pay_of plan.rows (is_in accepted)) choice.proof (is_accepted plan.assigned) (sound-lawful plan.rows plan.channels plan proved.0) in
    let paid : plan.total ≡ pay_of plan.rows (is_accepted plan.assigned) = proved.1 in
    earned plan.rows (count_of plan.channels) accepted prices plan.total next bookings choice (omega (arith, above, below, paid)) summed

-- at no moment more must rows run than such a plan has channels
pub musts_fit : (plan : Parts) → IsOutcome plan.rows plan.channels plan (Ok plan.total) → (t : ℕ) → musts_at plan.rows t ≤ count_of plan.channels
musts_fit plan proved = few_musts plan.rows plan.channels (is_accepted plan.assigned) (sound-lawful plan.rows plan.channels plan proved.0)

pub too_few : (rows : List Row) (count moment : ℕ) (load : ℕ → ℕ) → ((t : ℕ) → load t ≡ musts_at rows t) → count < load moment → ((s : ℕ) → s < moment → load s ≤ count) → IsEarning rows count (TooFew moment)
too_few rows count moment load all here least =
    λ channels e. record { here = omega (arith, here, all moment, e); least = λ s h. omega (arith, least s h, all s, e) }

-- one earning more
pub more_earned : (rows : List Row) (earnings : List Earning) (earning : Earning) (count : ℕ) → length earnings ≡ count → ((k : ℕ) (d : Earning) → k < count → IsEarning rows k (get_or earnings k d)) → IsEarning rows count earning → (k : ℕ) (d : Earning) → k < count + 1 → IsEarning rows k (get_or (earnings ++ earning ∷ []) k d)
more_earned rows earnings earning count size before now k d h =
    elim (cases_lt k count) [
      | inl a ↦ rw (get_or_append_left earnings (earning ∷ []) d k (omega (arith, a, size))) (before k d a)
      | inr a ↦ (let e : count ≡ k = omega arith in rw (get_or_push earnings earning d k (size ∙ e), ← e) now)
    ]

-- the list with the last count
pub all_earned : (rows : List Row) (earnings : List Earning) (last : Earning) (items : List Earning) → length earnings ≡ 30 → ((k : ℕ) (d : Earning) → k < 30 → IsEarning rows k (get_or earnings k d)) → IsEarning rows 30 last → items ≡ earnings ++ last ∷ [] → AreEarnings rows items
all_earned rows earnings last items size each whole e =
    rw e (record { counts = omega (arith, length_push earnings last, size); each = more_earned rows earnings last 30 size each whole })
