-- Which bookings a day has accepted, by the channels of its plan.
use Rattle.std.proofs.Common.{◌≡◌, ℕ, suc, ◌<◌, not, Bool, true, false, List, [], ◌∷◌, map, is_some, length, get_or, Option, arith, refl, sym, ap, ap₂, ◌∙◌}
use Rattle.std.proofs.lemmas.List.{length-map}
use Rattle.bx_base.specs.Bookings.{Row, AreBookings, Carries}
use Rattle.bx_base.specs.Plans.{is_accepted, channel_at}
use Rattle.bx_colour.specs.Colouring.{IsFirstFit, is_in}
use Rattle.bx_colour.proofs.FirstFitStays.{marked}
use Rattle.bx_day.specs.Day.{opening}
use Rattle.bx_day.specs.Outages.{live_day_after}
use Rattle.bx_events.specs.Events.{LiveEvent}
use Rattle.bx_sales.proofs.PlanDays.{size, frame_at}
use Rattle.bx_sales.proofs.Fitting.{marked_so}
use Rattle.bx_sales.proofs.GoneOn.{same_marks}
use Rattle.bx_sales.specs.Selling.{marks_of}

twice_not : (b : Bool) → not (not b) ≡ b
twice_not true = refl
twice_not false = refl

pub same_bools : (xs ys : List Bool) → length xs ≡ length ys → ((i : ℕ) → i < length ys → get_or xs i false ≡ get_or ys i false) → xs ≡ ys
same_bools [] [] count same = refl
same_bools [] (y ∷ ys) count same = absurd (omega (arith, count))
same_bools (x ∷ xs) [] count same = absurd (omega (arith, count))
same_bools (x ∷ xs) (y ∷ ys) count same = ap₂ (λ z zs. z ∷ zs) (same 0 (omega arith)) (same_bools xs ys (omega (arith, count)) (λ i lt. same (suc i) (omega (arith, lt))))

pub marks_plain : (rows : List Row) (channels : List Bool) (assigned : List (Option ℕ)) (events : List LiveEvent) → length assigned ≡ length rows → AreBookings rows → Carries rows channels (is_accepted assigned) (channel_at assigned) → marks_of (live_day_after events (opening rows assigned)) ≡ map is_some assigned
marks_plain rows channels assigned events count bookings carries =
    let n : length (map is_some assigned) ≡ length assigned = length-map assigned is_some in
    same_marks (live_day_after events (opening rows assigned)).entries (map is_some assigned) (size rows channels assigned events bookings carries ∙ sym (n ∙ count)) (λ i inside.
    let lt : i < length rows = omega (arith, inside, n, count) in
    ap not (frame_at rows channels assigned events bookings carries i lt).accepted ∙ twice_not (is_accepted assigned i) ∙ sym (marked_so assigned i))

pub first_fit_marks : (rows : List Row) (channels accepted : List Bool) (assigned : List (Option ℕ)) → length accepted ≡ length rows → IsFirstFit rows channels accepted assigned → map is_some assigned ≡ accepted
first_fit_marks rows channels accepted assigned count fit =
    let n : length (map is_some assigned) ≡ length assigned = length-map assigned is_some in
    same_bools (map is_some assigned) accepted (n ∙ fit.one_each ∙ sym count) (λ i inside. marked_so assigned i ∙ marked rows channels accepted assigned i (is_in accepted i) fit refl (omega (arith, inside, count)))
