-- A day has the bookings of its plan; and first fit is one colouring of its marks.
use Rattle.std.proofs.Common.{◌≡◌, ℕ, suc, ◌+◌, ◌<◌, Bool, List, [], ◌∷◌, length, Option, None, arith, refl, sym, ap₂, ◌∙◌, slice_index_or}
use Rattle.bx_base.specs.Bookings.{Row, row_at, AreBookings, Carries}
use Rattle.bx_base.specs.Plans.{is_accepted, channel_at}
use Rattle.bx_colour.specs.Colouring.{IsFirstFit}
use Rattle.bx_colour.proofs.FirstFitStays.{channels_stay}
use Rattle.bx_day.specs.Day.{opening}
use Rattle.bx_day.specs.Outages.{live_day_after}
use Rattle.bx_events.specs.Events.{LiveEvent}
use Rattle.bx_sales.specs.Selling.{rows_of}
use Rattle.bx_sales.proofs.GoneOn.{same_rows}
use Rattle.bx_sales.proofs.PlanDays.{size, frame_at}

-- ---- lists, index by index

pub same_channels : (xs ys : List (Option ℕ)) → length xs ≡ length ys → ((i : ℕ) → i < length ys → slice_index_or xs i None ≡ slice_index_or ys i None) → xs ≡ ys
same_channels [] [] count same = refl
same_channels [] (y ∷ ys) count same = absurd (omega (arith, count))
same_channels (x ∷ xs) [] count same = absurd (omega (arith, count))
same_channels (x ∷ xs) (y ∷ ys) count same = ap₂ (λ z zs. z ∷ zs) (same 0 (omega arith)) (same_channels xs ys (omega (arith, count)) (λ i lt. same (suc i) (omega (arith, lt))))

-- ---- first fit is one colouring

pub once : (rows : List Row) (channels accepted : List Bool) (assigned last : List (Option ℕ)) → IsFirstFit rows channels accepted assigned → IsFirstFit rows channels accepted last → assigned ≡ last
once rows channels accepted assigned last first second = same_channels assigned last (first.one_each ∙ sym second.one_each) (λ i inside.
    let lt : i < length rows = omega (arith, inside, second.one_each) in
    channels_stay ((row_at rows i).start + 1) rows rows channels accepted accepted last assigned (record {
      first = second;
      second = first;
      longer = omega arith;
      same = λ k less. record { start = refl; end = refl; pay = refl; number = refl; inward = refl };
      marks = λ k less early. refl;
      later = λ k low less. absurd (omega (arith, low, less));
    }) i lt (omega arith))

-- ---- the day has its plan

pub rows_now : (rows : List Row) (channels : List Bool) (assigned : List (Option ℕ)) (events : List LiveEvent) → AreBookings rows → Carries rows channels (is_accepted assigned) (channel_at assigned) → rows_of (live_day_after events (opening rows assigned)) ≡ rows
rows_now rows channels assigned events bookings carries = same_rows (live_day_after events (opening rows assigned)).entries rows (size rows channels assigned events bookings carries) (λ i lt. (frame_at rows channels assigned events bookings carries i lt).booking)
