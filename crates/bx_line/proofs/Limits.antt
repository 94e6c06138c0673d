-- A line of bookings is within the limits of a line.
use Rattle.std.proofs.Common.{refl, ◌≡◌, ℕ, ◌<◌, ◌≤◌, Bool, true, false, List, length, get_or, arith, inl, inr}
use Rattle.std.specs.List.Sorted.{IsStrictlyIncreasing}
use Rattle.std.proofs.lemmas.Bool.{cases_lt}
use Rattle.std.proofs.lemmas.List.Elements.{Contains-get_or}
use Rattle.bx_base.specs.Bookings.{Row, row_at, AreBookings, IsBooking}
use Rattle.bx_line.specs.declared.arc.Arc.{Arc}
use Rattle.bx_line.specs.Moments.{IsMoment, HasJustMoments}
use Rattle.bx_line.specs.Network.{IsNetwork, network_of, IsArc, IsArcOf, AreArcsOf, arc_pay}
use Rattle.bx_line.proofs.MomentLemmas.{never_falls}

pay_in_limits : (row : Row) (b : Bool) → row.must ≡ b → IsBooking row → (1 ≤ arc_pay row) × (arc_pay row ≤ 17001000000000)
pay_in_limits row true e k = rw e (omega (arith, k.paid, k.pay_limit), omega (arith, k.paid, k.pay_limit))
pay_in_limits row false e k = rw e (omega (arith, k.paid, k.pay_limit), omega (arith, k.paid, k.pay_limit))

moment_in_day : (rows : List Row) → AreBookings rows → (t : ℕ) → IsMoment rows t → t ≤ 200000
moment_in_day rows bookings t m =
    let k = bookings.each m.0 m.1 in
    elim m.2 [ inl e ↦ omega (arith, e, k.in_order, k.in_day) | inr e ↦ omega (arith, e, k.in_day) ]

arc_in_limits : (moments : List ℕ) (row : Row) (arc : Arc) → IsStrictlyIncreasing moments → IsBooking row → IsArcOf moments row arc → IsArc (length moments) arc
arc_in_limits moments row arc rising k a =
    let pay = pay_in_limits row row.must refl k in
    record {
      rising = elim (cases_lt arc.from arc.to) [ inl h ↦ h | inr h ↦ absurd (omega (arith, never_falls moments rising arc.to arc.from h a.from_within, a.from, a.to, k.in_order)) ];
      within = a.to_within;
      some_pay = omega (arith, pay.0, a.pay);
      pay_limit = omega (arith, pay.1, a.pay);
    }

pub network_in_limits : (rows : List Row) (moments : List ℕ) (arcs : List Arc) → AreBookings rows → length moments ≤ 32000 → IsStrictlyIncreasing moments → HasJustMoments rows moments → AreArcsOf moments rows arcs → IsNetwork (network_of moments arcs)
network_in_limits rows moments arcs bookings few rising just are =
    record {
      few_places = few;
      two_ends = λ some.
          let m = (just (get_or moments 0 0)).0 (Contains-get_or moments 0 0 some) in
          let arc = arc_in_limits moments (row_at rows m.0) _ rising (bookings.each m.0 m.1) (are.each m.0 m.1) in
          omega (arith, arc.rising, arc.within);
      few_rows = omega (arith, are.one_each, bookings.few);
      rising = rising;
      in_day = λ v h. moment_in_day rows bookings (get_or moments v 0) ((just (get_or moments v 0)).0 (Contains-get_or moments v 0 h));
      arcs = λ i h. let b : i < length rows = omega (arith, are.one_each) in arc_in_limits moments (row_at rows i) _ rising (bookings.each i b) (are.each i b);
    }
