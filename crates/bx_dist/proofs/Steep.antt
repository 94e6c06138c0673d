-- Potentials that fall from place to place by as much as any arc pays fit where nothing is carried.
use Rattle.std.proofs.Common.{◌≡◌, ℕ, ◌+◌, ◌-◌, ◌*◌, ◌<◌, List, [], ◌∷◌, ◌++◌, length, ℤ, pos, neg_ℤ, refl, sym, ◌∙◌, ap, arith, inl, inr}
use Rattle.std.proofs.lemmas.Int.{ints}
use Rattle.std.proofs.lemmas.Bool.{cases_lt}
use Rattle.std.proofs.lemmas.List.{get_or_append_left, get_or_push, length_push}
use Rattle.bx_line.specs.Network.{Network, IsNetwork, places_of, gaps_of}
use Rattle.bx_dist.specs.declared.part.Part.TheVariants.{Whole}
use Rattle.bx_dist.specs.declared.step.Step.TheVariants.{Idle, Back, Take, Give}
use Rattle.bx_dist.specs.Residual.{Fits, ArePotentials, height_at, row_arc}
use Rattle.bx_dist.specs.Sending.{empty_flow}
use Rattle.bx_dist.proofs.Sending.{empty_is_flow, nothing_idle, nothing_carried}
use Rattle.bx_dist.proofs.After.{row_within}

-- each of the first n places is lower by 17,001,000,000,000 than the one before
pub record AreSteep (n : ℕ) (heights : List ℤ) : Type 0 where
  pub size : length heights ≡ n
  pub each : (v : ℕ) → v < n → height_at heights v ≡ neg_ℤ (pos (17001000000000 * v))

pub steep_none : AreSteep 0 []
steep_none = record { size = refl; each = λ v h. absurd (omega arith) }

pub steep_more : (n : ℕ) (heights : List ℤ) (z : ℤ) → z ≡ neg_ℤ (pos (17001000000000 * n)) → AreSteep n heights → AreSteep (n + 1) (heights ++ z ∷ [])
steep_more n heights z e s =
    record {
      size = omega (arith, length_push heights z, s.size);
      each = λ v h. elim (cases_lt v n) [
        | inl a ↦ get_or_append_left heights (z ∷ []) (pos 0) v (omega (arith, s.size)) ∙ s.each v a
        | inr a ↦ (let i : v ≡ n = omega arith in get_or_push heights z (pos 0) v (omega (arith, s.size)) ∙ (e ∙ ap (λ (k : ℕ). neg_ℤ (pos (17001000000000 * k))) (sym i)))
      ];
    }

module _ (line : Network) (network : IsNetwork line) (heights : List ℤ) (steep : AreSteep (places_of line) heights) where
  steep_fits : Fits Whole line (empty_flow line) heights
  steep_fits (Idle v) o = omega (arith, ints, steep.each v (omega arith), steep.each (v + 1) o)
  steep_fits (Back v) o = absurd (omega (arith, o.1, nothing_idle (gaps_of line) v))
  steep_fits (Take row) o =
      let a = row_within Whole line network row o.there in
      omega (arith, ints, a.rising, a.within, a.pay_limit, steep.each (row_arc line row).from (omega (arith, a.rising, a.within)), steep.each (row_arc line row).to a.within)
  steep_fits (Give row) o = (let none = nothing_carried (length line.arcs) (row - 1) in cc (o.state))

  pub steep_potentials : ArePotentials line (empty_flow line) heights
  steep_potentials = record { one_each = steep.size; sized = (empty_is_flow line network).sized; fits = steep_fits }
