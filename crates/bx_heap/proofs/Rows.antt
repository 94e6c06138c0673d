-- The steps along the rows on one side of the place that was settled last.
use Rattle.std.proofs.Common.{◌≡◌, ℕ, ◌+◌, ◌-◌, ◌<◌, ◌≤◌, Option, Some, None, sym, ◌∙◌, ap, subst, arith, ◌⊎◌, inl, inr}
use Rattle.std.proofs.lemmas.Bool.{cases_lt}
use Rattle.bx_line.specs.declared.incidence.Incidence.{Incidence}
use Rattle.bx_line.specs.declared.incidence.Incidence.TheVariants.{Leaving, Arriving}
use Rattle.bx_line.specs.ByPlace.{row_place, IsFirstRow}
use Rattle.bx_line.specs.Network.{IsNetwork, arc_at}
use Rattle.bx_dist.specs.declared.step.Step.{Step}
use Rattle.bx_dist.specs.declared.step.Step.TheVariants.{Idle, Back, Take, Give}
use Rattle.bx_dist.specs.Residual.{IsOpen, Fits, step_from}
use Rattle.bx_dist.specs.Search.{ShortensNothing}
use Rattle.bx_dist.proofs.Rows.{IsFrom, from_next}
use Rattle.bx_heap.specs.Searching.{State, Setting, IsSettling, IsLeftToTake, turn_on, step_turn_of, row_step, TakesOpenStep}
use Rattle.bx_heap.proofs.Searches.{settling_taken, settling_fewer}

-- a step along a row on the side is not before this one, where there is one
abbrev pub IsStillLeft : Incidence → Option ℕ → Step → Type 0
IsStillLeft side next (Idle v) = Unit {0}
IsStillLeft side next (Back v) = Unit {0}
IsStillLeft Leaving next (Take row) = IsFrom next row
IsStillLeft Arriving next (Take row) = Unit {0}
IsStillLeft Leaving next (Give row) = Unit {0}
IsStillLeft Arriving next (Give row) = IsFrom next row

module _ (s : Setting) (network : IsNetwork s.line) (fits : Fits s.part s.line s.flow s.heights) (place : ℕ) (side : Incidence) where
  -- the steps from the place whose turn has not come yet, but for those along the rows before this one
  abbrev pub IsLeftFrom : Option ℕ → Step → Type 0
  IsLeftFrom next t = IsLeftToTake s.line place (turn_on side) t × IsStillLeft side next t

  pub rows_begin : (st : State) → IsSettling s st place (IsLeftToTake s.line place (turn_on side)) → IsSettling s st place (IsLeftFrom (Some 0))
  rows_begin st settling = settling_fewer s network fits st place (IsLeftToTake s.line place (turn_on side)) (IsLeftFrom (Some 0)) settling (fewer side)
    where
      still : (d : Incidence) (t : Step) → IsOpen s.part s.line s.flow t → IsStillLeft d (Some 0) t
      still d (Idle v) o = tt
      still d (Back v) o = tt
      still Leaving (Take row) o = omega (arith, o.there.named)
      still Arriving (Take row) o = tt
      still Leaving (Give row) o = tt
      still Arriving (Give row) o = omega (arith, o.there.named)

      fewer : (d : Incidence) (t : Step) → IsOpen s.part s.line s.flow t → IsLeftToTake s.line place (turn_on d) t → (IsLeftToTake s.line place (turn_on d) t × IsStillLeft d (Some 0) t) ⊎ ShortensNothing s.line st.lengths t
      fewer d t o l = inl (l, still d t o)

  pub rows_next : (st : State) (least : ℕ) (next : Option ℕ) → IsFirstRow side s.line.arcs place least next → IsSettling s st place (IsLeftFrom (Some least)) → IsSettling s st place (IsLeftFrom next)
  rows_next st least next first settling = settling_fewer s network fits st place (IsLeftFrom (Some least)) (IsLeftFrom next) settling (λ t o l. inl (l.0, still side first t o l.0 l.1))
    where
      still : (d : Incidence) → IsFirstRow d s.line.arcs place least next → (t : Step) → IsOpen s.part s.line s.flow t → IsLeftToTake s.line place (turn_on d) t → IsStillLeft d (Some least) t → IsStillLeft d next t
      still d f (Idle v) o l h = tt
      still d f (Back v) o l h = tt
      still Leaving f (Take row) o l h = from_next Leaving s.line place least row next f o.there.named o.there.within l.0 h
      still Arriving f (Take row) o l h = tt
      still Leaving f (Give row) o l h = tt
      still Arriving f (Give row) o l h = from_next Arriving s.line place least row next f o.there.named o.there.within l.0 h

  pub rows_end : (st : State) → IsSettling s st place (IsLeftFrom None) → IsSettling s st place (IsLeftToTake s.line place (turn_on side + 1))
  rows_end st settling = settling_fewer s network fits st place (IsLeftFrom None) (IsLeftToTake s.line place (turn_on side + 1)) settling (λ t o l. inl (l.0.0, later side t l.0.1 l.1))
    where
      later : (d : Incidence) (t : Step) → turn_on d ≤ step_turn_of t → IsStillLeft d None t → turn_on d + 1 ≤ step_turn_of t
      later Leaving (Idle v) h l = omega arith
      later Arriving (Idle v) h l = omega arith
      later Leaving (Back v) h l = absurd (omega (arith, h))
      later Arriving (Back v) h l = absurd (omega (arith, h))
      later Leaving (Take row) h l = absurd l
      later Arriving (Take row) h l = omega arith
      later Leaving (Give row) h l = absurd (omega (arith, h))
      later Arriving (Give row) h l = absurd l

  row_from : (d : Incidence) (row : ℕ) → row_place d s.line.arcs row ≡ place → step_from s.line (row_step d row) ≡ place
  row_from Leaving row at = let e : row + 1 - 1 ≡ row = omega arith in ap (λ (k : ℕ). (arc_at s.line k).from) e ∙ at
  row_from Arriving row at = let e : row + 1 - 1 ≡ row = omega arith in ap (λ (k : ℕ). (arc_at s.line k).to) e ∙ at

  pub row_taken : (st t : State) (row : ℕ) → row_place side s.line.arcs row ≡ place → IsSettling s st place (IsLeftFrom (Some row)) → TakesOpenStep s (row_step side row) st t → IsSettling s t place (IsLeftFrom (Some (row + 1)))
  row_taken st t row at settling takes =
      let after = settling_taken s network fits st place (IsLeftFrom (Some row)) settling (row_step side row) (row_from side row at) t takes in
      settling_fewer s network fits t place (IsLeftFrom (Some row)) (IsLeftFrom (Some (row + 1))) after.0 (λ u o l. fewer side after.1 u o l.0 l.1)
    where
      this : (r : ℕ) → row < r → (row + 1 < r) ⊎ (r ≡ row + 1)
      this r h = elim (cases_lt (row + 1) r) [ inl a ↦ inl a | inr a ↦ inr (omega arith) ]

      fewer : (d : Incidence) → (IsOpen s.part s.line s.flow (row_step d row) → ShortensNothing s.line t.lengths (row_step d row)) → (u : Step) → IsOpen s.part s.line s.flow u → IsLeftToTake s.line place (turn_on d) u → IsStillLeft d (Some row) u → (IsLeftToTake s.line place (turn_on d) u × IsStillLeft d (Some (row + 1)) u) ⊎ ShortensNothing s.line t.lengths u
      fewer d done (Idle v) o l h = inl (l, tt)
      fewer d done (Back v) o l h = inl (l, tt)
      fewer Arriving done (Take r) o l h = inl (l, tt)
      fewer Leaving done (Give r) o l h = inl (l, tt)
      fewer Leaving done (Take r) o l h =
          elim (this r h) [
            | inl a ↦ inl (l, a)
            | inr e ↦ inr (subst (λ (q : ℕ). IsOpen s.part s.line s.flow (Take q) → ShortensNothing s.line t.lengths (Take q)) (sym e) done o)
          ]
      fewer Arriving done (Give r) o l h =
          elim (this r h) [
            | inl a ↦ inl (l, a)
            | inr e ↦ inr (subst (λ (q : ℕ). IsOpen s.part s.line s.flow (Give q) → ShortensNothing s.line t.lengths (Give q)) (sym e) done o)
          ]
