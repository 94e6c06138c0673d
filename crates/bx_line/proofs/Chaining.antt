-- Chains made from the last row on.
use Rattle.std.proofs.Common.{◌≡◌, ◌≢◌, ℕ, ◌+◌, ◌<◌, ◌≤◌, List, length, set, replicate, Option, Some, None, sym, ◌∙◌, ap, subst, arith, inl, inr, get_or-set_same, get_or-set_other, length-set}
use Rattle.std.proofs.lemmas.Bool.{cases_lt, cases_eq}
use Rattle.std.proofs.lemmas.List.{get_or_past, get_or-replicate, length-replicate}
use Rattle.bx_line.specs.declared.arc.Arc.{Arc}
use Rattle.bx_line.specs.declared.incidence.Incidence.{Incidence}
use Rattle.bx_line.specs.ByPlace.{row_place, IsFirstRow, row_in, AreChains}

-- the same of the rows from n on
pub record AreChained (side : Incidence) (arcs : List Arc) (places n : ℕ) (first next : List (Option ℕ)) : Type 0 where
  pub few : n ≤ length arcs
  pub first_each : length first ≡ places
  pub next_each : length next ≡ length arcs
  pub begins : (v : ℕ) → v < places → IsFirstRow side arcs v n (row_in first v)
  pub goes_on : (r : ℕ) → n ≤ r → r < length arcs → IsFirstRow side arcs (row_place side arcs r) (r + 1) (row_in next r)

none_in : (n v : ℕ) → row_in (replicate n None) v ≡ None
none_in n v = elim (cases_lt v n) [ inl h ↦ get_or-replicate n v None None h | inr h ↦ get_or_past (replicate n None) v None (omega (arith, length-replicate {A = Option ℕ} n None)) ]

pub chained_none : (side : Incidence) (arcs : List Arc) (places : ℕ) → AreChained side arcs places (length arcs) (replicate places None) (replicate (length arcs) None)
chained_none side arcs places =
    record {
      few = omega arith;
      first_each = length-replicate {A = Option ℕ} places None;
      next_each = length-replicate {A = Option ℕ} (length arcs) None;
      begins = λ v h. record {
        none = λ _ k a b. absurd (omega (arith, a, b));
        there = λ r e. (let none = none_in places v in cc);
        before = λ r e. (let none = none_in places v in cc);
      };
      goes_on = λ r a b. absurd (omega (arith, a, b));
    }

module _ (side : Incidence) (arcs : List Arc) (places n : ℕ) (first next : List (Option ℕ)) (chained : AreChained side arcs places (n + 1) first next) (place : ℕ) (place_is : place ≡ row_place side arcs n) (within : place < places) where
  -- the row is now the first of its place
  new_first : IsFirstRow side arcs place n (Some n)
  new_first =
      record {
        none = λ e. cc;
        there = λ r e. let same : n ≡ r = cc in rw (← same) (omega arith, omega (arith, chained.few), sym place_is);
        before = λ r e k a b. let same : n ≡ r = cc in absurd (omega (arith, same, a, b));
      }

  -- and that of no other place
  other_first : (v : ℕ) (o : Option ℕ) → v ≢ place → IsFirstRow side arcs v (n + 1) o → IsFirstRow side arcs v n o
  other_first v o d f =
      let apart : (k : ℕ) → k ≡ n → row_place side arcs k ≢ v = λ k e p. d (sym p ∙ (ap (row_place side arcs) e ∙ sym place_is)) in
      record {
        none = λ e k a b. elim (cases_lt n k) [ inl h ↦ f.none e k (omega arith) b | inr h ↦ apart k (omega arith) ];
        there = λ r e. (let t = f.there r e in (omega (arith, t.0), t.1, t.2));
        before = λ r e k a b. elim (cases_lt n k) [ inl h ↦ f.before r e k (omega arith) b | inr h ↦ apart k (omega arith) ];
      }

  pub chained_more : AreChained side arcs places n (set first place (Some n)) (set next n (row_in first place))
  chained_more =
      let here : n < length arcs = omega (arith, chained.few) in
      record {
        few = omega (arith, chained.few);
        first_each = length-set first place (Some n) ∙ chained.first_each;
        next_each = length-set next n (row_in first place) ∙ chained.next_each;
        begins = λ v h. elim (cases_eq v place) [
          | inl e ↦ rw e (subst (IsFirstRow side arcs place n) (sym (get_or-set_same first place (Some n) None (omega (arith, chained.first_each)))) new_first)
          | inr d ↦ subst (IsFirstRow side arcs v n) (sym (get_or-set_other first place v (Some n) None d)) (other_first v (row_in first v) d (chained.begins v h))
        ];
        goes_on = λ r a b. elim (cases_eq r n) [
          | inl e ↦ rw e (subst (IsFirstRow side arcs (row_place side arcs n) (n + 1)) (sym (get_or-set_same next n (row_in first place) None (omega (arith, chained.next_each)))) (subst (λ (v : ℕ). IsFirstRow side arcs v (n + 1) (row_in first place)) place_is (chained.begins place within)))
          | inr d ↦ subst (IsFirstRow side arcs (row_place side arcs r) (r + 1)) (sym (get_or-set_other next n r (row_in first place) None d)) (chained.goes_on r (omega (arith, d, a)) b)
        ];
      }

pub chains_from_chained : (side : Incidence) (arcs : List Arc) (places n : ℕ) (first next : List (Option ℕ)) → n ≡ 0 → AreChained side arcs places n first next → AreChains side arcs places first next
chains_from_chained side arcs places n first next e c =
    let all = subst (λ (m : ℕ). AreChained side arcs places m first next) e c in
    record { first_each = all.first_each; next_each = all.next_each; begins = all.begins; goes_on = λ r h. all.goes_on r (omega arith) h }
