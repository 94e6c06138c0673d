-- A search as it begins, and when a place is settled.
use Rattle.std.proofs.Common.{◌≡◌, ◌≢◌, ℕ, ◌+◌, ◌<◌, ◌≤◌, cond, ltb, List, [], ◌∷◌, get_or, set, replicate, ℤ, pos, ◌-ℤ◌, ◌≤ℤ◌, sym, ◌∙◌, ap, subst, arith, ◌⊎◌, inl, inr, get_or-set_same, get_or-set_other, length-set}
use Rattle.std.specs.List.{Contains}
use Rattle.std.proofs.lemmas.Int.{ints}
use Rattle.std.proofs.lemmas.Bool.{cases_lt, cases_eq}
use Rattle.std.proofs.lemmas.List.{get_or_past, get_or-replicate, length-replicate}
use Rattle.std.proofs.lemmas.List.Elements.{Contains-push, Contains-push_cases}
use Rattle.bx_base.proofs.SumLemmas.{sum_below-zero, sum_below-same_terms}
use Rattle.bx_line.specs.Network.{IsNetwork, places_of}
use Rattle.bx_dist.specs.declared.step.Step.{Step}
use Rattle.bx_dist.specs.declared.step.Step.TheVariants.{Idle}
use Rattle.bx_dist.specs.Residual.{Fits, height_at, step_from}
use Rattle.bx_dist.proofs.Ranks.{marked, marked_one, marked_none, marked_few, marks_few, ones, zero_in}
use Rattle.bx_dist.proofs.Sending.{sum_below-change}
use Rattle.bx_heap.specs.Searching.{State, Setting, IsQueued, IsSearch, IsResting, IsInHand, IsSettling, IsLeftToTake, settled_at}
use Rattle.bx_heap.proofs.Fronts.{front_settled, front_fewer}

-- the first place alone is reached
abbrev pub first_state : ℕ → ℤ → State
first_state n level =
    record { lengths = set (replicate n (pos 1)) 0 (pos 0); last = replicate n (Idle 0); ranks = replicate n 0; count = 0; level = level; tight = 0 ∷ []; fresh = []; waiting = [] }

module _ (s : Setting) (some : 0 < places_of s.line) (level : ℤ) (level_is : level ≡ (pos 0 -ℤ height_at s.heights 0)) where
  abbrev first_lengths : List ℤ
  first_lengths = set (replicate (places_of s.line) (pos 1)) 0 (pos 0)

  at_first : height_at first_lengths 0 ≡ pos 0
  at_first = get_or-set_same (replicate (places_of s.line) (pos 1)) 0 (pos 0) (pos 0) (omega (arith, length-replicate {A = ℤ} (places_of s.line) (pos 1), some))

  at_other : (v : ℕ) → v ≢ 0 → v < places_of s.line → height_at first_lengths v ≡ pos 1
  at_other v d h = get_or-set_other (replicate (places_of s.line) (pos 1)) 0 v (pos 0) (pos 0) d ∙ get_or-replicate (places_of s.line) v (pos 1) (pos 0) h

  beyond : (v : ℕ) → v ≢ 0 → places_of s.line ≤ v → height_at first_lengths v ≡ pos 0
  beyond v d h = get_or-set_other (replicate (places_of s.line) (pos 1)) 0 v (pos 0) (pos 0) d ∙ get_or_past (replicate (places_of s.line) (pos 1)) v (pos 0) (omega (arith, length-replicate {A = ℤ} (places_of s.line) (pos 1), h))

  low_first : (v : ℕ) → height_at first_lengths v ≤ℤ pos 1
  low_first v =
      elim (cases_eq v 0) [
        | inl e ↦ (let a = ap (height_at first_lengths) e in omega (arith, ints, a, at_first))
        | inr d ↦ elim (cases_lt v (places_of s.line)) [ inl h ↦ omega (arith, ints, at_other v d h) | inr h ↦ omega (arith, ints, beyond v d h) ]
      ]

  -- only the first place is reached
  is_first : (v : ℕ) → v < places_of s.line → height_at first_lengths v ≤ℤ pos 0 → v ≡ 0
  is_first v h l = elim (cases_eq v 0) [ inl e ↦ e | inr d ↦ absurd (omega (arith, ints, at_other v d h, l)) ]

  not_settled : (v : ℕ) → 0 < get_or (replicate (places_of s.line) 0) v 0 → ⊥
  not_settled v h = omega (arith, h, zero_in (places_of s.line) v)

  one_place : (v : ℕ) → Contains (0 ∷ []) v → v ≡ 0
  one_place v c = elim (Contains-push_cases [] 0 v c) [ inl a ↦ absurd (omega (arith, a.1)) | inr e ↦ sym e ]

  pub begins : IsResting s (first_state (places_of s.line) level)
  begins =
      record {
        front = record {
          lengths_each = length-set (replicate (places_of s.line) (pos 1)) 0 (pos 0) ∙ length-replicate {A = ℤ} (places_of s.line) (pos 1);
          last_each = length-replicate {A = Step} (places_of s.line) (Idle 0);
          ranks_each = length-replicate {A = ℕ} (places_of s.line) 0;
          low = low_first;
          reached = λ v h l. ([], sym (is_first v h l), (let a = ap (height_at first_lengths) (is_first v h l) in omega (arith, ints, a, at_first)));
          by = λ v d h l. absurd (d (is_first v h l));
          settled = λ v h. absurd (not_settled v h);
          ahead = λ v h l n. (let e = is_first v h l in let a = ap (height_at first_lengths) e in let b = ap (height_at s.heights) e in omega (arith, ints, a, b, at_first, level_is));
          waits = λ v h l n. subst (λ (w : ℕ). IsQueued s (first_state (places_of s.line) level) w ⊎ ⊥) (sym (is_first v h l)) (inl (inl (Contains-push [] 0)));
          taken = λ t o h. absurd (not_settled (step_from s.line t) h);
        };
        queues = record {
          tight = λ v c. (let e = one_place v c in let a = ap (height_at first_lengths) e in let b = ap (height_at s.heights) e in (omega (arith, e, some), omega (arith, ints, a, at_first), omega (arith, ints, a, b, at_first, level_is)));
          fresh = λ v c. absurd (omega (arith, c.1));
          waiting = λ n v c. absurd (omega (arith, c.1));
        };
        start = omega (arith, ints, at_first);
        counted = sym (sum_below-zero (places_of s.line) (marked (replicate (places_of s.line) 0)) (λ v h. marked_none (replicate (places_of s.line) 0) v (zero_in (places_of s.line) v)));
        low = λ v. omega (arith, zero_in (places_of s.line) v);
      }

pub count_few : (s : Setting) (st : State) (Hand : ℕ → Type 0) (Left : Step → Type 0) → IsSearch s st Hand Left → st.count ≤ places_of s.line
count_few s st Hand Left search = omega (arith, search.counted, marks_few (places_of s.line) st.ranks)

module _ (s : Setting) (network : IsNetwork s.line) (fits : Fits s.part s.line s.flow s.heights) (st : State) (place : ℕ) (hand : IsInHand s st place) where
  abbrev ranked : List ℕ
  ranked = set st.ranks place (st.count + 1)

  new_rank : get_or ranked place 0 ≡ st.count + 1
  new_rank = get_or-set_same st.ranks place (st.count + 1) 0 (omega (arith, hand.search.front.ranks_each, hand.within))

  same_rank : (v : ℕ) → v ≢ place → get_or ranked v 0 ≡ get_or st.ranks v 0
  same_rank v d = get_or-set_other st.ranks place v (st.count + 1) 0 d

  no_more : (w : ℕ) → w ≢ place → (IsQueued s st w ⊎ (w ≡ place)) → (IsQueued s (settled_at place st) w ⊎ ⊥)
  no_more w d (inl (inl c)) = inl (inl c)
  no_more w d (inl (inr (inl c))) = inl (inr (inl c))
  no_more w d (inl (inr (inr q))) = inl (inr (inr q))
  no_more w d (inr e) = absurd (d e)

  pub settling_begins : IsSettling s (settled_at place st) place (IsLeftToTake s.line place 0)
  settling_begins =
      let front = front_settled s.part s.line s.flow network s.heights fits st.lengths st.last st.ranks st.level (λ v. IsQueued s st v ⊎ (v ≡ place)) (λ _. ⊥) hand.search.front place hand.within hand.is_reached hand.fresh hand.here st.count hand.search.low (λ v. IsQueued s (settled_at place st) v ⊎ ⊥) no_more in
      let change = sum_below-change (places_of s.line) (marked ranked) (marked st.ranks) place hand.within (λ v h d. ap (λ (r : ℕ). cond {A = ℕ} (ltb 0 r) 1 0) (same_rank v d)) in
      record {
        search = record {
          front = front_fewer s.part s.line s.flow network s.heights fits st.lengths st.last ranked st.level (λ v. IsQueued s (settled_at place st) v ⊎ ⊥) (λ t. ⊥ ⊎ (step_from s.line t ≡ place)) front (IsLeftToTake s.line place 0) (λ t o l. elim l [ inl n ↦ absurd n | inr e ↦ inl (e, omega arith) ]);
          queues = record { tight = hand.search.queues.tight; fresh = hand.search.queues.fresh; waiting = hand.search.queues.waiting };
          start = hand.search.start;
          counted = omega (arith, change, hand.search.counted, marked_one ranked place (omega (arith, new_rank)), marked_none st.ranks place hand.fresh);
          low = λ v. elim (cases_eq v place) [ inl e ↦ omega (arith, ap (λ (w : ℕ). get_or ranked w 0) e, new_rank) | inr d ↦ omega (arith, same_rank v d, hand.search.low v) ];
        };
        within = hand.within;
        settled = omega (arith, new_rank);
        here = hand.here;
      }

-- where as many are settled as there are places, each is
pub all_from_count : (s : Setting) (st : State) → IsResting s st → places_of s.line ≤ st.count → (v : ℕ) → v < places_of s.line → 0 < get_or st.ranks v 0
all_from_count s st resting most v h =
    let one = sum_below-same_terms (places_of s.line) (marked st.ranks) (λ _. 1) (λ u b. marked_few st.ranks u) (omega (arith, resting.counted, most, ones (places_of s.line))) v h in
    elim (cases_lt 0 (get_or st.ranks v 0)) [ inl r ↦ r | inr r ↦ absurd (omega (arith, one, marked_none st.ranks v (omega (arith, r)))) ]
