-- Places that wait, and the nearest of them.
use Rattle.std.proofs.Common.{◌≡◌, ℕ, ◌<◌, ◌≤◌, List, [], ◌∷◌, length, get_or, Option, Some, None, ℤ, pos, ◌≤ℤ◌, sym, ◌∙◌, ap, subst, arith, ◌⊎◌, inl, inr}
use Rattle.std.specs.List.{Contains}
use Rattle.std.specs.List.Sorted.{IsPermutation}
use Rattle.std.proofs.lemmas.Int.{ints}
use Rattle.std.proofs.lemmas.List.Sorted.{Contains-permutation, IsPermutation-sym}
use Rattle.bx_base.proofs.SumLemmas.{sum_below-same}
use Rattle.bx_line.specs.Network.{IsNetwork, places_of}
use Rattle.bx_dist.specs.declared.step.Step.{Step}
use Rattle.bx_dist.specs.Residual.{Fits, height_at}
use Rattle.bx_dist.proofs.Ranks.{marked, marked_one, ones}
use Rattle.bx_heap.specs.Frontier.{reduced, IsFront}
use Rattle.bx_heap.specs.Nearness.{IsNearest}
use Rattle.bx_heap.specs.Searching.{State, Setting, nearness_at, IsQueued, IsResting, IsInHand}
use Rattle.bx_heap.proofs.Fronts.{front_raised, all_settled}
use Rattle.bx_heap.proofs.Lists.{Contains-head, Contains-tail, Contains-cons_cases}

-- the same places wait elsewhere
requeued : (s : Setting) (lengths : List ℤ) (last : List Step) (ranks : List ℕ) (level : ℤ) (Waits More : ℕ → Type 0) → IsFront s.part s.line s.flow s.heights lengths last ranks level Waits (λ _. ⊥) → ((v : ℕ) → get_or ranks v 0 ≡ 0 → Waits v → More v) → IsFront s.part s.line s.flow s.heights lengths last ranks level More (λ _. ⊥)
requeued s lengths last ranks level Waits More front more =
    record { lengths_each = front.lengths_each; last_each = front.last_each; ranks_each = front.ranks_each; low = front.low; reached = front.reached; by = front.by; settled = front.settled; ahead = front.ahead; waits = λ v h l n. more v n (front.waits v h l n); taken = front.taken }

in_none : {X : Type 0} (xs : List X) (x : X) → xs ≡ [] → Contains xs x → ⊥
in_none xs x e c = omega (arith, c.1, ap length e)

this_one : (place v : ℕ) → Some place ≡ Some v → v ≡ place
this_one place v e = cc

module _ (s : Setting) (st : State) (resting : IsResting s st) where
  module _ (places : List ℕ) (o : Option ℕ) where
    -- a list without the places that were taken from it
    pub record IsTaken (old : List ℕ) : Type 0 where
      pub kept : (v : ℕ) → Contains old v → get_or st.ranks v 0 ≡ 0 → Contains places v ⊎ (o ≡ Some v)
      pub only : (v : ℕ) → Contains places v → Contains old v

  pub tight_next : (tight : List ℕ) (place : ℕ) → IsTaken tight (Some place) st.tight → Contains st.tight place → get_or st.ranks place 0 ≡ 0 → IsInHand s (record st { tight = tight }) place
  tight_next tight place taken there fresh =
      let q = resting.queues.tight place there in
      record {
        search = record {
          front = requeued s st.lengths st.last st.ranks st.level (λ v. IsQueued s st v ⊎ ⊥) (λ v. IsQueued s (record st { tight = tight }) v ⊎ (v ≡ place)) resting.front more;
          queues = record { tight = λ v c. resting.queues.tight v (taken.only v c); fresh = resting.queues.fresh; waiting = resting.queues.waiting };
          start = resting.start;
          counted = resting.counted;
          low = resting.low;
        };
        within = q.0;
        is_reached = q.1;
        fresh = fresh;
        here = omega (arith, ints, q.2, resting.front.ahead place q.0 q.1 fresh);
      }
    where
      more : (v : ℕ) → get_or st.ranks v 0 ≡ 0 → (IsQueued s st v ⊎ ⊥) → (IsQueued s (record st { tight = tight }) v ⊎ (v ≡ place))
      more v n (inl (inl c)) = elim (taken.kept v c n) [ inl a ↦ inl (inl a) | inr e ↦ inr (this_one place v e) ]
      more v n (inl (inr (inl c))) = inl (inr (inl c))
      more v n (inl (inr (inr c))) = inl (inr (inr c))
      more v n (inr h) = absurd h

  pub tight_none : (tight : List ℕ) → IsTaken tight None st.tight → IsResting s (record st { tight = tight })
  tight_none tight taken =
      record {
        front = requeued s st.lengths st.last st.ranks st.level (λ v. IsQueued s st v ⊎ ⊥) (λ v. IsQueued s (record st { tight = tight }) v ⊎ ⊥) resting.front more;
        queues = record { tight = λ v c. resting.queues.tight v (taken.only v c); fresh = resting.queues.fresh; waiting = resting.queues.waiting };
        start = resting.start;
        counted = resting.counted;
        low = resting.low;
      }
    where
      more : (v : ℕ) → get_or st.ranks v 0 ≡ 0 → (IsQueued s st v ⊎ ⊥) → (IsQueued s (record st { tight = tight }) v ⊎ ⊥)
      more v n (inl (inl c)) = elim (taken.kept v c n) [ inl a ↦ inl (inl a) | inr e ↦ cc ]
      more v n (inl (inr (inl c))) = inl (inr (inl c))
      more v n (inl (inr (inr c))) = inl (inr (inr c))
      more v n (inr h) = absurd h

  pub fresh_none : (fresh : List ℕ) → IsTaken fresh None st.fresh → IsResting s (record st { fresh = fresh })
  fresh_none fresh taken =
      record {
        front = requeued s st.lengths st.last st.ranks st.level (λ v. IsQueued s st v ⊎ ⊥) (λ v. IsQueued s (record st { fresh = fresh }) v ⊎ ⊥) resting.front more;
        queues = record { tight = resting.queues.tight; fresh = λ v c. resting.queues.fresh v (taken.only v c); waiting = resting.queues.waiting };
        start = resting.start;
        counted = resting.counted;
        low = resting.low;
      }
    where
      more : (v : ℕ) → get_or st.ranks v 0 ≡ 0 → (IsQueued s st v ⊎ ⊥) → (IsQueued s (record st { fresh = fresh }) v ⊎ ⊥)
      more v n (inl (inl c)) = inl (inl c)
      more v n (inl (inr (inl c))) = elim (taken.kept v c n) [ inl a ↦ inl (inr (inl a)) | inr e ↦ cc ]
      more v n (inl (inr (inr c))) = inl (inr (inr c))
      more v n (inr h) = absurd h

  -- a fresh place is put into the heap
  pub filed : (fresh : List ℕ) (waiting : List (ℕ × ℕ)) (place n : ℕ) → IsTaken fresh (Some place) st.fresh → Contains st.fresh place → pos n ≡ nearness_at s.heights st.lengths place → IsPermutation ((n, place) ∷ st.waiting) waiting → IsResting s (record st { fresh = fresh; waiting = waiting })
  filed fresh waiting place n taken there near moved =
      record {
        front = requeued s st.lengths st.last st.ranks st.level (λ v. IsQueued s st v ⊎ ⊥) (λ v. IsQueued s (record st { fresh = fresh; waiting = waiting }) v ⊎ ⊥) resting.front more;
        queues = record { tight = resting.queues.tight; fresh = λ v c. resting.queues.fresh v (taken.only v c); waiting = λ m v c. old m v (Contains-cons_cases (n, place) st.waiting (m, v) (Contains-permutation waiting ((n, place) ∷ st.waiting) (m, v) (IsPermutation-sym ((n, place) ∷ st.waiting) waiting moved) c)) };
        start = resting.start;
        counted = resting.counted;
        low = resting.low;
      }
    where
      kept : (m v : ℕ) → Contains ((n, place) ∷ st.waiting) (m, v) → Contains waiting (m, v)
      kept m v c = Contains-permutation ((n, place) ∷ st.waiting) waiting (m, v) moved c

      more : (v : ℕ) → get_or st.ranks v 0 ≡ 0 → (IsQueued s st v ⊎ ⊥) → (IsQueued s (record st { fresh = fresh; waiting = waiting }) v ⊎ ⊥)
      more v u (inl (inl c)) = inl (inl c)
      more v u (inl (inr (inl c))) =
          elim (taken.kept v c u) [
            | inl a ↦ inl (inr (inl a))
            | inr e ↦ (let is = this_one place v e in inl (inr (inr (n, subst (λ (w : ℕ). Contains waiting (n, w)) (sym is) (kept n place (Contains-head (n, place) st.waiting)), near ∙ ap (nearness_at s.heights st.lengths) (sym is)))))
          ]
      more v u (inl (inr (inr (m, c, e)))) = inl (inr (inr (m, kept m v (Contains-tail (n, place) st.waiting (m, v) c), e)))
      more v u (inr h) = absurd h

      old : (m v : ℕ) → (◌≡◌ {A = ℕ × ℕ} (n, place) (m, v)) ⊎ Contains st.waiting (m, v) → (v < places_of s.line) × (height_at st.lengths v ≤ℤ pos 0) × (pos m ≤ℤ nearness_at s.heights st.lengths v)
      old m v (inr c) = resting.queues.waiting m v c
      old m v (inl e) =
          let is : v ≡ place = sym (ap (λ (x : ℕ × ℕ). x.1) e) in
          let as_near : m ≡ n = sym (ap (λ (x : ℕ × ℕ). x.0) e) in
          let q = resting.queues.fresh place there in
          rw (is, as_near) (q.0, q.1, omega (arith, ints, near))

  -- the nearest place of the heap is in hand, where no place waits elsewhere
  module _ (network : IsNetwork s.line) (fits : Fits s.part s.line s.flow s.heights) (no_tight : st.tight ≡ []) (no_fresh : st.fresh ≡ []) where
    pub heap_next : (waiting : List (ℕ × ℕ)) (place : ℕ) (level : ℤ) → ((n v : ℕ) → Contains st.waiting (n, v) → get_or st.ranks v 0 ≡ 0 → Contains waiting (n, v) ⊎ (Some place ≡ Some v)) → ((n v : ℕ) → Contains waiting (n, v) → Contains st.waiting (n, v)) → IsNearest st.ranks st.waiting place → level ≡ reduced s.heights st.lengths place → IsInHand s (record st { waiting = waiting; level = level }) place
    heap_next waiting place level kept only (n, there, fresh, nearest) level_is =
        record {
          search = record {
            front = requeued s st.lengths st.last st.ranks level (λ v. IsQueued s st v ⊎ ⊥) (λ v. IsQueued s (record st { waiting = waiting; level = level }) v ⊎ (v ≡ place)) raised more;
            queues = record { tight = λ v c. absurd (in_none st.tight v no_tight c); fresh = λ v c. absurd (in_none st.fresh v no_fresh c); waiting = λ m v c. resting.queues.waiting m v (only m v c) };
            start = resting.start;
            counted = resting.counted;
            low = resting.low;
          };
          within = q.0;
          is_reached = q.1;
          fresh = fresh;
          here = sym level_is;
        }
      where
        q : (place < places_of s.line) × (height_at st.lengths place ≤ℤ pos 0) × (pos n ≤ℤ nearness_at s.heights st.lengths place)
        q = resting.queues.waiting n place there

        ahead : (v : ℕ) → get_or st.ranks v 0 ≡ 0 → (IsQueued s st v ⊎ ⊥) → level ≤ℤ reduced s.heights st.lengths v
        ahead v u (inl (inl c)) = absurd (in_none st.tight v no_tight c)
        ahead v u (inl (inr (inl c))) = absurd (in_none st.fresh v no_fresh c)
        ahead v u (inl (inr (inr (m, c, e)))) = let far = nearest m v c u in omega (arith, ints, far, e, q.2, level_is)
        ahead v u (inr h) = absurd h

        raised : IsFront s.part s.line s.flow s.heights st.lengths st.last st.ranks level (λ v. IsQueued s st v ⊎ ⊥) (λ _. ⊥)
        raised = front_raised s.part s.line s.flow network s.heights fits st.lengths st.last st.ranks st.level (λ v. IsQueued s st v ⊎ ⊥) (λ _. ⊥) resting.front level (omega (arith, ints, level_is, resting.front.ahead place q.0 q.1 fresh)) (λ v h l u. ahead v u (resting.front.waits v h l u))

        more : (v : ℕ) → get_or st.ranks v 0 ≡ 0 → (IsQueued s st v ⊎ ⊥) → (IsQueued s (record st { waiting = waiting; level = level }) v ⊎ (v ≡ place))
        more v u (inl (inl c)) = absurd (in_none st.tight v no_tight c)
        more v u (inl (inr (inl c))) = absurd (in_none st.fresh v no_fresh c)
        more v u (inl (inr (inr (m, c, e)))) = elim (kept m v c u) [ inl a ↦ inl (inr (inr (m, a, e))) | inr p ↦ inr (this_one place v p) ]
        more v u (inr h) = absurd h

    -- where none waits there either, each place is settled
    pub heap_none : (waiting : List (ℕ × ℕ)) → ((n v : ℕ) → Contains st.waiting (n, v) → get_or st.ranks v 0 ≡ 0 → Contains waiting (n, v) ⊎ (None ≡ Some v)) → waiting ≡ [] → places_of s.line ≤ st.count
    heap_none waiting kept no_waiting =
        let same = sum_below-same (places_of s.line) (marked st.ranks) (λ _. 1) (λ v h. marked_one st.ranks v (settled v h)) in
        omega (arith, same, resting.counted, ones (places_of s.line))
      where
        none : (v : ℕ) → get_or st.ranks v 0 ≡ 0 → (IsQueued s st v ⊎ ⊥) → ⊥
        none v u (inl (inl c)) = in_none st.tight v no_tight c
        none v u (inl (inr (inl c))) = in_none st.fresh v no_fresh c
        none v u (inl (inr (inr (m, c, e)))) = elim (kept m v c u) [ inl a ↦ in_none waiting (m, v) no_waiting a | inr p ↦ cc ]
        none v u (inr h) = h

        settled : (v : ℕ) → v < places_of s.line → 0 < get_or st.ranks v 0
        settled v h = all_settled s.part s.line s.flow network s.heights fits st.lengths st.last st.ranks st.level (λ _. ⊥) (λ _. ⊥) (requeued s st.lengths st.last st.ranks st.level (λ w. IsQueued s st w ⊎ ⊥) (λ _. ⊥) resting.front none) (λ t l. l) (λ w l. l) resting.start v h
