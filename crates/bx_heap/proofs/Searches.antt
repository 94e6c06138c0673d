-- What a step from the place that was settled last does to a search.
use Rattle.std.proofs.Common.{◌≡◌, ◌≢◌, ℕ, zero, suc, ◌+◌, ◌<◌, ◌≤◌, List, [], ◌∷◌, ◌++◌, length, get_or, set, ℤ, pos, negsuc, ◌+ℤ◌, ◌≤ℤ◌, refl, sym, ◌∙◌, ap, subst, arith, ◌⊎◌, inl, inr, nat_abs, get_or-set_same, get_or-set_other}
use Rattle.std.specs.List.{Contains}
use Rattle.std.proofs.lemmas.Int.{ints}
use Rattle.std.proofs.lemmas.Bool.{cases_lt, cases_eq}
use Rattle.std.proofs.lemmas.List.Elements.{Contains-append_left, Contains-push, Contains-push_cases}
use Rattle.bx_line.specs.Network.{Network, IsNetwork, places_of}
use Rattle.bx_dist.specs.declared.step.Step.{Step}
use Rattle.bx_dist.specs.declared.step.Step.TheVariants.{Idle, Back, Take, Give}
use Rattle.bx_dist.specs.Residual.{IsOpen, Fits, height_at, step_from, step_to, step_cost}
use Rattle.bx_dist.specs.Search.{ShortensNothing, Shortens, AreMedium}
use Rattle.std.specs.Prelude.{◌<ℤ◌}
use Rattle.std.proofs.lemmas.List.{get_or_past}
use Rattle.bx_dist.proofs.Fitting.{walk_long, open_in_whole}
use Rattle.bx_dist.proofs.After.{step_within}
use Rattle.bx_heap.specs.Frontier.{reduced}
use Rattle.bx_heap.specs.Searching.{State, Setting, nearness_at, IsQueued, AreQueues, HasRoom, IsSetting, IsSearch, IsResting, IsSettling, IsLeftToTake, step_turn_of, ReachesStep, TakesOpenStep}
use Rattle.bx_heap.proofs.Fronts.{apart, new_at, other_at, now_settled, front_after, front_fewer}

module _ (s : Setting) (network : IsNetwork s.line) (fits : Fits s.part s.line s.flow s.heights) where
  module _ (st : State) (place : ℕ) (Left : Step → Type 0) (settling : IsSettling s st place Left) (step : Step) (from : step_from s.line step ≡ place) where
    module _ (o : IsOpen s.part s.line s.flow step) (lengths : List ℤ) (sh : Shortens s.line step st.lengths lengths) where
      settled_from : 0 < get_or st.ranks (step_from s.line step) 0
      settled_from = subst (λ (v : ℕ). 0 < get_or st.ranks v 0) (sym from) settling.settled

      here_from : reduced s.heights st.lengths (step_from s.line step) ≡ st.level
      here_from = ap (reduced s.heights st.lengths) from ∙ settling.here

      to_within : step_to s.line step < places_of s.line
      to_within = (step_within s.part s.line s.flow network step o).1

      new_is : height_at lengths (step_to s.line step) ≡ (height_at st.lengths (step_from s.line step) +ℤ step_cost s.line step)
      new_is = new_at s.part s.line s.flow network s.heights fits st.lengths st.last st.ranks st.level (λ v. IsQueued s st v ⊎ ⊥) Left settling.search.front step o settled_from here_from lengths sh

      other : (v : ℕ) → v ≢ step_to s.line step → height_at lengths v ≡ height_at st.lengths v
      other v d = other_at s.part s.line s.flow network s.heights fits st.lengths st.last st.ranks st.level (λ w. IsQueued s st w ⊎ ⊥) Left settling.search.front step o settled_from here_from lengths sh v d

      other_place : place ≢ step_to s.line step
      other_place = apart s.part s.line s.flow network s.heights fits st.lengths st.last st.ranks st.level (λ w. IsQueued s st w ⊎ ⊥) Left settling.search.front step o settled_from here_from lengths sh place settling.settled

      lower : (v : ℕ) → height_at lengths v ≤ℤ height_at st.lengths v
      lower v =
          elim (cases_eq v (step_to s.line step)) [
            | inl e ↦ (let a = ap (height_at lengths) e in let b = ap (height_at st.lengths) e in omega (arith, ints, a, b, new_is, sh.lower))
            | inr d ↦ omega (arith, ints, other v d)
          ]

      low_to : height_at lengths (step_to s.line step) ≤ℤ pos 0
      low_to = omega (arith, ints, new_is, sh.lower, settling.search.front.low (step_to s.line step))

      abbrev after : List ℕ → List ℕ → State
      after tight fresh = record st { lengths = lengths; last = set st.last (step_to s.line step) step; tight = tight; fresh = fresh }

      kept_near : (v n : ℕ) → v ≢ step_to s.line step → pos n ≡ nearness_at s.heights st.lengths v → pos n ≡ nearness_at s.heights lengths v
      kept_near v n d e = omega (arith, ints, e, other v d)

      settling_after : (tight fresh : List ℕ) → ((v : ℕ) → v ≢ step_to s.line step → IsQueued s st v → IsQueued s (after tight fresh) v) → IsQueued s (after tight fresh) (step_to s.line step) → AreQueues s (after tight fresh) → IsSettling s (after tight fresh) place Left
      settling_after tight fresh kept one queues =
          record {
            search = record {
              front = front_after s.part s.line s.flow network s.heights fits st.lengths st.last st.ranks st.level (λ v. IsQueued s st v ⊎ ⊥) Left settling.search.front step o settled_from here_from lengths sh (λ v. IsQueued s (after tight fresh) v ⊎ ⊥) (λ v d w. elim w [ inl q ↦ inl (kept v d q) | inr h ↦ inr h ]) (inl one);
              queues = queues;
              start = omega (arith, ints, lower 0, settling.search.start);
              counted = settling.search.counted;
              low = settling.search.low;
            };
            within = settling.within;
            settled = settling.settled;
            here = omega (arith, ints, settling.here, other place other_place);
          }

      old_waiting : (n v : ℕ) → Contains st.waiting (n, v) → (v < places_of s.line) × (height_at lengths v ≤ℤ pos 0) × (pos n ≤ℤ nearness_at s.heights lengths v)
      old_waiting n v c = let q = settling.search.queues.waiting n v c in (q.0, omega (arith, ints, q.1, lower v), omega (arith, ints, q.2, lower v))

      old_fresh : (v : ℕ) → Contains st.fresh v → (v < places_of s.line) × (height_at lengths v ≤ℤ pos 0)
      old_fresh v c = let q = settling.search.queues.fresh v c in (q.0, omega (arith, ints, q.1, lower v))

      old_tight : (v : ℕ) → Contains st.tight v → (v < places_of s.line) × (height_at lengths v ≤ℤ pos 0) × (reduced s.heights lengths v ≤ℤ st.level)
      old_tight v c = let q = settling.search.queues.tight v c in (q.0, omega (arith, ints, q.1, lower v), omega (arith, ints, q.2, lower v))

      kept_tight : (v : ℕ) → v ≢ step_to s.line step → IsQueued s st v → IsQueued s (after (st.tight ++ step_to s.line step ∷ []) st.fresh) v
      kept_tight v d (inl c) = inl (Contains-append_left st.tight (step_to s.line step ∷ []) v c)
      kept_tight v d (inr (inl c)) = inr (inl c)
      kept_tight v d (inr (inr (n, c, e))) = inr (inr (n, c, kept_near v n d e))

      kept_fresh : (v : ℕ) → v ≢ step_to s.line step → IsQueued s st v → IsQueued s (after st.tight (st.fresh ++ step_to s.line step ∷ [])) v
      kept_fresh v d (inl c) = inl c
      kept_fresh v d (inr (inl c)) = inr (inl (Contains-append_left st.fresh (step_to s.line step ∷ []) v c))
      kept_fresh v d (inr (inr (n, c, e))) = inr (inr (n, c, kept_near v n d e))

      pub shortened_tight : reduced s.heights lengths (step_to s.line step) ≡ st.level → IsSettling s (after (st.tight ++ step_to s.line step ∷ []) st.fresh) place Left
      shortened_tight at =
          settling_after (st.tight ++ step_to s.line step ∷ []) st.fresh kept_tight (inl (Contains-push st.tight (step_to s.line step))) (record {
            tight = λ v c. elim (Contains-push_cases st.tight (step_to s.line step) v c) [
              | inl a ↦ old_tight v a
              | inr e ↦ (let p = ap (height_at lengths) e in let q = ap (reduced s.heights lengths) e in (omega (arith, e, to_within), omega (arith, ints, p, low_to), omega (arith, ints, q, at)))
            ];
            fresh = old_fresh;
            waiting = old_waiting;
          })

      pub shortened_fresh : IsSettling s (after st.tight (st.fresh ++ step_to s.line step ∷ [])) place Left
      shortened_fresh =
          settling_after st.tight (st.fresh ++ step_to s.line step ∷ []) kept_fresh (inr (inl (Contains-push st.fresh (step_to s.line step)))) (record {
            tight = old_tight;
            fresh = λ v c. elim (Contains-push_cases st.fresh (step_to s.line step) v c) [
              | inl a ↦ old_fresh v a
              | inr e ↦ (let p = ap (height_at lengths) e in (omega (arith, e, to_within), omega (arith, ints, p, low_to)))
            ];
            waiting = old_waiting;
          })

      pub settled_after : ShortensNothing s.line lengths step
      settled_after = now_settled s.part s.line s.flow network s.heights fits st.lengths st.last st.ranks st.level (λ v. IsQueued s st v ⊎ ⊥) Left settling.search.front step o settled_from here_from lengths sh

    pub settling_reached : (t : State) → IsOpen s.part s.line s.flow step → ReachesStep s step st t → IsSettling s t place Left × ShortensNothing s.line t.lengths step
    settling_reached t o (inl (q, e)) = subst (λ (x : State). IsSettling s x place Left × ShortensNothing s.line x.lengths step) (sym e) (settling, q)
    settling_reached t o (inr (lengths, sh, inl (at, e))) = subst (λ (x : State). IsSettling s x place Left × ShortensNothing s.line x.lengths step) (sym e) (shortened_tight o lengths sh at, settled_after o lengths sh)
    settling_reached t o (inr (lengths, sh, inr e)) = subst (λ (x : State). IsSettling s x place Left × ShortensNothing s.line x.lengths step) (sym e) (shortened_fresh o lengths sh, settled_after o lengths sh)

    pub settling_taken : (t : State) → TakesOpenStep s step st t → IsSettling s t place Left × (IsOpen s.part s.line s.flow step → ShortensNothing s.line t.lengths step)
    settling_taken t (inl (n, e)) = subst (λ (x : State). IsSettling s x place Left × (IsOpen s.part s.line s.flow step → ShortensNothing s.line x.lengths step)) (sym e) (settling, λ o. absurd (n o))
    settling_taken t (inr (o, r)) = let after = settling_reached t o r in (after.0, λ p. after.1)

  -- the steps that are left may be fewer where the others shorten nothing
  pub settling_fewer : (st : State) (place : ℕ) (Left Fewer : Step → Type 0) → IsSettling s st place Left → ((t : Step) → IsOpen s.part s.line s.flow t → Left t → Fewer t ⊎ ShortensNothing s.line st.lengths t) → IsSettling s st place Fewer
  settling_fewer st place Left Fewer settling fewer =
      record {
        search = record {
          front = front_fewer s.part s.line s.flow network s.heights fits st.lengths st.last st.ranks st.level (λ v. IsQueued s st v ⊎ ⊥) Left settling.search.front Fewer fewer;
          queues = settling.search.queues;
          start = settling.search.start;
          counted = settling.search.counted;
          low = settling.search.low;
        };
        within = settling.within;
        settled = settling.settled;
        here = settling.here;
      }

  -- the step back to the place before
  pub back_taken : (st t : State) (place v : ℕ) → v + 1 ≡ place → IsSettling s st place (IsLeftToTake s.line place 0) → TakesOpenStep s (Back v) st t → IsSettling s t place (IsLeftToTake s.line place 1)
  back_taken st t place v is settling takes =
      let after = settling_taken st place (IsLeftToTake s.line place 0) settling (Back v) is t takes in
      settling_fewer t place (IsLeftToTake s.line place 0) (IsLeftToTake s.line place 1) after.0 (fewer after.1)
    where
      fewer : (IsOpen s.part s.line s.flow (Back v) → ShortensNothing s.line t.lengths (Back v)) → (u : Step) → IsOpen s.part s.line s.flow u → IsLeftToTake s.line place 0 u → IsLeftToTake s.line place 1 u ⊎ ShortensNothing s.line t.lengths u
      fewer done (Idle w) o l = inl (l.0, omega arith)
      fewer done (Take r) o l = inl (l.0, omega arith)
      fewer done (Give r) o l = inl (l.0, omega arith)
      fewer done (Back w) o l =
          let e : v ≡ w = omega (arith, l.0, is) in
          inr (subst (λ (u : ℕ). IsOpen s.part s.line s.flow (Back u) → ShortensNothing s.line t.lengths (Back u)) e done o)

  pub no_back : (st : State) (place : ℕ) → place ≡ 0 → IsSettling s st place (IsLeftToTake s.line place 0) → IsSettling s st place (IsLeftToTake s.line place 1)
  no_back st place is settling = settling_fewer st place (IsLeftToTake s.line place 0) (IsLeftToTake s.line place 1) settling fewer
    where
      fewer : (u : Step) → IsOpen s.part s.line s.flow u → IsLeftToTake s.line place 0 u → IsLeftToTake s.line place 1 u ⊎ ShortensNothing s.line st.lengths u
      fewer (Idle w) o l = inl (l.0, omega arith)
      fewer (Take r) o l = inl (l.0, omega arith)
      fewer (Give r) o l = inl (l.0, omega arith)
      fewer (Back w) o l = absurd (omega (arith, l.0, is))

  -- the step to the next place
  pub idle_taken : (st t : State) (v : ℕ) → IsSettling s st v (IsLeftToTake s.line v 3) → TakesOpenStep s (Idle v) st t → IsSettling s t v (IsLeftToTake s.line v 4)
  idle_taken st t v settling takes =
      let after = settling_taken st v (IsLeftToTake s.line v 3) settling (Idle v) refl t takes in
      settling_fewer t v (IsLeftToTake s.line v 3) (IsLeftToTake s.line v 4) after.0 (fewer after.1)
    where
      fewer : (IsOpen s.part s.line s.flow (Idle v) → ShortensNothing s.line t.lengths (Idle v)) → (u : Step) → IsOpen s.part s.line s.flow u → IsLeftToTake s.line v 3 u → IsLeftToTake s.line v 4 u ⊎ ShortensNothing s.line t.lengths u
      fewer done (Idle w) o l =
          let e : v ≡ w = omega (arith, l.0) in
          inr (subst (λ (u : ℕ). IsOpen s.part s.line s.flow (Idle u) → ShortensNothing s.line t.lengths (Idle u)) e done o)
      fewer done (Take r) o l = absurd (omega (arith, l.1))
      fewer done (Give r) o l = absurd (omega (arith, l.1))
      fewer done (Back w) o l = absurd (omega (arith, l.1))

  pub no_idle : (st : State) (v : ℕ) → places_of s.line ≤ v + 1 → IsSettling s st v (IsLeftToTake s.line v 3) → IsSettling s st v (IsLeftToTake s.line v 4)
  no_idle st v end settling = settling_fewer st v (IsLeftToTake s.line v 3) (IsLeftToTake s.line v 4) settling fewer
    where
      fewer : (u : Step) → IsOpen s.part s.line s.flow u → IsLeftToTake s.line v 3 u → IsLeftToTake s.line v 4 u ⊎ ShortensNothing s.line st.lengths u
      fewer (Idle w) o l = absurd (omega (arith, l.0, o, end))
      fewer (Take r) o l = absurd (omega (arith, l.1))
      fewer (Give r) o l = absurd (omega (arith, l.1))
      fewer (Back w) o l = absurd (omega (arith, l.1))

  -- no step is left when the turn of each has come
  pub resting_after : (st : State) (place : ℕ) → IsSettling s st place (IsLeftToTake s.line place 4) → IsResting s st
  resting_after st place settling = (settling_fewer st place (IsLeftToTake s.line place 4) (λ _. ⊥) settling (λ t o l. absurd (none t l.1))).search
    where
      none : (t : Step) → 4 ≤ step_turn_of t → ⊥
      none (Idle w) h = omega (arith, h)
      none (Take r) h = omega (arith, h)
      none (Give r) h = omega (arith, h)
      none (Back w) h = omega (arith, h)

pub reaches_count : (s : Setting) (step : Step) (st t : State) → ReachesStep s step st t → t.count ≡ st.count
reaches_count s step st t (inl (q, e)) = ap (λ (x : State). x.count) e
reaches_count s step st t (inr (lengths, sh, inl (at, e))) = ap (λ (x : State). x.count) e
reaches_count s step st t (inr (lengths, sh, inr e)) = ap (λ (x : State). x.count) e

pub takes_count : (s : Setting) (step : Step) (st t : State) → TakesOpenStep s step st t → t.count ≡ st.count
takes_count s step st t (inl (n, e)) = ap (λ (x : State). x.count) e
takes_count s step st t (inr (o, r)) = reaches_count s step st t r

pub fits_part : (s : Setting) → IsSetting s → Fits s.part s.line s.flow s.heights
fits_part s setting = λ step o. setting.fits.fits step (open_in_whole s.part s.line s.flow step o)

pub sign : (z : ℤ) → (z ≤ℤ pos 0) ⊎ (pos 0 <ℤ z)
sign (pos zero) = inl (omega (arith, ints))
sign (pos (suc n)) = inr (omega (arith, ints))
sign (negsuc n) = inl (omega (arith, ints))

-- no length is far from 0
pub search_room : (s : Setting) (st : State) (Hand : ℕ → Type 0) (Left : Step → Type 0) → IsSetting s → IsSearch s st Hand Left → HasRoom s.line st
search_room s st Hand Left setting search =
    record {
      lengths_each = search.front.lengths_each;
      last_each = search.front.last_each;
      roomy = λ v. elim (cases_lt v (places_of s.line)) [
        | inl h ↦ elim (sign (height_at st.lengths v)) [
          | inl l ↦ (
              let r = search.front.reached v h l in
              let long = walk_long s.part s.line s.flow s.heights (fits_part s setting) 0 v r.0 r.1 in
              omega (arith, ints, l, long, r.2, setting.small v, setting.small 0))
          | inr l ↦ omega (arith, ints, l, search.front.low v)
        ]
        | inr h ↦ (let past = get_or_past st.lengths v (pos 0) (omega (arith, search.front.lengths_each)) in omega (arith, ints, past))
      ];
    }

-- a step that shortens leaves lengths that may be added
pub shortened_medium : (line : Network) (step : Step) (old new : List ℤ) (to : ℕ) (cost : ℤ) → ((v : ℕ) → nat_abs (height_at old v) ≤ 1100000000000000000) → Shortens line step old new → to ≡ step_to line step → cost ≡ step_cost line step → nat_abs cost ≤ 17001000000000 → to < length old → AreMedium new
shortened_medium line step old new to cost roomy s to_is cost_is small within v =
    elim (cases_eq v (step_to line step)) [
      | inl e ↦ (
          let at = ap (height_at new) e ∙ (ap (λ (l : List ℤ). height_at l (step_to line step)) s.now ∙ get_or-set_same old (step_to line step) (height_at old (step_from line step) +ℤ step_cost line step) (pos 0) (omega (arith, to_is, within))) in
          omega (arith, ints, at, cost_is, small, roomy (step_from line step)))
      | inr d ↦ (
          let at = ap (λ (l : List ℤ). height_at l v) s.now ∙ get_or-set_other old (step_to line step) v (height_at old (step_from line step) +ℤ step_cost line step) (pos 0) d in
          omega (arith, ints, at, roomy v))
    ]
