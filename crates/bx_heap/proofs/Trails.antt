-- The last steps back from the last place, and the end of a search.
use Rattle.std.proofs.Common.{◌≡◌, ◌≢◌, ℕ, ◌<◌, ◌≤◌, List, [], ◌∷◌, get_or, sym, ◌∙◌, ap, subst, ◌⊎◌}
use Rattle.bx_line.specs.Network.{Network, places_of}
use Rattle.bx_dist.specs.declared.step.Step.{Step}
use Rattle.bx_dist.specs.Residual.{AreSmall, step_from, step_to}
use Rattle.bx_dist.specs.Tight.{last_step}
use Rattle.bx_dist.specs.Walks.{AreDistances, lengths_of}
use Rattle.bx_dist.proofs.Bounds.{open_is_step}
use Rattle.bx_heap.specs.Frontier.{IsLast}
use Rattle.bx_heap.specs.Searching.{State, Setting, IsSetting, IsQueued, IsResting, ArePointers, IsTrail}
use Rattle.bx_heap.proofs.Fronts.{IsBackTo, back_last, back_more, front_distances, front_small}
use Rattle.bx_heap.proofs.Searches.{fits_part}
use Rattle.bx_heap.proofs.Settled.{all_from_count, count_few}

pub trail_more : (line : Network) (st : State) → ArePointers line st → (place : ℕ) (walk : List Step) (from : ℕ) → place ≢ 0 → place < places_of line → from ≡ step_from line (last_step st.last place) → IsTrail line st place walk → IsTrail line st from (last_step st.last place ∷ walk)
trail_more line st pointers place walk from some within from_is trail =
    let step = last_step st.last place in
    let to = pointers.to place some within in
    (sym (ap (last_step st.last) to), λ e. some (sym to ∙ e), sym from_is, subst (λ (v : ℕ). IsTrail line st v walk) (sym to) trail)

module _ (s : Setting) (setting : IsSetting s) (st : State) (resting : IsResting s st) (most : places_of s.line ≤ st.count) where
  all : (v : ℕ) → v < places_of s.line → 0 < get_or st.ranks v 0
  all = all_from_count s st resting most

  last_of : (v : ℕ) → v ≢ 0 → v < places_of s.line → IsLast s.part s.line s.flow st.lengths st.ranks v (last_step st.last v)
  last_of v some h = resting.front.by v some h (resting.front.settled v (all v h)).0

  pub pointers_at_end : ArePointers s.line st
  pointers_at_end =
      record {
        limits = setting.limits;
        moment = setting.moment;
        last_each = resting.front.last_each;
        step = λ v some h. open_is_step s.part s.line s.flow (last_step st.last v) (last_of v some h).is_open;
        to = λ v some h. (last_of v some h).to;
        earlier = λ v some h. (last_of v some h).earlier (all v h);
      }

  none : (t : Step) → ⊥ → ⊥
  none t n = n

  abbrev IsBackHere : ℕ → List Step → Type 0
  IsBackHere place walk = IsBackTo s.part s.line s.flow setting.limits s.heights (fits_part s setting) st.lengths st.last st.ranks st.level (λ v. IsQueued s st v ⊎ ⊥) (λ _. ⊥) resting.front none all place walk

  back_from_trail : (place : ℕ) (walk : List Step) → IsTrail s.line st place walk → IsBackHere place walk
  back_from_trail place [] e = subst (λ (v : ℕ). IsBackHere v []) (sym e) (back_last s.part s.line s.flow setting.limits s.heights (fits_part s setting) st.lengths st.last st.ranks st.level (λ v. IsQueued s st v ⊎ ⊥) (λ _. ⊥) resting.front none all setting.moment)
  back_from_trail place (step ∷ walk) t =
      let b = back_from_trail (step_to s.line step) walk t.3 in
      let more = back_more s.part s.line s.flow setting.limits s.heights (fits_part s setting) st.lengths st.last st.ranks st.level (λ v. IsQueued s st v ⊎ ⊥) (λ _. ⊥) resting.front none all (step_to s.line step) walk t.1 b in
      let this = subst (λ (u : Step). IsBackHere (step_from s.line u) (u ∷ walk)) (sym t.0) more in
      subst (λ (v : ℕ). IsBackHere v (step ∷ walk)) t.2 this

  pub trail_distances : (walk : List Step) → IsTrail s.line st 0 walk → AreDistances s.part s.line s.flow (lengths_of st.lengths walk)
  trail_distances walk t = front_distances s.part s.line s.flow setting.limits s.heights (fits_part s setting) st.lengths st.last st.ranks st.level (λ v. IsQueued s st v ⊎ ⊥) (λ _. ⊥) resting.front none all setting.moment walk (back_from_trail 0 walk t)

  pub trail_small : (walk : List Step) → IsTrail s.line st 0 walk → AreSmall st.lengths
  trail_small walk t = front_small s.part s.line s.flow setting.limits s.heights (fits_part s setting) st.lengths st.last st.ranks st.level (λ v. IsQueued s st v ⊎ ⊥) (λ _. ⊥) resting.front none all st.count (count_few s st (λ _. ⊥) (λ _. ⊥) resting) resting.low walk (back_from_trail 0 walk t)
