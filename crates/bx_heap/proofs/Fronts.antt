-- Places that are reached by the steps from settled ones.
use Rattle.std.proofs.Common.{◌≡◌, ◌≢◌, ℕ, zero, suc, ◌+◌, ◌-◌, ◌<◌, ◌≤◌, List, [], ◌∷◌, ◌++◌, length, get_or, set, ℤ, pos, ◌+ℤ◌, ◌-ℤ◌, ◌≤ℤ◌, refl, sym, ◌∙◌, ap, subst, arith, ◌⊎◌, inl, inr, get_or-set_same, get_or-set_other, length-set}
use Rattle.std.proofs.lemmas.Int.{ints}
use Rattle.std.proofs.lemmas.Bool.{cases_lt, cases_eq}
use Rattle.bx_line.specs.Network.{Network, IsNetwork, places_of}
use Rattle.bx_line.specs.Flows.{Flow}
use Rattle.bx_dist.specs.declared.part.Part.{Part}
use Rattle.bx_dist.specs.declared.step.Step.{Step}
use Rattle.bx_dist.specs.declared.step.Step.TheVariants.{Idle}
use Rattle.bx_dist.specs.Residual.{IsOpen, Fits, AreSmall, height_at, step_from, step_to, step_cost}
use Rattle.bx_dist.specs.Walks.{IsWalk, walk_length, AreLeast, AreDistances, lengths_of}
use Rattle.bx_dist.proofs.Simple.{RanksRise, pairs_from_simple, simple_from_rising}
use Rattle.bx_dist.specs.Search.{ShortensNothing, Shortens}
use Rattle.bx_dist.specs.Tight.{last_step}
use Rattle.bx_dist.proofs.Small.{least_that_fit, small_distances}
use Rattle.bx_dist.proofs.After.{first_distance, walk_and_step, length_and_step, step_within}
use Rattle.bx_heap.specs.Frontier.{reduced, IsLast, IsFront}

module _ (part : Part) (line : Network) (flow : Flow) (network : IsNetwork line) (heights : List ℤ) (fits : Fits part line flow heights) (lengths : List ℤ) (last : List Step) (ranks : List ℕ) (level : ℤ) (Waits : ℕ → Type 0) (Left : Step → Type 0) (front : IsFront part line flow heights lengths last ranks level Waits Left) where
  module _ (step : Step) (o : IsOpen part line flow step) (from : 0 < get_or ranks (step_from line step) 0) (here : reduced heights lengths (step_from line step) ≡ level) where
    -- a step from the place in hand reaches no length below the level
    no_lower : level ≤ℤ ((height_at lengths (step_from line step) +ℤ step_cost line step) -ℤ height_at heights (step_to line step))
    no_lower = omega (arith, ints, here, fits step o)

    module _ (new : List ℤ) (s : Shortens line step lengths new) where
      within : (step_from line step < places_of line) × (step_to line step < places_of line)
      within = step_within part line flow network step o

      -- so it shortens the way to no settled place
      pub fresh : get_or ranks (step_to line step) 0 ≡ 0
      fresh = elim (cases_lt 0 (get_or ranks (step_to line step) 0)) [
        | inl h ↦ absurd (omega (arith, ints, no_lower, (front.settled (step_to line step) h).1, s.lower))
        | inr h ↦ omega arith
      ]

      pub apart : (v : ℕ) → 0 < get_or ranks v 0 → v ≢ step_to line step
      apart v h e = omega (arith, h, fresh, ap (λ (w : ℕ). get_or ranks w 0) e)

      pub new_at : height_at new (step_to line step) ≡ (height_at lengths (step_from line step) +ℤ step_cost line step)
      new_at = ap (λ (l : List ℤ). height_at l (step_to line step)) s.now ∙ get_or-set_same lengths (step_to line step) (height_at lengths (step_from line step) +ℤ step_cost line step) (pos 0) (omega (arith, front.lengths_each, within.1))

      pub other_at : (v : ℕ) → v ≢ step_to line step → height_at new v ≡ height_at lengths v
      other_at v d = ap (λ (l : List ℤ). height_at l v) s.now ∙ get_or-set_other lengths (step_to line step) v (height_at lengths (step_from line step) +ℤ step_cost line step) (pos 0) d

      from_at : height_at new (step_from line step) ≡ height_at lengths (step_from line step)
      from_at = other_at (step_from line step) (apart (step_from line step) from)

      reached_after : (v : ℕ) → v < places_of line → height_at new v ≤ℤ pos 0 → (walk : List Step) × IsWalk part line flow 0 v walk × (walk_length line walk ≡ height_at new v)
      reached_after v h l =
          elim (cases_eq v (step_to line step)) [
            | inl e ↦ (
                let r = front.reached (step_from line step) within.0 (front.settled (step_from line step) from).0 in
                let w = walk_and_step part line flow 0 (step_from line step) r.0 step r.1 o refl in
                rw e (r.0 ++ step ∷ [], w, omega (arith, ints, length_and_step line r.0 step, r.2, new_at)))
            | inr d ↦ (let r = front.reached v h (omega (arith, ints, l, other_at v d)) in (r.0, r.1, r.2 ∙ sym (other_at v d)))
          ]

      kept_last : (v : ℕ) (t : Step) → v ≢ step_to line step → IsLast part line flow lengths ranks v t → IsLast part line flow new ranks v t
      kept_last v t d l =
          let begin = other_at (step_from line t) (apart (step_from line t) l.from) in
          let end = other_at (step_to line t) (λ e. d (sym l.to ∙ e)) in
          record { is_open = l.is_open; to = l.to; tight = omega (arith, ints, begin, end, l.tight); from = l.from; earlier = l.earlier }

      new_last : IsLast part line flow new ranks (step_to line step) step
      new_last = record { is_open = o; to = refl; tight = omega (arith, ints, new_at, from_at); from = from; earlier = λ h. absurd (omega (arith, h, fresh)) }

      by_after : (v : ℕ) → v ≢ 0 → v < places_of line → height_at new v ≤ℤ pos 0 → IsLast part line flow new ranks v (last_step (set last (step_to line step) step) v)
      by_after v some h l =
          elim (cases_eq v (step_to line step)) [
            | inl e ↦ rw e (subst (IsLast part line flow new ranks (step_to line step)) (sym (get_or-set_same last (step_to line step) step (Idle 0) (omega (arith, front.last_each, within.1)))) new_last)
            | inr d ↦ subst (IsLast part line flow new ranks v) (sym (get_or-set_other last (step_to line step) v step (Idle 0) d)) (kept_last v (last_step last v) d (front.by v some h (omega (arith, ints, l, other_at v d))))
          ]

      pub now_settled : ShortensNothing line new step
      now_settled = omega (arith, ints, new_at, from_at)

      still_settled : (t : Step) → 0 < get_or ranks (step_from line t) 0 → ShortensNothing line lengths t → ShortensNothing line new t
      still_settled t f h =
          let begin = other_at (step_from line t) (apart (step_from line t) f) in
          elim (cases_eq (step_to line t) (step_to line step)) [
            | inl e ↦ (let at = ap (height_at new) e in let was = ap (height_at lengths) e in omega (arith, ints, begin, at, was, new_at, s.lower, h))
            | inr d ↦ omega (arith, ints, begin, other_at (step_to line t) d, h)
          ]

      -- a step that shortens leaves a front, in which its end waits too
      pub front_after : (More : ℕ → Type 0) → ((v : ℕ) → v ≢ step_to line step → Waits v → More v) → More (step_to line step) → IsFront part line flow heights new (set last (step_to line step) step) ranks level More Left
      front_after More more one =
          record {
            lengths_each = ap (length {A = ℤ}) s.now ∙ (length-set lengths (step_to line step) (height_at lengths (step_from line step) +ℤ step_cost line step) ∙ front.lengths_each);
            last_each = length-set last (step_to line step) step ∙ front.last_each;
            ranks_each = front.ranks_each;
            low = λ v. elim (cases_eq v (step_to line step)) [ inl e ↦ (let at = ap (height_at new) e in omega (arith, ints, at, new_at, s.lower, front.low (step_to line step))) | inr d ↦ omega (arith, ints, other_at v d, front.low v) ];
            reached = reached_after;
            by = by_after;
            settled = λ v h. (let l = front.settled v h in let same = other_at v (apart v h) in (omega (arith, ints, l.0, same), omega (arith, ints, l.1, same)));
            ahead = λ v h l n. elim (cases_eq v (step_to line step)) [
              | inl e ↦ (let at = ap (height_at new) e in let up = ap (height_at heights) e in omega (arith, ints, at, up, new_at, no_lower))
              | inr d ↦ (let same = other_at v d in omega (arith, ints, same, front.ahead v h (omega (arith, ints, l, same)) n))
            ];
            waits = λ v h l n. elim (cases_eq v (step_to line step)) [
              | inl e ↦ subst More (sym e) one
              | inr d ↦ more v d (front.waits v h (omega (arith, ints, l, other_at v d)) n)
            ];
            taken = λ t p f. elim (front.taken t p f) [ inl q ↦ inl q | inr q ↦ inr (still_settled t f q) ];
          }

  -- the steps that are left may be fewer where the others shorten nothing
  pub front_fewer : (Fewer : Step → Type 0) → ((t : Step) → IsOpen part line flow t → Left t → Fewer t ⊎ ShortensNothing line lengths t) → IsFront part line flow heights lengths last ranks level Waits Fewer
  front_fewer Fewer fewer =
      record { lengths_each = front.lengths_each; last_each = front.last_each; ranks_each = front.ranks_each; low = front.low; reached = front.reached; by = front.by; settled = front.settled; ahead = front.ahead; waits = front.waits; taken = λ t o f. elim (front.taken t o f) [ inl l ↦ fewer t o l | inr q ↦ inr q ] }

  -- a place in wait that is as near as the level is settled, and its steps are left
  module _ (v : ℕ) (inside : v < places_of line) (is_reached : height_at lengths v ≤ℤ pos 0) (fresh : get_or ranks v 0 ≡ 0) (here : reduced heights lengths v ≡ level) (count : ℕ) (few : (w : ℕ) → get_or ranks w 0 ≤ count) where
    abbrev ranked : List ℕ
    ranked = set ranks v (count + 1)

    new_rank : get_or ranked v 0 ≡ count + 1
    new_rank = get_or-set_same ranks v (count + 1) 0 (omega (arith, front.ranks_each, inside))

    same_rank : (w : ℕ) → w ≢ v → get_or ranked w 0 ≡ get_or ranks w 0
    same_rank w d = get_or-set_other ranks v w (count + 1) 0 d

    other : (w : ℕ) → 0 < get_or ranks w 0 → w ≢ v
    other w h e = omega (arith, h, fresh, ap (λ (u : ℕ). get_or ranks u 0) e)

    unsettled : (w : ℕ) → get_or ranked w 0 ≡ 0 → w ≢ v
    unsettled w h e = omega (arith, h, new_rank, ap (λ (u : ℕ). get_or ranked u 0) e)

    last_after : (w : ℕ) (t : Step) → IsLast part line flow lengths ranks w t → IsLast part line flow lengths ranked w t
    last_after w t l =
        let begin = same_rank (step_from line t) (other (step_from line t) l.from) in
        record {
          is_open = l.is_open;
          to = l.to;
          tight = l.tight;
          from = omega (arith, begin, l.from);
          earlier = λ h. elim (cases_eq w v) [
            | inl e ↦ omega (arith, begin, new_rank, few (step_from line t), ap (λ (u : ℕ). get_or ranked u 0) e)
            | inr d ↦ (let same = same_rank w d in omega (arith, begin, same, l.earlier (omega (arith, h, same))))
          ];
        }

    pub front_settled : (More : ℕ → Type 0) → ((w : ℕ) → w ≢ v → Waits w → More w) → IsFront part line flow heights lengths last ranked level More (λ t. Left t ⊎ (step_from line t ≡ v))
    front_settled More more =
        record {
          lengths_each = front.lengths_each;
          last_each = front.last_each;
          ranks_each = length-set ranks v (count + 1) ∙ front.ranks_each;
          low = front.low;
          reached = front.reached;
          by = λ w some h l. last_after w (last_step last w) (front.by w some h l);
          settled = λ w h. elim (cases_eq w v) [
            | inl e ↦ (let at = ap (height_at lengths) e in let up = ap (height_at heights) e in (omega (arith, ints, at, is_reached), omega (arith, ints, at, up, here)))
            | inr d ↦ front.settled w (omega (arith, h, same_rank w d))
          ];
          ahead = λ w h l n. front.ahead w h l (omega (arith, n, same_rank w (unsettled w n)));
          waits = λ w h l n. more w (unsettled w n) (front.waits w h l (omega (arith, n, same_rank w (unsettled w n))));
          taken = λ t o f. elim (cases_eq (step_from line t) v) [
            | inl e ↦ inl (inr e)
            | inr d ↦ elim (front.taken t o (omega (arith, f, same_rank (step_from line t) d))) [ inl l ↦ inl (inl l) | inr q ↦ inr q ]
          ];
        }

  -- the level rises to that of the nearest place in wait
  pub front_raised : (higher : ℤ) → level ≤ℤ higher → ((v : ℕ) → v < places_of line → height_at lengths v ≤ℤ pos 0 → get_or ranks v 0 ≡ 0 → higher ≤ℤ reduced heights lengths v) → IsFront part line flow heights lengths last ranks higher Waits Left
  front_raised higher up ahead =
      record { lengths_each = front.lengths_each; last_each = front.last_each; ranks_each = front.ranks_each; low = front.low; reached = front.reached; by = front.by; settled = λ v h. (let l = front.settled v h in (l.0, omega (arith, ints, l.1, up))); ahead = ahead; waits = front.waits; taken = front.taken }

  -- where no step is left, and nothing waits, each place is settled
  pub all_settled : ((t : Step) → Left t → ⊥) → ((v : ℕ) → Waits v → ⊥) → height_at lengths 0 ≤ℤ pos 0 → (v : ℕ) → v < places_of line → 0 < get_or ranks v 0
  all_settled none idle start v h = is_settled v h (is_reached v h)
    where
      is_settled : (v : ℕ) → v < places_of line → height_at lengths v ≤ℤ pos 0 → 0 < get_or ranks v 0
      is_settled v h l = elim (cases_lt 0 (get_or ranks v 0)) [ inl r ↦ r | inr r ↦ absurd (idle v (front.waits v h l (omega (arith, r)))) ]

      is_reached : (v : ℕ) → v < places_of line → height_at lengths v ≤ℤ pos 0
      is_reached zero h = start
      is_reached (suc v) h =
          let before = is_reached v (omega arith) in
          let open_step : IsOpen part line flow (Idle v) = omega arith in
          let next : v + 1 ≡ suc v = omega arith in
          elim (front.taken (Idle v) open_step (is_settled v (omega arith) before)) [
            | inl l ↦ absurd (none (Idle v) l)
            | inr q ↦ omega (arith, ints, q, before, ap (height_at lengths) next)
          ]

  -- where each place is settled and no step is left, the lengths are distances
  module _ (none : (t : Step) → Left t → ⊥) (all : (v : ℕ) → v < places_of line → 0 < get_or ranks v 0) where
    pub front_fits : Fits part line flow lengths
    front_fits t o = elim (front.taken t o (all (step_from line t) (step_within part line flow network t o).0)) [ inl l ↦ absurd (none t l) | inr q ↦ q ]

    pub front_least : 0 < places_of line → AreLeast part line flow lengths
    front_least some = least_that_fit part line flow lengths front_fits front.lengths_each (λ v h. front.reached v h (front.settled v (all v h)).0) (front.settled 0 (all 0 some)).0

    -- the walk from a place to the last one, as far as it is known
    pub record IsBackTo (place : ℕ) (walk : List Step) : Type 0 where
      pub within : place < places_of line
      pub leads : IsWalk part line flow place (places_of line - 1) walk
      pub as_long : height_at lengths (places_of line - 1) ≡ (height_at lengths place +ℤ walk_length line walk)
      pub rises : RanksRise line ranks place walk
      pub few : length walk + get_or ranks place 0 ≤ get_or ranks (places_of line - 1) 0

    pub back_last : 0 < places_of line → IsBackTo (places_of line - 1) []
    back_last some = record { within = omega arith; leads = refl; as_long = omega (arith, ints); rises = tt; few = omega arith }

    pub back_more : (place : ℕ) (walk : List Step) → place ≢ 0 → IsBackTo place walk → IsBackTo (step_from line (last_step last place)) (last_step last place ∷ walk)
    back_more place walk some b =
        let l = front.by place some b.within (front.settled place (all place b.within)).0 in
        let earlier = l.earlier (all place b.within) in
        let at = ap (λ (v : ℕ). get_or ranks v 0) l.to in
        record {
          within = (step_within part line flow network (last_step last place) l.is_open).0;
          leads = (l.is_open, refl, subst (λ v. IsWalk part line flow v (places_of line - 1) walk) (sym l.to) b.leads);
          as_long = omega (arith, ints, b.as_long, l.tight, ap (height_at lengths) l.to);
          rises = (omega (arith, at, earlier), subst (λ v. RanksRise line ranks v walk) (sym l.to) b.rises);
          few = omega (arith, earlier, b.few);
        }

    pub back_lower : (place : ℕ) (walk : List Step) → place ≢ 0 → IsBackTo place walk → get_or ranks (step_from line (last_step last place)) 0 < get_or ranks place 0
    back_lower place walk some b = (front.by place some b.within (front.settled place (all place b.within)).0).earlier (all place b.within)

    pub front_distances : 0 < places_of line → (walk : List Step) → IsBackTo 0 walk → AreDistances part line flow (lengths_of lengths walk)
    front_distances some walk b =
        record {
          lengths = front_least some;
          path = record { some_place = some; leads = b.leads; once = pairs_from_simple line 0 walk (simple_from_rising line ranks 0 walk b.rises) };
          shortest = omega (arith, ints, b.as_long, first_distance part line flow lengths network some (front_least some));
        }

    pub front_small : (count : ℕ) → count ≤ places_of line → ((w : ℕ) → get_or ranks w 0 ≤ count) → (walk : List Step) → IsBackTo 0 walk → AreSmall lengths
    front_small count most few walk b = small_distances part line flow network lengths walk (front_distances (omega (arith, b.within)) walk b) (omega (arith, most, b.few, few (places_of line - 1)))
