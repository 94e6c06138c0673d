-- Marked places while they grow, and the walk back.
use Rattle.std.proofs.Common.{◌≡◌, ◌≢◌, ℕ, ◌+◌, ◌-◌, ◌<◌, ◌≤◌, cond, ltb, List, [], ◌∷◌, length, get_or, set, replicate, ℤ, refl, sym, ◌∙◌, ap, subst, arith, inl, inr, get_or-set_same, get_or-set_other, length-set}
use Rattle.std.specs.List.{Contains}
use Rattle.std.proofs.lemmas.Bool.{cases_lt, cases_eq}
use Rattle.std.proofs.lemmas.List.{get_or_past, length-replicate}
use Rattle.bx_base.proofs.SumLemmas.{sum_below-zero}
use Rattle.bx_line.specs.Network.{Network, places_of}
use Rattle.bx_dist.specs.declared.step.Step.{Step}
use Rattle.bx_dist.specs.declared.step.Step.TheVariants.{Idle}
use Rattle.bx_dist.specs.Residual.{step_from, step_to}
use Rattle.bx_dist.specs.Tight.{IsTight, last_step}
use Rattle.bx_dist.proofs.Ranks.{marked, marked_one, marked_none, marks_few, zero_in}
use Rattle.bx_dist.proofs.Sending.{sum_below-change}
use Rattle.bx_dist.proofs.Simple.{RanksRise, pairs_from_simple, simple_from_rising}
use Rattle.bx_rounds.specs.Rounds.{IsTightWalk, AreMarks, IsLastStep, ExtendsWalk, IsFoundWalk}

pub first_marks : (line : Network) (steps : List Step) (lengths : List ℤ) → 0 < places_of line → AreMarks line steps lengths (set (replicate (places_of line) 0) 0 1) (replicate (places_of line) (Idle 0)) 1
first_marks line steps lengths some =
    let n = places_of line in
    let zeros = replicate n 0 in
    let ranks = set zeros 0 1 in
    let here : ◌≡◌ {A = ℕ} (get_or ranks 0 0) 1 = get_or-set_same zeros 0 1 0 (omega (arith, length-replicate {A = ℕ} n 0)) in
    let other : (v : ℕ) → v ≢ 0 → ◌≡◌ {A = ℕ} (get_or ranks v 0) 0 = λ v d. get_or-set_other zeros 0 v 1 0 d ∙ zero_in n v in
    let change = sum_below-change n (marked ranks) (marked zeros) 0 some (λ v h d. marked_none ranks v (other v d) ∙ sym (marked_none zeros v (zero_in n v))) in
    let none = sum_below-zero n (marked zeros) (λ v h. marked_none zeros v (zero_in n v)) in
    record {
      ranks_each = length-set zeros 0 1 ∙ length-replicate {A = ℕ} n 0;
      last_each = length-replicate {A = Step} n (Idle 0);
      first = omega (arith, here);
      counted = omega (arith, change, none, marked_one ranks 0 (omega (arith, here)), marked_none zeros 0 (zero_in n 0));
      low = λ v. elim (cases_eq v 0) [ inl e ↦ (let s = ap (λ (w : ℕ). get_or ranks w 0) e in omega (arith, s, here)) | inr d ↦ omega (arith, other v d) ];
      by = λ v d h. absurd (omega (arith, h, other v d));
    }

module _ (line : Network) (steps : List Step) (lengths : List ℤ) (ranks : List ℕ) where
  -- the walk from a place to the last one, as far as it is known
  pub record IsBack (place : ℕ) (walk : List Step) : Type 0 where
    pub within : place < places_of line
    pub reached : 0 < get_or ranks place 0
    pub leads : IsTightWalk line steps lengths place (places_of line - 1) walk
    pub rises : RanksRise line ranks place walk
    pub few : length walk + get_or ranks place 0 ≤ get_or ranks (places_of line - 1) 0

module _ (line : Network) (steps : List Step) (lengths : List ℤ) (ranks : List ℕ) (last : List Step) (count : ℕ) (marks : AreMarks line steps lengths ranks last count) where
  pub count_few : count ≤ places_of line
  count_few = omega (arith, marks.counted, marks_few (places_of line) ranks)

  module _ (step : Step) (from to : ℕ) (from_is : from ≡ step_from line step) (to_is : to ≡ step_to line step) (within : to < places_of line) (there : Contains steps step) (tight : IsTight line lengths step) (reached : 0 < get_or ranks from 0) (fresh : get_or ranks to 0 ≡ 0) where
    abbrev after : List ℕ
    after = set ranks to (count + 1)

    new_rank : get_or after to 0 ≡ count + 1
    new_rank = get_or-set_same ranks to (count + 1) 0 (omega (arith, marks.ranks_each, within))

    same_rank : (v : ℕ) → v ≢ to → get_or after v 0 ≡ get_or ranks v 0
    same_rank v d = get_or-set_other ranks to v (count + 1) 0 d

    -- a place that was reached is another one
    apart : (v : ℕ) → 0 < get_or ranks v 0 → v ≢ to
    apart v h e = omega (arith, h, fresh, ap (λ (w : ℕ). get_or ranks w 0) e)

    old_step : (v : ℕ) (s : Step) → 0 < get_or ranks v 0 → IsLastStep line steps lengths ranks v s → IsLastStep line steps lengths after v s
    old_step v s h l =
        let begin = same_rank (step_from line s) (apart (step_from line s) l.reached) in
        let here = same_rank v (apart v h) in
        record { there = l.there; tight = l.tight; to = l.to; reached = omega (arith, begin, l.reached); earlier = omega (arith, begin, here, l.earlier) }

    new_step : IsLastStep line steps lengths after to step
    new_step =
        let begin = same_rank from (apart from reached) in
        let at = ap (λ (w : ℕ). get_or after w 0) from_is in
        record { there = there; tight = tight; to = sym to_is; reached = omega (arith, begin, at, reached); earlier = omega (arith, begin, at, new_rank, marks.low from) }

    pub marks_more : AreMarks line steps lengths after (set last to step) (count + 1)
    marks_more =
        let change = sum_below-change (places_of line) (marked after) (marked ranks) to within (λ v h d. ap (λ (r : ℕ). cond {A = ℕ} (ltb 0 r) 1 0) (same_rank v d)) in
        record {
          ranks_each = length-set ranks to (count + 1) ∙ marks.ranks_each;
          last_each = length-set last to step ∙ marks.last_each;
          first = omega (arith, same_rank 0 (apart 0 marks.first), marks.first);
          counted = omega (arith, change, marks.counted, marked_one after to (omega (arith, new_rank)), marked_none ranks to fresh);
          low = λ v. elim (cases_eq v to) [ inl e ↦ omega (arith, ap (λ (w : ℕ). get_or after w 0) e, new_rank) | inr d ↦ omega (arith, same_rank v d, marks.low v) ];
          by = λ v some h. elim (cases_eq v to) [
            | inl e ↦ rw e (subst (IsLastStep line steps lengths after to) (sym (get_or-set_same last to step (Idle 0) (omega (arith, marks.last_each, within)))) new_step)
            | inr d ↦ (let was : 0 < get_or ranks v 0 = omega (arith, same_rank v d, h) in subst (IsLastStep line steps lengths after v) (sym (get_or-set_other last to v step (Idle 0) d)) (old_step v (last_step last v) was (marks.by v some was)))
          ];
        }

  -- where no step leads further, each place that a tight walk reaches is marked
  pub all_marked : ((step : Step) → Contains steps step → ExtendsWalk line lengths ranks step) → (from to : ℕ) (walk : List Step) → 0 < get_or ranks from 0 → IsTightWalk line steps lengths from to walk → 0 < get_or ranks to 0
  all_marked done from to [] h w = subst (λ (v : ℕ). 0 < get_or ranks v 0) w h
  all_marked done from to (step ∷ walk) h w =
      all_marked done (step_to line step) to walk (done step w.0 w.1 (subst (λ (v : ℕ). 0 < get_or ranks v 0) (sym w.2) h)) w.3

  pub back_last : 0 < places_of line → 0 < get_or ranks (places_of line - 1) 0 → IsBack line steps lengths ranks (places_of line - 1) []
  back_last some h = record { within = omega arith; reached = h; leads = refl; rises = tt; few = omega arith }

  pub back_more : (place : ℕ) (walk : List Step) (from : ℕ) → place ≢ 0 → IsBack line steps lengths ranks place walk → from ≡ step_from line (last_step last place) → from < places_of line → IsBack line steps lengths ranks from (last_step last place ∷ walk)
  back_more place walk from some b from_is inside =
      let l = marks.by place some b.reached in
      let at = ap (λ (v : ℕ). get_or ranks v 0) from_is in
      let here = ap (λ (v : ℕ). get_or ranks v 0) l.to in
      record {
        within = inside;
        reached = omega (arith, at, l.reached);
        leads = (l.there, l.tight, sym from_is, subst (λ v. IsTightWalk line steps lengths v (places_of line - 1) walk) (sym l.to) b.leads);
        rises = (omega (arith, at, here, l.earlier), subst (λ v. RanksRise line ranks v walk) (sym l.to) b.rises);
        few = omega (arith, at, l.earlier, b.few);
      }

  pub back_lower : (place : ℕ) (walk : List Step) (from : ℕ) → place ≢ 0 → IsBack line steps lengths ranks place walk → from ≡ step_from line (last_step last place) → get_or ranks from 0 < get_or ranks place 0
  back_lower place walk from some b from_is =
      let l = marks.by place some b.reached in
      omega (arith, ap (λ (v : ℕ). get_or ranks v 0) from_is, l.earlier)

  pub some_place : 0 < places_of line
  some_place = elim (cases_lt 0 (places_of line)) [ inl h ↦ h | inr h ↦ absurd (omega (arith, marks.first, get_or_past ranks 0 0 (omega (arith, marks.ranks_each)))) ]

  pub found_back : (walk : List Step) → IsBack line steps lengths ranks 0 walk → IsFoundWalk line steps lengths walk
  found_back walk b =
      record { leads = b.leads; once = pairs_from_simple line 0 walk (simple_from_rising line ranks 0 walk b.rises); few = omega (arith, b.few, marks.low (places_of line - 1), count_few) }
