-- A unit that takes a walk which meets no place twice: each step stays open until it is taken, and then each gap is crossed by
-- one unit more.
--
-- After each step the gaps before the place where the unit stands are crossed by one unit more, and no other gap is.
use Rattle.std.proofs.Common.{◌≡◌, ◌≢◌, ℕ, zero, suc, ◌+◌, ◌-◌, ◌<◌, ◌≤◌, Bool, true, false, cond, ◌&&◌, ltb, List, [], ◌∷◌, length, get_or, set, replicate, refl, sym, ◌∙◌, ap, subst, arith, ◌⊎◌, inl, inr, get_or-set_same, get_or-set_other, length-set, drop, drop-cons, add-one}
use Rattle.std.proofs.lemmas.Bool.{cases_lt, cases_eq, cond-true, cond-false, lt-ltb}
use Rattle.std.proofs.lemmas.Bool.Decides.{nat_tests}
use Rattle.std.proofs.lemmas.List.{get_or_past, get_or-replicate, length-replicate}
use Rattle.bx_base.specs.Sums.{sum_below}
use Rattle.bx_base.proofs.SumLemmas.{sum_below-same, sum_below-zero}
use Rattle.bx_line.specs.declared.arc.Arc.{Arc}
use Rattle.bx_line.specs.Network.{Network, IsNetwork, places_of, gaps_of, arc_at, spans}
use Rattle.bx_line.specs.Flows.{Flow, IsFlow, IsSized, carries_unit, idle_at, crossing_at}
use Rattle.bx_line.proofs.Crossings.{crosses_from_flow, flow_from_crosses}
use Rattle.bx_dist.specs.declared.part.Part.{Part}
use Rattle.bx_dist.specs.declared.part.Part.TheVariants.{Whole}
use Rattle.bx_dist.specs.declared.step.Step.{Step}
use Rattle.bx_dist.specs.declared.step.Step.TheVariants.{Idle, Back, Take, Give}
use Rattle.bx_dist.specs.Residual.{IsOpen, HasRow, IsRowAt, step_from, step_to}
use Rattle.bx_dist.specs.Walks.{IsWalk, IsPath}
use Rattle.bx_dist.specs.Sending.{empty_flow, after_step, after_walk, sent}
use Rattle.bx_dist.specs.Inside.{CanTake, CanTakeAll, Avoids, IsSimple}
use Rattle.bx_dist.proofs.Simple.{simple_from_pairs}

-- sums that differ in one term
pub sum_below-change : (n : ℕ) (f g : ℕ → ℕ) (k : ℕ) → k < n → ((i : ℕ) → i < n → i ≢ k → f i ≡ g i) → sum_below n f + g k ≡ sum_below n g + f k
sum_below-change zero f g k h e = omega arith
sum_below-change (suc n) f g k h e =
    elim (cases_lt k n) [
      | inl a ↦ omega (arith, sum_below-change n f g k a (λ i b d. e i (omega arith) d), e n (omega arith) (omega arith))
      | inr a ↦ (let s : k ≡ n = omega arith in
          let rest = sum_below-same n f g (λ i b. e i (omega arith) (omega arith)) in
          rw s (omega (arith, rest)))
    ]

forward : (arc : Arc) (v : ℕ) → arc.from < arc.to → ◌≡◌ {A = ℕ} (cond (spans arc v) 1 0 + cond (ltb v arc.from) 1 0) (cond (ltb v arc.to) 1 0)
forward arc v h = grind (arith, nat_tests)

one_place : (u v : ℕ) → v ≢ u → ◌≡◌ {A = ℕ} (cond (ltb v (u + 1)) 1 0) (cond (ltb v u) 1 0)
one_place u v h = grind (arith, nat_tests)

same_place : (u : ℕ) → ◌≡◌ {A = ℕ} (cond (ltb u (u + 1)) 1 0) (cond (ltb u u) 1 0 + 1)
same_place u = grind (arith, nat_tests)

-- how many units cross a gap
abbrev pub cut_at : Network → Flow → ℕ → ℕ
cut_at line flow v = idle_at flow v + crossing_at line flow v

-- a flow for nothing
pub nothing_idle : (n v : ℕ) → ◌≡◌ {A = ℕ} (get_or (replicate n 0) v 0) 0
nothing_idle n v = elim (cases_lt v n) [ inl h ↦ get_or-replicate n v 0 0 h | inr h ↦ get_or_past (replicate n 0) v 0 (omega (arith, length-replicate {A = ℕ} n 0)) ]

pub nothing_carried : (n i : ℕ) → get_or (replicate n false) i false ≡ false
nothing_carried n i = elim (cases_lt i n) [ inl h ↦ get_or-replicate n i false false h | inr h ↦ get_or_past (replicate n false) i false (omega (arith, length-replicate {A = Bool} n false)) ]

pub empty_is_flow : (line : Network) → IsNetwork line → IsFlow line (empty_flow line)
empty_is_flow line network =
    flow_from_crosses line (empty_flow line) network (record {
      sized = record { rows = length-replicate {A = Bool} (length line.arcs) false; gaps = length-replicate {A = ℕ} (gaps_of line) 0 };
      crosses = λ v h.
          let none = sum_below-zero (length line.arcs) (λ i. cond (carries_unit (empty_flow line) i && spans (arc_at line i) v) 1 0) (λ i b. (let off = nothing_carried (length line.arcs) i in rw off refl)) in
          omega (arith, none, nothing_idle (gaps_of line) v);
      no_gap = λ _. refl;
    })

module _ (line : Network) (network : IsNetwork line) where
  module _ (flow : Flow) (sized : IsSized line flow) where
    idle_same : (u n : ℕ) → u + 1 < places_of line → get_or (set flow.idle u n) u 0 ≡ n
    idle_same u n h = get_or-set_same flow.idle u n 0 (omega (arith, sized.gaps))

    crossing_after : (i : ℕ) (b : Bool) (v : ℕ) → i < length line.arcs → crossing_at line (record flow { accepted = set flow.accepted i b }) v + cond (carries_unit flow i && spans (arc_at line i) v) 1 0 ≡ crossing_at line flow v + cond (b && spans (arc_at line i) v) 1 0
    crossing_after i b v h =
        let term = λ (c : Bool) (k : ℕ). cond {A = ℕ} (c && spans (arc_at line k) v) 1 0 in
        let new = λ (k : ℕ). get_or (set flow.accepted i b) k false in
        let at : new i ≡ b = get_or-set_same flow.accepted i b false (rw sized.rows h) in
        let change = sum_below-change (length line.arcs) (λ k. term (new k) k) (λ k. term (carries_unit flow k) k) i h (λ k c d. ap (λ (x : Bool). term x k) (get_or-set_other flow.accepted i k b false d)) in
        omega (arith, change, ap (λ (x : Bool). term x i) at)

    row_index : (part : Part) (row : ℕ) → HasRow part line row → row - 1 < length line.arcs
    row_index part row r = omega (arith, r.named, r.within)

    -- a step moves one unit's end: gaps before where it stood, against gaps before where it leads
    pub cut_after : (part : Part) (step : Step) → IsOpen part line flow step → (v : ℕ) → cut_at line (after_step flow step) v + cond (ltb v (step_from line step)) 1 0 ≡ cut_at line flow v + cond (ltb v (step_to line step)) 1 0
    cut_after part (Idle u) o v =
        elim (cases_eq v u) [
          | inl e ↦ (let new = idle_same u (get_or flow.idle u 0 + 1) o in let here = ap (λ (w : ℕ). get_or (set flow.idle u (get_or flow.idle u 0 + 1)) w 0) e in let same = ap (λ (w : ℕ). get_or flow.idle w 0) e in let place = same_place u in let l = ap (λ (w : ℕ). cond {A = ℕ} (ltb w u) 1 0) e in let r = ap (λ (w : ℕ). cond {A = ℕ} (ltb w (u + 1)) 1 0) e in omega (arith, new, here, same, place, l, r))
          | inr d ↦ omega (arith, get_or-set_other flow.idle u v (get_or flow.idle u 0 + 1) 0 d, one_place u v d)
        ]
    cut_after part (Back u) o v =
        elim (cases_eq v u) [
          | inl e ↦ (let new = idle_same u (get_or flow.idle u 0 - 1) o.0 in let here = ap (λ (w : ℕ). get_or (set flow.idle u (get_or flow.idle u 0 - 1)) w 0) e in let same = ap (λ (w : ℕ). get_or flow.idle w 0) e in let place = same_place u in let l = ap (λ (w : ℕ). cond {A = ℕ} (ltb w u) 1 0) e in let r = ap (λ (w : ℕ). cond {A = ℕ} (ltb w (u + 1)) 1 0) e in omega (arith, new, here, same, place, l, r, o.1))
          | inr d ↦ omega (arith, get_or-set_other flow.idle u v (get_or flow.idle u 0 - 1) 0 d, one_place u v d)
        ]
    cut_after part (Take row) o v =
        let i = row - 1 in
        let h = row_index part row o.there in
        let was = ap (λ (x : Bool). cond {A = ℕ} (x && spans (arc_at line i) v) 1 0) o.state in
        omega (arith, crossing_after i true v h, was, forward (arc_at line i) v (network.arcs i h).rising)
    cut_after part (Give row) o v =
        let i = row - 1 in
        let h = row_index part row o.there in
        let was = ap (λ (x : Bool). cond {A = ℕ} (x && spans (arc_at line i) v) 1 0) o.state in
        omega (arith, crossing_after i false v h, was, forward (arc_at line i) v (network.arcs i h).rising)

    pub sized_after : (step : Step) → IsSized line (after_step flow step)
    sized_after (Idle u) = record { rows = sized.rows; gaps = length-set flow.idle u (get_or flow.idle u 0 + 1) ∙ sized.gaps }
    sized_after (Back u) = record { rows = sized.rows; gaps = length-set flow.idle u (get_or flow.idle u 0 - 1) ∙ sized.gaps }
    sized_after (Take row) = record { rows = length-set flow.accepted (row - 1) true ∙ sized.rows; gaps = sized.gaps }
    sized_after (Give row) = record { rows = length-set flow.accepted (row - 1) false ∙ sized.rows; gaps = sized.gaps }

    pub can_take : (part : Part) (step : Step) → IsOpen part line flow step → ((v : ℕ) → v + 1 < places_of line → idle_at flow v < 255) → CanTake flow step
    can_take part (Idle u) o few = (omega (arith, sized.gaps, o), few u o)
    can_take part (Back u) o few = (omega (arith, sized.gaps, o.0), o.1)
    can_take part (Take row) o few = (o.there.named, omega (arith, o.there.within, sized.rows))
    can_take part (Give row) o few = (o.there.named, omega (arith, o.there.within, sized.rows))

-- what a write leaves elsewhere
pub elsewhere : {A : Type 0} (xs : List A) (i j : ℕ) (y d : A) → (j ≡ i) ⊎ (get_or (set xs i y) j d ≡ get_or xs j d)
elsewhere xs i j y d = elim (cases_eq j i) [ inl e ↦ inl e | inr n ↦ inr (get_or-set_other xs i j y d n) ]

-- one more idle unit takes none away
more_idle : (idle : List ℕ) (v u : ℕ) → 0 < get_or idle u 0 → 0 < get_or (set idle v (get_or idle v 0 + 1)) u 0
more_idle idle v u h =
    elim (cases_eq u v) [
      | inl e ↦ (
          let within : v < length idle = elim (cases_lt v (length idle)) [ inl a ↦ a | inr a ↦ absurd (omega (arith, h, ap (λ (w : ℕ). get_or idle w 0) e, get_or_past idle v 0 a)) ] in
          let here = ap (λ (w : ℕ). get_or (set idle v (get_or idle v 0 + 1)) w 0) e in
          omega (arith, here, get_or-set_same idle v (get_or idle v 0 + 1) 0 within))
      | inr n ↦ omega (arith, h, get_or-set_other idle v u (get_or idle v 0 + 1) 0 n)
    ]

module _ (part : Part) (line : Network) (flow : Flow) where
  -- two rows of one index are one row
  same_name : (r q : ℕ) → HasRow part line r → HasRow part line q → q - 1 ≡ r - 1 → q ≡ r
  same_name r q a b e = omega (arith, a.named, b.named, e)

  row_after : (r q : ℕ) (was now new : Bool) → IsRowAt part line flow r was → IsRowAt part line flow q now → (q - 1 ≡ r - 1 → ⊥) → IsRowAt part line (record flow { accepted = set flow.accepted (r - 1) new }) q now
  row_after r q was now new a b d = record { there = b.there; state = get_or-set_other flow.accepted (r - 1) (q - 1) new false d ∙ b.state }

  -- a step that begins elsewhere stays open
  pub open_after : (step other : Step) → IsOpen part line flow step → IsOpen part line flow other → step_from line step ≢ step_from line other → IsOpen part line (after_step flow step) other
  open_after (Idle v) (Idle u) o p d = p
  open_after (Idle v) (Take q) o p d = record { there = p.there; state = p.state }
  open_after (Idle v) (Give q) o p d = record { there = p.there; state = p.state }
  open_after (Idle v) (Back u) o p d =
      (p.0, more_idle flow.idle v u p.1)
  open_after (Back v) (Idle u) o p d = p
  open_after (Back v) (Take q) o p d = record { there = p.there; state = p.state }
  open_after (Back v) (Give q) o p d = record { there = p.there; state = p.state }
  open_after (Back v) (Back u) o p d =
      (p.0, subst (λ (m : ℕ). 0 < m) (sym (get_or-set_other flow.idle v u (get_or flow.idle v 0 - 1) 0 (λ e. d (omega (arith, e))))) p.1)
  open_after (Take r) (Idle u) o p d = p
  open_after (Take r) (Back u) o p d = p
  open_after (Take r) (Take q) o p d = row_after r q false false true o p (λ e. d (ap (λ (n : ℕ). step_from line (Take n)) (sym (same_name r q o.there p.there e))))
  open_after (Take r) (Give q) o p d = row_after r q false true true o p (λ e. (let s = ap (carries_unit flow) e in cc (o.state, p.state)))
  open_after (Give r) (Idle u) o p d = p
  open_after (Give r) (Back u) o p d = p
  open_after (Give r) (Give q) o p d = row_after r q true true false o p (λ e. d (ap (λ (n : ℕ). step_from line (Give n)) (sym (same_name r q o.there p.there e))))
  open_after (Give r) (Take q) o p d = row_after r q true false false o p (λ e. (let s = ap (carries_unit flow) e in cc (o.state, p.state)))

-- a walk stays open while a unit takes a step from a place that it does not meet
walk_after : (part : Part) (line : Network) (flow : Flow) (step : Step) (from to : ℕ) (walk : List Step) → IsOpen part line flow step → Avoids line (step_from line step) from walk → IsWalk part line flow from to walk → IsWalk part line (after_step flow step) from to walk
walk_after part line flow step from to [] o a w = w
walk_after part line flow step from to (s ∷ walk) o a w =
    (open_after part line flow step s o w.0 (λ e. a.0 (e ∙ w.1)), w.1, walk_after part line flow step (step_to line s) to walk o a.1 w.2)

-- each gap before a place is crossed by one unit more, and each other gap by all units
pub record CrossesUpTo (line : Network) (flow : Flow) (units place : ℕ) : Type 0 where
  pub sized : IsSized line flow
  pub cuts : (v : ℕ) → v + 1 < places_of line → cut_at line flow v ≡ units + cond (ltb v place) 1 0

one_at_most : (b : Bool) → cond {A = ℕ} b 1 0 ≤ 1
one_at_most true = omega arith
one_at_most false = omega arith

crosses_after : (line : Network) → IsNetwork line → (part : Part) (flow : Flow) (units from : ℕ) (step : Step) → IsOpen part line flow step → step_from line step ≡ from → CrossesUpTo line flow units from → CrossesUpTo line (after_step flow step) units (step_to line step)
crosses_after line network part flow units from step o e c =
    record {
      sized = sized_after line network flow c.sized step;
      cuts = λ v h. (let here = ap (λ (p : ℕ). cond {A = ℕ} (ltb v p) 1 0) e in omega (arith, cut_after line network flow c.sized part step o v, c.cuts v h, here));
    }

pub record TakesAll (line : Network) (flow : Flow) (units to : ℕ) (walk : List Step) : Type 0 where
  pub can : CanTakeAll flow walk
  pub after : CrossesUpTo line (after_walk flow walk) units to

takes_all : (line : Network) → IsNetwork line → (part : Part) (units : ℕ) → units < 250 → (flow : Flow) (from to : ℕ) (walk : List Step) → CrossesUpTo line flow units from → IsWalk part line flow from to walk → IsSimple line from walk → TakesAll line flow units to walk
takes_all line network part units few flow from to [] c w s = record { can = tt; after = subst (CrossesUpTo line flow units) w c }
takes_all line network part units few flow from to (step ∷ walk) c w s =
    let next = crosses_after line network part flow units from step w.0 w.1 c in
    let clear = subst (λ p. Avoids line p (step_to line step) walk) (sym w.1) s.0 in
    let rest = walk_after part line flow step (step_to line step) to walk w.0 clear w.2 in
    let more = takes_all line network part units few (after_step flow step) (step_to line step) to walk next rest s.1 in
    record {
      can = (can_take line network flow c.sized part step w.0 (λ v h. omega (arith, c.cuts v h, one_at_most (ltb v from))), more.can);
      after = more.after;
    }

module _ (line : Network) (network : IsNetwork line) (flow : Flow) (is_flow : IsFlow line flow) (walk : List Step) (path : IsPath Whole line flow walk) (room : flow.units < 30) where
  start : CrossesUpTo line flow flow.units 0
  start =
      let crosses = crosses_from_flow line flow network is_flow in
      record { sized = crosses.sized; cuts = λ v h. (let none = cond-false {A = ℕ} (ltb v 0) 1 0 (grind (arith, nat_tests)) in omega (arith, crosses.crosses v h, none)) }

  pub takes_path : TakesAll line flow flow.units (places_of line - 1) walk
  takes_path = takes_all line network Whole flow.units (omega (arith, room)) flow 0 (places_of line - 1) walk start path.leads (simple_from_pairs line 0 walk path.once)

  pub sent_is_flow : IsFlow line (sent flow walk)
  sent_is_flow =
      flow_from_crosses line (sent flow walk) network (record {
        sized = record { rows = takes_path.after.sized.rows; gaps = takes_path.after.sized.gaps };
        crosses = λ v h.
            let last = cond-true {A = ℕ} (ltb v (places_of line - 1)) 1 0 (lt-ltb v (places_of line - 1) (omega arith)) in
            omega (arith, takes_path.after.cuts v h, last);
        no_gap = λ few. absurd (omega (arith, few, network.two_ends path.some_place));
      })

-- steps change no count of units
pub units_same : (flow : Flow) (walk : List Step) → (after_walk flow walk).units ≡ flow.units
units_same flow [] = refl
units_same flow (Idle v ∷ walk) = units_same (after_step flow (Idle v)) walk
units_same flow (Back v ∷ walk) = units_same (after_step flow (Back v)) walk
units_same flow (Take r ∷ walk) = units_same (after_step flow (Take r)) walk
units_same flow (Give r ∷ walk) = units_same (after_step flow (Give r)) walk

-- what is left of a walk, from its next step on
pub next_step : (walk : List Step) (k : ℕ) → k < length walk → drop k walk ≡ get_or walk k (Idle 0) ∷ drop (k + 1) walk
next_step walk k h = rw add-one (drop-cons walk k (Idle 0) h)

-- one more unit has taken the walk
pub sent_is : (flow now : Flow) (walk : List Step) → now ≡ after_walk flow walk → record now { units = now.units + 1 } ≡ sent flow walk
sent_is flow now walk e =
    let units : now.units ≡ flow.units = ap (λ (f : Flow). f.units) e ∙ units_same flow walk in
    subst (λ (n : ℕ). record now { units = n + 1 } ≡ sent flow walk) (sym units) (ap (λ (f : Flow). record f { units = flow.units + 1 }) e)
