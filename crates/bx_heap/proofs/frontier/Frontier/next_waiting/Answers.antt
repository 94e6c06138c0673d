use Rattle.std.proofs.Common.{◌≡◌, ◌≤◌, ◌∙◌, ℕ, List, ℤ, nat_abs, to_z, of_z, w64, length, get_or, ap, subst, arith}
use Rattle.std.proofs.lemmas.Int.{ints}
use Rattle.std.specs.BinaryHeap.{heap_items}
use Rattle.bx_heap.specs.Nearness.{IsNearest}
use Rattle.bx_heap.specs.Searching.{state_from, setting_of}
use Rattle.bx_heap.proofs.Queueing.{heap_next, heap_none}
use Rattle.bx_heap.proofs.Searches.{fits_part}
use Rattle.bx_heap.proofs.Sound.{roomy_from_sound}
use Rattle.bx_heap.proofs.frontier.Frontier.next_waiting.Goals as goal

computed : (x : ℤ) → nat_abs x ≤ 1660000000000000000 → to_z w64 (of_z w64 x) ≡ x
computed x h = omega (arith, ints)

pub next_unsettled-requires : goal.next_unsettled-requires
next_unsettled-requires c = λ n v h.
    let roomy = roomy_from_sound c.args.potentials.now (state_from c.args.self.now) c.requires.sound in
    omega (arith, roomy.waiting n v h, roomy.ranks_each, ap (length {A = ℕ}) c.deref.ensures.value)

pub reduced-self-requires-clause-within : goal.reduced-self-requires-clause-within
reduced-self-requires-clause-within c =
    let nearest = c.in_ok-place.ensures.nearest in
    (roomy_from_sound c.args.potentials.now (state_from c.args.self.now) c.requires.sound).waiting nearest.0 c.in_ok-place.place nearest.1

pub reduced-self-requires-clause-medium : goal.reduced-self-requires-clause-medium
reduced-self-requires-clause-medium c =
    (roomy_from_sound c.args.potentials.now (state_from c.args.self.now) c.requires.sound).medium

pub reduced-self-requires-clause-one_each : goal.reduced-self-requires-clause-one_each
reduced-self-requires-clause-one_each c =
    (roomy_from_sound c.args.potentials.now (state_from c.args.self.now) c.requires.sound).heights_each

pub returns-in_err-place-clause-next : goal.returns-in_err-place-clause-next
returns-in_err-place-clause-next c = λ part line flow setting resting.
    let s = setting_of part line flow c.args.potentials.now in
    let none = c.in_err-place.ensures in
    rw c.from_residual.ensures (heap_none s (state_from c.args.self.now) resting setting.limits (fits_part s setting) c.requires.tight c.requires.fresh (heap_items c.next_unsettled.new.self.places) (λ n v h u. none.kept n v h (ap (λ (xs : List ℕ). get_or xs v 0) c.deref.ensures.value ∙ u)) none.none)

pub returns-clause-next : goal.returns-clause-next
returns-clause-next c = λ part line flow setting resting.
    let s = setting_of part line flow c.args.potentials.now in
    let st = state_from c.args.self.now in
    let place = c.in_ok-place.place in
    let next = c.in_ok-place.ensures in
    let level = to_z w64 (of_z w64 c.reduced-self.result) in
    let nearest = subst (λ (xs : List ℕ). IsNearest xs st.waiting place) c.deref.ensures.value next.nearest in
    heap_next s st resting setting.limits (fits_part s setting) c.requires.tight c.requires.fresh (heap_items c.next_unsettled.new.self.places) place level (λ n v h u. next.kept n v h (ap (λ (xs : List ℕ). get_or xs v 0) c.deref.ensures.value ∙ u)) next.only nearest (computed c.reduced-self.result c.reduced-self.ensures.small ∙ c.reduced-self.ensures.value)
