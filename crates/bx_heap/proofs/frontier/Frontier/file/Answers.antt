use Rattle.std.proofs.Common.{◌≡◌, ◌∙◌, ℕ, List, pos, length, get_or, ap, arith}
use Rattle.std.proofs.lemmas.Int.{ints}
use Rattle.std.specs.BinaryHeap.{heap_items}
use Rattle.bx_heap.specs.Searching.{state_from, setting_of, nearness_at}
use Rattle.bx_heap.proofs.Queueing.{filed, fresh_none}
use Rattle.bx_heap.proofs.Sound.{roomy_from_sound, sound_after}
use Rattle.bx_heap.proofs.frontier.Frontier.file.Goals as goal

pub next_of-requires : goal.next_of-requires
next_of-requires c = λ v h.
    let heights = c.args.potentials.now in
    let roomy = roomy_from_sound heights (state_from c.loop-place.self) (sound_after heights (state_from c.args.self.now) (state_from c.loop-place.self) c.requires c.loop-place.invariant.resting) in
    omega (arith, roomy.fresh v h, roomy.ranks_each, ap (length {A = ℕ}) c.deref.ensures.value)

pub reduced-requires-clause-within : goal.reduced-requires-clause-within
reduced-requires-clause-within c =
    let heights = c.args.potentials.now in
    let roomy = roomy_from_sound heights (state_from c.loop-place.self) (sound_after heights (state_from c.args.self.now) (state_from c.loop-place.self) c.requires c.loop-place.invariant.resting) in
    roomy.fresh c.in-Some.place c.in-Some.ensures.some.0

pub reduced-requires-clause-medium : goal.reduced-requires-clause-medium
reduced-requires-clause-medium c =
    let heights = c.args.potentials.now in
    (roomy_from_sound heights (state_from c.loop-place.self) (sound_after heights (state_from c.args.self.now) (state_from c.loop-place.self) c.requires c.loop-place.invariant.resting)).medium

pub reduced-requires-clause-one_each : goal.reduced-requires-clause-one_each
reduced-requires-clause-one_each c =
    let heights = c.args.potentials.now in
    (roomy_from_sound heights (state_from c.loop-place.self) (sound_after heights (state_from c.args.self.now) (state_from c.loop-place.self) c.requires c.loop-place.invariant.resting)).heights_each

pub loop-place-preserved : goal.loop-place-preserved
loop-place-preserved c =
    let st = state_from c.loop-place.self in
    let place = c.in-Some.place in
    let n = c.nearness-nearness.result in
    let next = c.in-Some.ensures in
    let near : pos n ≡ nearness_at c.args.potentials.now st.lengths place = omega (arith, ints, c.nearness-nearness.ensures, c.reduced.ensures.value) in
    record {
      resting = λ part line flow before.
          filed (setting_of part line flow c.args.potentials.now) st (c.loop-place.invariant.resting part line flow before) c.next_of.new.places.items (heap_items c.push.new.self.places) place n (record { kept = λ v h u. next.kept v h (ap (λ (xs : List ℕ). get_or xs v 0) c.deref.ensures.value ∙ u); only = next.only }) next.some.0 near c.in_ok-push.ensures;
      tight = c.loop-place.invariant.tight;
      count = c.loop-place.invariant.count;
    }

pub returns-clause-resting : goal.returns-clause-resting
returns-clause-resting c = λ part line flow before.
    let next = c.in_default.ensures in
    fresh_none (setting_of part line flow c.args.potentials.now) (state_from c.loop-place.self) (c.loop-place.invariant.resting part line flow before) c.next_of.new.places.items (record { kept = λ v h u. next.kept v h (ap (λ (xs : List ℕ). get_or xs v 0) c.deref.ensures.value ∙ u); only = next.only })
