use Rattle.std.proofs.Common.{◌∙◌, ℕ, List, length, get_or, sym, ap, arith}
use Rattle.bx_heap.specs.Searching.{state_from, setting_of}
use Rattle.bx_heap.proofs.Queueing.{tight_next, tight_none}
use Rattle.bx_heap.proofs.Sound.{roomy_from_sound, sound_after}
use Rattle.bx_heap.proofs.frontier.Frontier.next.Goals as goal

pub next_of-requires : goal.next_of-requires
next_of-requires c = λ v h.
    let roomy = roomy_from_sound c.args.potentials.now (state_from c.args.self.now) c.requires in
    omega (arith, roomy.tight v h, roomy.ranks_each, ap (length {A = ℕ}) c.deref.ensures.value)

pub returns-in-Some-clause-next : goal.returns-in-Some-clause-next
returns-in-Some-clause-next c = λ part line flow setting resting.
    let next = c.in-Some.ensures in
    let same = λ (v : ℕ). ap (λ (xs : List ℕ). get_or xs v 0) c.deref.ensures.value in
    tight_next (setting_of part line flow c.args.potentials.now) (state_from c.args.self.now) resting c.next_of.new.places.items c.in-Some.place (record { kept = λ v h u. next.kept v h (same v ∙ u); only = next.only }) next.some.0 (sym (same c.in-Some.place) ∙ next.some.1)

pub file-requires : goal.file-requires
file-requires c =
    let heights = c.args.potentials.now in
    let st = state_from c.args.self.now in
    let places = c.next_of.new.places.items in
    let next = c.in_default.ensures in
    let same = λ (v : ℕ). ap (λ (xs : List ℕ). get_or xs v 0) c.deref.ensures.value in
    sound_after heights st (record st { tight = places }) c.requires (λ part line flow resting. tight_none (setting_of part line flow heights) st resting places (record { kept = λ v h u. next.kept v h (same v ∙ u); only = next.only }))

pub next_waiting-requires-clause-sound : goal.next_waiting-requires-clause-sound
next_waiting-requires-clause-sound c =
    let heights = c.args.potentials.now in
    let st = state_from c.args.self.now in
    let places = c.next_of.new.places.items in
    let next = c.in_default.ensures in
    let same = λ (v : ℕ). ap (λ (xs : List ℕ). get_or xs v 0) c.deref.ensures.value in
    let sound = sound_after heights st (record st { tight = places }) c.requires (λ part line flow resting. tight_none (setting_of part line flow heights) st resting places (record { kept = λ v h u. next.kept v h (same v ∙ u); only = next.only })) in
    sound_after heights (record st { tight = places }) (state_from c.file.new.self) sound c.in_ok-file.ensures.resting

pub returns-clause-next : goal.returns-clause-next
returns-clause-next c = λ part line flow setting resting.
    let heights = c.args.potentials.now in
    let st = state_from c.args.self.now in
    let places = c.next_of.new.places.items in
    let next = c.in_default.ensures in
    let same = λ (v : ℕ). ap (λ (xs : List ℕ). get_or xs v 0) c.deref.ensures.value in
    let emptied = tight_none (setting_of part line flow heights) st resting places (record { kept = λ v h u. next.kept v h (same v ∙ u); only = next.only }) in
    rw c.in_ok-file.ensures.count at (c.next_waiting.ensures.next part line flow setting (c.in_ok-file.ensures.resting part line flow emptied))
