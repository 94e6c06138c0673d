use Rattle.std.proofs.Common.{◌≡◌, arith, sym, subst}
use Rattle.bx_heap.specs.Searching.{State, state_from, setting_of, IsSettling, IsLeftToTake}
use Rattle.bx_heap.proofs.Searches.{fits_part}
use Rattle.bx_heap.proofs.Settled.{count_few, settling_begins}
use Rattle.bx_heap.proofs.frontier.Frontier.settle.Goals as goal

pub mark-requires-clause-few : goal.mark-requires-clause-few
mark-requires-clause-few c =
    let s = setting_of c.args.part c.args.line.now c.args.carried.now c.args.potentials.now in
    omega (arith, count_few s (state_from c.args.self.now) (λ v. v ≡ c.args.place) (λ _. ⊥) c.requires.in_hand.search, c.requires.setting.limits.few_places)

pub step_back-requires-clause-settling : goal.step_back-requires-clause-settling
step_back-requires-clause-settling c =
    let s = setting_of c.args.part c.args.line.now c.args.carried.now c.args.potentials.now in
    subst (λ (st : State). IsSettling s st c.args.place (IsLeftToTake s.line c.args.place 0)) (sym c.mark.ensures) (settling_begins s c.requires.setting.limits (fits_part s c.requires.setting) (state_from c.args.self.now) c.args.place c.requires.in_hand)
