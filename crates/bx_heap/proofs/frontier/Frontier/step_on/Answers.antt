use Rattle.std.proofs.Common.{rules}
use Rattle.bx_heap.specs.Searching.{state_from, setting_of, IsLeftToTake}
use Rattle.bx_heap.proofs.Searches.{search_room, fits_part, idle_taken, resting_after}
use Rattle.bx_heap.proofs.frontier.Frontier.step_on.Goals as goal

pub take_step-requires-clause-room : goal.take_step-requires-clause-room
take_step-requires-clause-room c =
    let s = setting_of c.args.part c.args.line.now c.args.carried.now c.args.potentials.now in
    search_room s (state_from c.args.self.now) (λ _. ⊥) (IsLeftToTake c.args.line.now c.args.place 3) c.requires.setting c.requires.settling.search

pub returns-clause-resting : goal.returns-clause-resting
returns-clause-resting c =
    let s = setting_of c.args.part c.args.line.now c.args.carried.now c.args.potentials.now in
    let fits = fits_part s c.requires.setting in
    let after = state_from c.take_step.new.self in
    resting_after s c.requires.setting.limits fits after c.args.place (idle_taken s c.requires.setting.limits fits (state_from c.args.self.now) after c.args.place c.requires.settling c.in_ok-take_step.ensures)

pub returns-then-place-places-clause-resting : goal.returns-then-place-places-clause-resting
returns-then-place-places-clause-resting c = search rules steps 2000000
