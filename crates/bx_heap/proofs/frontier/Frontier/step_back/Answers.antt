use Rattle.std.proofs.Common.{◌-◌, arith}
use Rattle.bx_heap.specs.Searching.{state_from, setting_of, IsLeftToTake}
use Rattle.bx_heap.proofs.Searches.{search_room, fits_part, back_taken}
use Rattle.bx_heap.proofs.frontier.Frontier.step_back.Goals as goal

pub take_step-requires-clause-room : goal.take_step-requires-clause-room
take_step-requires-clause-room c =
    let s = setting_of c.args.part c.args.line.now c.args.carried.now c.args.potentials.now in
    search_room s (state_from c.args.self.now) (λ _. ⊥) (IsLeftToTake c.args.line.now c.args.place 0) c.requires.setting c.requires.settling.search

pub returns-clause-settling : goal.returns-clause-settling
returns-clause-settling c =
    let s = setting_of c.args.part c.args.line.now c.args.carried.now c.args.potentials.now in
    back_taken s c.requires.setting.limits (fits_part s c.requires.setting) (state_from c.args.self.now) (state_from c.take_step.new.self) c.args.place (c.args.place - 1) (omega arith) c.requires.settling c.in_ok-take_step.ensures
