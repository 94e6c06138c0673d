use Rattle.std.proofs.Common.{take}
use Rattle.bx_live.specs.Chains.{Chain}
use Rattle.bx_line_world.specs.Serving.{GivesMessage}
use Rattle.bx_line_world.proofs.line.Line.give_all.Given as goal

abbrev pub invariant-loop-message : goal.invariant-loop-message
invariant-loop-message g l = Chain (GivesMessage g.W.Wire.did) l.fn.self (take l.message-index l.messages) l.self
