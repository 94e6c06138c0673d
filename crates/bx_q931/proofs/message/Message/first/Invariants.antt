use Rattle.std.proofs.Common.{◌≡◌}
use Rattle.bx_q931.specs.Elements.{elements_of}
use Rattle.bx_q931.specs.Values.{first_in}
use Rattle.bx_q931.proofs.message.Message.first.Given as goal

abbrev pub invariant-loop-element : goal.invariant-loop-element
invariant-loop-element l = first_in l.id l.element-iterator ≡ first_in l.id (elements_of l.self.items)
