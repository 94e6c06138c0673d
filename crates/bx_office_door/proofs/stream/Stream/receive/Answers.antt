use Rattle.std.proofs.Common.{rules, arith}
use Rattle.bx_office_door.specs.Streams.{IsCome}
use Rattle.bx_office_door.proofs.Counted.{count_within}
use Rattle.bx_office_door.proofs.stream.Stream.receive.Goals as goal

pub invariant_of-self : goal.invariant_of-self
invariant_of-self c =
    let fits : IsCome c.came_of-self.result 4096 = search rules in
    let few = count_within c.came_of-self.result 4096 fits in
    record { within = omega (arith, few, c.octet_count-self.ensures) }
