use Rattle.std.proofs.Common.{length}
use Rattle.bx_base.proofs.Orders.{order_from_listed}
use Rattle.bx_day.specs.Linking.{IsOffered, begins}
use Rattle.bx_day.proofs.linking.by_start.Goals as goal

pub returns : goal.returns
returns c = order_from_listed (length c.args.entries.now) (IsOffered c.args.entries.now) (begins c.args.entries.now) c.in_ok-order.order.items c.sort_unstable.new.self.items c.in_ok-order.ensures c.sort_unstable.ensures.permutation c.sort_unstable.ensures.sorted
