use Rattle.std.proofs.Common.{length}
use Rattle.bx_base.proofs.Orders.{order_from_listed}
use Rattle.bx_colour.specs.Orders.{IsAccepted, row_start_of}
use Rattle.bx_colour.proofs.order.in_order.Goals as goal

pub returns : goal.returns
returns c =
    order_from_listed (length c.args.bookings.now) (IsAccepted c.args.accepted.now) (row_start_of c.args.bookings.now) c.in_ok-order.order.items c.sort_unstable.new.self.items c.in_ok-order.ensures c.sort_unstable.ensures.permutation c.sort_unstable.ensures.sorted
