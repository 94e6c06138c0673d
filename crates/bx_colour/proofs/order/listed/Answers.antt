use Rattle.std.proofs.Common.{◌∙◌, ap, arith}
use Rattle.bx_base.specs.Bookings.{Row}
use Rattle.std.proofs.Common.{length, sym}
use Rattle.std.proofs.lemmas.Bool.{false≢true}
use Rattle.bx_base.proofs.Orders.{listed_skip, listed_more}
use Rattle.bx_colour.specs.Orders.{IsAccepted, row_start_of}
use Rattle.bx_colour.proofs.order.listed.Goals as goal
use Rattle.bx_colour.proofs.order.listed.Goals.{then-accepted-i+in_ok-push, else-accepted-i}

pub loop-i-preserved : goal.loop-i-preserved
loop-i-preserved c =
    elim c.if-accepted-i.branch [
      | then-accepted-i+in_ok-push w ↦ rw (w.order-is, w.in_ok-push.ensures.items) (listed_more (length c.args.bookings.now) (IsAccepted c.args.accepted.now) (row_start_of c.args.bookings.now) c.loop-i.i c.loop-i.order.items w.start.result (omega arith) w.if-accepted-i.true (w.start.ensures.value ∙ ap (λ (r : Row). r.start) w.nth.ensures.value) c.loop-i.invariant)
      | else-accepted-i w ↦ rw w.order-is (listed_skip (length c.args.bookings.now) (IsAccepted c.args.accepted.now) (row_start_of c.args.bookings.now) c.loop-i.i c.loop-i.order.items (λ t. false≢true (sym w.if-accepted-i.false ∙ t)) c.loop-i.invariant)
    ]
