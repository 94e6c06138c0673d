use Rattle.std.proofs.Common.{List, Bool, map, not, ap, subst, sym, ◌∙◌}
use Rattle.bx_base.specs.Bookings.{Row}
use Rattle.bx_day.specs.Invariant.{is_refused}
use Rattle.bx_day.specs.declared.entry.Entry.{Entry}
use Rattle.bx_sales.specs.GoingOn.{KeepsBegun}
use Rattle.bx_sales.specs.Selling.{marks_of}
use Rattle.bx_sales.proofs.Keeping.{keeps_same}
use Rattle.bx_sales.proofs.recolouring.recolour.Goals as goal

pub go_on_changed-requires-clause-keeps : goal.go_on_changed-requires-clause-keeps
go_on_changed-requires-clause-keeps c =
    let d = c.args.exchange.now in
    let rows_are = c.in-Ok.ensures ∙ ap (λ (es : List Entry). map (λ (e : Entry). e.booking) es) c.entries.ensures in
    let marks_are = c.deref.ensures.value ∙ c.in-Ok-marks_of.ensures ∙ ap (λ (es : List Entry). map (λ (e : Entry). not (is_refused e.standing)) es) c.entries-2.ensures in
    subst (λ (ms : List Bool). KeepsBegun d c.in-Ok.bookings ms) (sym marks_are) (subst (λ (rs : List Row). KeepsBegun d rs (marks_of d)) (sym rows_are) (keeps_same d c.moment-moment.ensures.state))
