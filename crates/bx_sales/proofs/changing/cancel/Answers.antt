use Rattle.std.proofs.Common.{◌<◌, List, Bool, false, map, not, slice_set, get_or, OnOk, ap, subst, ◌-◌, ◌∙◌, arith}
use Rattle.std.proofs.lemmas.List.{get_or_default}
use Rattle.bx_base.specs.Bookings.{Row}
use Rattle.bx_day.specs.Day.{entry_at, no_entry}
use Rattle.bx_day.specs.Invariant.{is_refused}
use Rattle.bx_day.specs.declared.entry.Entry.{Entry}
use Rattle.bx_sales.specs.Changing.{IsPromised, marks_without}
use Rattle.bx_sales.specs.GoingOn.{GoesOnBeside}
use Rattle.bx_sales.proofs.RowChanges.{ok_then, entry_there}
use Rattle.bx_sales.proofs.changing.cancel.Goals as goal

pub returns-clause-cancelled : goal.returns-clause-cancelled
returns-clause-cancelled c =
    let d = c.args.exchange.now in
    let row = c.args.row in
    let promised = subst (λ (es : List Entry). IsPromised es row) c.entries.ensures (c.is_promised.ensures.0 c.if-not-is_promised.false) in
    let there = entry_there d row promised c.entries-2.result.now (get_or c.entries-2.result.now (row - 1) c.index-entries-place.result) c.entries-2.ensures (λ inside. get_or_default c.entries-2.result.now (row - 1) c.index-entries-place.result no_entry inside) in
    let start = ap (λ (e : Entry). e.booking.start) there in
    let ahead : d.moment < (entry_at d.entries (row - 1)).booking.start = omega (arith, c.if-start-moment.false, c.start.ensures.value, c.moment-moment.ensures.value, start) in
    let rows_are = c.in-Ok.ensures ∙ ap (λ (es : List Entry). map (λ (e : Entry). e.booking) es) c.entries-3.ensures in
    let marks_are = c.deref.ensures.value ∙ c.in-Ok-marks_without.ensures ∙ ap (λ (es : List Entry). slice_set (map (λ (e : Entry). not (is_refused e.standing)) es) (row - 1) false) c.entries-4.ensures in
    ok_then c.go_on_changed.result (λ gone. record { may = record { promised = promised; ahead = ahead }; gone_on = gone })
    (subst (λ (rs : List Row). OnOk c.go_on_changed.result (GoesOnBeside c.args.channels rs (marks_without d row) d c.go_on_changed.new.exchange)) rows_are
    (subst (λ (ms : List Bool). OnOk c.go_on_changed.result (GoesOnBeside c.args.channels c.in-Ok.bookings ms d c.go_on_changed.new.exchange)) marks_are c.go_on_changed.ensures.gone_on))
