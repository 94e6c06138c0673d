use Rattle.std.proofs.Common.{◌-◌, List, Bool, map, not, slice_set, get_or, OnOk, ap, subst, sym, ◌∙◌}
use Rattle.std.proofs.lemmas.List.{get_or_default}
use Rattle.bx_base.specs.Bookings.{Row}
use Rattle.bx_day.specs.Day.{no_entry}
use Rattle.bx_day.specs.Invariant.{is_refused}
use Rattle.bx_day.specs.declared.entry.Entry.{Entry}
use Rattle.bx_sales.specs.Changing.{IsPromised}
use Rattle.bx_sales.specs.GoingOn.{KeepsBegun, GoesOnBeside}
use Rattle.bx_sales.specs.Selling.{marks_of}
use Rattle.bx_sales.proofs.Keeping.{keeps_changed}
use Rattle.bx_sales.proofs.RowChanges.{ok_then, entry_there, may_there}
use Rattle.bx_sales.proofs.changing.change.Goals as goal

pub go_on_changed-requires-clause-keeps : goal.go_on_changed-requires-clause-keeps
go_on_changed-requires-clause-keeps c =
    let d = c.args.exchange.now in
    let row = c.args.row in
    let promised = subst (λ (es : List Entry). IsPromised es row) c.entries.ensures (c.is_promised.ensures.0 c.if-not-is_promised.false) in
    let there = entry_there d row promised c.entries-2.result.now (get_or c.entries-2.result.now (row - 1) c.index-entries-place.result) c.entries-2.ensures (λ inside. get_or_default c.entries-2.result.now (row - 1) c.index-entries-place.result no_entry inside) in
    let may = may_there d row promised c.moment-moment.result c.index-entries-place.result c.args.booking c.moment-moment.ensures.value (c.index-entries-place.is ∙ there) (c.may_become.ensures.0 c.if-not-may_become.false) in
    let rows_are = c.in-Ok.ensures ∙ ap (λ (es : List Entry). slice_set (map (λ (e : Entry). e.booking) es) (row - 1) c.args.booking) c.entries-3.ensures in
    let marks_are = c.deref.ensures.value ∙ c.in-Ok-marks_of.ensures ∙ ap (λ (es : List Entry). map (λ (e : Entry). not (is_refused e.standing)) es) c.entries-4.ensures in
    subst (λ (ms : List Bool). KeepsBegun d c.in-Ok.bookings ms) (sym marks_are)
    (subst (λ (rs : List Row). KeepsBegun d rs (marks_of d)) (sym rows_are) (keeps_changed d c.moment-moment.ensures.state row c.args.booking may))

pub returns-clause-changed : goal.returns-clause-changed
returns-clause-changed c =
    let d = c.args.exchange.now in
    let row = c.args.row in
    let promised = subst (λ (es : List Entry). IsPromised es row) c.entries.ensures (c.is_promised.ensures.0 c.if-not-is_promised.false) in
    let there = entry_there d row promised c.entries-2.result.now (get_or c.entries-2.result.now (row - 1) c.index-entries-place.result) c.entries-2.ensures (λ inside. get_or_default c.entries-2.result.now (row - 1) c.index-entries-place.result no_entry inside) in
    let may = may_there d row promised c.moment-moment.result c.index-entries-place.result c.args.booking c.moment-moment.ensures.value (c.index-entries-place.is ∙ there) (c.may_become.ensures.0 c.if-not-may_become.false) in
    let rows_are = c.in-Ok.ensures ∙ ap (λ (es : List Entry). slice_set (map (λ (e : Entry). e.booking) es) (row - 1) c.args.booking) c.entries-3.ensures in
    let marks_are = c.deref.ensures.value ∙ c.in-Ok-marks_of.ensures ∙ ap (λ (es : List Entry). map (λ (e : Entry). not (is_refused e.standing)) es) c.entries-4.ensures in
    ok_then c.go_on_changed.result (λ gone. record { may = may; gone_on = gone })
    (subst (λ (rs : List Row). OnOk c.go_on_changed.result (GoesOnBeside c.args.channels rs (marks_of d) d c.go_on_changed.new.exchange)) rows_are
    (subst (λ (ms : List Bool). OnOk c.go_on_changed.result (GoesOnBeside c.args.channels c.in-Ok.bookings ms d c.go_on_changed.new.exchange)) marks_are c.go_on_changed.ensures.gone_on))
