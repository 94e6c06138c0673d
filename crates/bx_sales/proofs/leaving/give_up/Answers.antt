use Rattle.std.proofs.Common.{ℕ, List, Option, None, map, slice_set, get_or, OnOk, ap, subst, sym, ◌∙◌, ◌-◌, ◌<◌, ◌≤◌, arith}
use Rattle.std.proofs.lemmas.List.{get_or_default}
use Rattle.bx_day.specs.Day.{no_entry}
use Rattle.bx_day.specs.declared.entry.Entry.{Entry}
use Rattle.bx_sales.specs.Changing.{IsPromised}
use Rattle.bx_sales.specs.Leaving.{promised_channel, promised_channels}
use Rattle.bx_sales.specs.Selling.{rows_of}
use Rattle.bx_sales.proofs.RowChanges.{ok_then, entry_there}
use Rattle.bx_sales.proofs.Still.{may_be_dropped, agrees_found, apart_found, still_found, dropped_agrees, dropped_apart}
use Rattle.bx_sales.proofs.leaving.give_up.Goals as goal

pub go_on_still-requires-clause-agrees : goal.go_on_still-requires-clause-agrees
go_on_still-requires-clause-agrees c =
    let d = c.args.exchange.now in
    let row = c.args.row in
    let promised = subst (λ (es : List Entry). IsPromised es row) c.entries.ensures (c.is_promised.ensures.0 c.if-not-is_promised.false) in
    let e = get_or c.entries-2.result.now (row - 1) c.index-entries-place.result in
    let there = entry_there d row promised c.entries-2.result.now e c.entries-2.ensures (λ inside. get_or_default c.entries-2.result.now (row - 1) c.index-entries-place.result no_entry inside) in
    let may = may_be_dropped d row c.moment-moment.result e promised (c.is_any_stranded.ensures.0 c.if-not-is_any_stranded.false) c.moment-moment.ensures.value there (omega (arith, c.if-start-moment.false, c.start.ensures.value)) in
    let rows_are = c.in-Ok.ensures ∙ ap (λ (es : List Entry). map (λ (x : Entry). x.booking) es) c.entries-3.ensures in
    let given_are = ap (λ (a : List (Option ℕ)). slice_set a (row - 1) None) (c.in-Ok-promised_channels.ensures ∙ ap (λ (es : List Entry). map promised_channel es) c.entries-4.ensures) in
    agrees_found d (rows_of d) c.in-Ok.bookings (slice_set (promised_channels d) (row - 1) None) (slice_set c.in-Ok-promised_channels.assigned.items (row - 1) None) rows_are given_are (dropped_agrees d c.moment-moment.ensures.state row may)

pub go_on_still-requires-clause-apart : goal.go_on_still-requires-clause-apart
go_on_still-requires-clause-apart c =
    let d = c.args.exchange.now in
    let row = c.args.row in
    let promised = subst (λ (es : List Entry). IsPromised es row) c.entries.ensures (c.is_promised.ensures.0 c.if-not-is_promised.false) in
    let e = get_or c.entries-2.result.now (row - 1) c.index-entries-place.result in
    let there = entry_there d row promised c.entries-2.result.now e c.entries-2.ensures (λ inside. get_or_default c.entries-2.result.now (row - 1) c.index-entries-place.result no_entry inside) in
    let may = may_be_dropped d row c.moment-moment.result e promised (c.is_any_stranded.ensures.0 c.if-not-is_any_stranded.false) c.moment-moment.ensures.value there (omega (arith, c.if-start-moment.false, c.start.ensures.value)) in
    let rows_are = c.in-Ok.ensures ∙ ap (λ (es : List Entry). map (λ (x : Entry). x.booking) es) c.entries-3.ensures in
    let given_are = ap (λ (a : List (Option ℕ)). slice_set a (row - 1) None) (c.in-Ok-promised_channels.ensures ∙ ap (λ (es : List Entry). map promised_channel es) c.entries-4.ensures) in
    apart_found (rows_of d) c.in-Ok.bookings (slice_set (promised_channels d) (row - 1) None) (slice_set c.in-Ok-promised_channels.assigned.items (row - 1) None) rows_are given_are (dropped_apart d c.moment-moment.ensures.state row may)

pub returns-clause-dropped : goal.returns-clause-dropped
returns-clause-dropped c =
    let d = c.args.exchange.now in
    let row = c.args.row in
    let promised = subst (λ (es : List Entry). IsPromised es row) c.entries.ensures (c.is_promised.ensures.0 c.if-not-is_promised.false) in
    let e = get_or c.entries-2.result.now (row - 1) c.index-entries-place.result in
    let there = entry_there d row promised c.entries-2.result.now e c.entries-2.ensures (λ inside. get_or_default c.entries-2.result.now (row - 1) c.index-entries-place.result no_entry inside) in
    let may = may_be_dropped d row c.moment-moment.result e promised (c.is_any_stranded.ensures.0 c.if-not-is_any_stranded.false) c.moment-moment.ensures.value there (omega (arith, c.if-start-moment.false, c.start.ensures.value)) in
    let rows_are = c.in-Ok.ensures ∙ ap (λ (es : List Entry). map (λ (x : Entry). x.booking) es) c.entries-3.ensures in
    let given_are = ap (λ (a : List (Option ℕ)). slice_set a (row - 1) None) (c.in-Ok-promised_channels.ensures ∙ ap (λ (es : List Entry). map promised_channel es) c.entries-4.ensures) in
    ok_then c.go_on_still.result (λ g. record { may = may; gone_on = still_found d c.go_on_still.new.exchange (rows_of d) c.in-Ok.bookings (slice_set (promised_channels d) (row - 1) None) (slice_set c.in-Ok-promised_channels.assigned.items (row - 1) None) rows_are given_are g })
    c.go_on_still.ensures.gone_on
