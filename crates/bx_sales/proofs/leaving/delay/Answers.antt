use Rattle.std.proofs.Common.{List, Option, None, map, slice_set, get_or, OnOk, ap, subst, sym, ◌∙◌, ◌-◌, ◌<◌, ◌≤◌, arith}
use Rattle.std.proofs.lemmas.List.{get_or_default}
use Rattle.bx_day.specs.Day.{no_entry}
use Rattle.bx_day.specs.declared.entry.Entry.{Entry}
use Rattle.bx_sales.specs.Changing.{IsPromised}
use Rattle.bx_sales.specs.Leaving.{promised_channel, promised_channels}
use Rattle.bx_sales.specs.Selling.{rows_of}
use Rattle.bx_sales.specs.Changing.{rows_changed_in}
use Rattle.bx_sales.proofs.RowChanges.{ok_then, entry_there}
use Rattle.bx_sales.proofs.Still.{may_be_delayed, agrees_found, apart_found, still_found, delayed_agrees, delayed_apart}
use Rattle.bx_sales.proofs.leaving.delay.Goals as goal

pub go_on_still-requires-clause-agrees : goal.go_on_still-requires-clause-agrees
go_on_still-requires-clause-agrees c =
    let d = c.args.exchange.now in
    let row = c.args.row in
    let b = c.args.booking in
    let promised = subst (λ (es : List Entry). IsPromised es row) c.entries.ensures (c.is_promised.ensures.0 c.if-not-is_promised.false) in
    let e = get_or c.entries-2.result.now (row - 1) c.index-entries-place.result in
    let there = entry_there d row promised c.entries-2.result.now e c.entries-2.ensures (λ inside. get_or_default c.entries-2.result.now (row - 1) c.index-entries-place.result no_entry inside) in
    let may = may_be_delayed d row b c.moment-moment.result e promised (c.is_stranded.ensures.0 c.if-not-is_stranded.false) c.moment-moment.ensures.value there (omega (arith, c.if-start-moment.false, c.start.ensures.value)) (c.is_next_start.ensures.0 c.if-not-is_next_start.false) in
    let rows_are = c.in-Ok.ensures ∙ ap (λ (es : List Entry). slice_set (map (λ (x : Entry). x.booking) es) (row - 1) b) c.entries-3.ensures in
    let given_are = c.in-Ok-promised_channels.ensures ∙ ap (λ (es : List Entry). map promised_channel es) c.entries-4.ensures in
    agrees_found d (rows_changed_in (rows_of d) row b) c.in-Ok.bookings (promised_channels d) c.in-Ok-promised_channels.assigned.items rows_are given_are (delayed_agrees d c.moment-moment.ensures.state row b may)

pub go_on_still-requires-clause-apart : goal.go_on_still-requires-clause-apart
go_on_still-requires-clause-apart c =
    let d = c.args.exchange.now in
    let row = c.args.row in
    let b = c.args.booking in
    let promised = subst (λ (es : List Entry). IsPromised es row) c.entries.ensures (c.is_promised.ensures.0 c.if-not-is_promised.false) in
    let e = get_or c.entries-2.result.now (row - 1) c.index-entries-place.result in
    let there = entry_there d row promised c.entries-2.result.now e c.entries-2.ensures (λ inside. get_or_default c.entries-2.result.now (row - 1) c.index-entries-place.result no_entry inside) in
    let may = may_be_delayed d row b c.moment-moment.result e promised (c.is_stranded.ensures.0 c.if-not-is_stranded.false) c.moment-moment.ensures.value there (omega (arith, c.if-start-moment.false, c.start.ensures.value)) (c.is_next_start.ensures.0 c.if-not-is_next_start.false) in
    let rows_are = c.in-Ok.ensures ∙ ap (λ (es : List Entry). slice_set (map (λ (x : Entry). x.booking) es) (row - 1) b) c.entries-3.ensures in
    let given_are = c.in-Ok-promised_channels.ensures ∙ ap (λ (es : List Entry). map promised_channel es) c.entries-4.ensures in
    apart_found (rows_changed_in (rows_of d) row b) c.in-Ok.bookings (promised_channels d) c.in-Ok-promised_channels.assigned.items rows_are given_are (delayed_apart d c.moment-moment.ensures.state row b may)

pub returns-clause-delayed : goal.returns-clause-delayed
returns-clause-delayed c =
    let d = c.args.exchange.now in
    let row = c.args.row in
    let b = c.args.booking in
    let promised = subst (λ (es : List Entry). IsPromised es row) c.entries.ensures (c.is_promised.ensures.0 c.if-not-is_promised.false) in
    let e = get_or c.entries-2.result.now (row - 1) c.index-entries-place.result in
    let there = entry_there d row promised c.entries-2.result.now e c.entries-2.ensures (λ inside. get_or_default c.entries-2.result.now (row - 1) c.index-entries-place.result no_entry inside) in
    let may = may_be_delayed d row b c.moment-moment.result e promised (c.is_stranded.ensures.0 c.if-not-is_stranded.false) c.moment-moment.ensures.value there (omega (arith, c.if-start-moment.false, c.start.ensures.value)) (c.is_next_start.ensures.0 c.if-not-is_next_start.false) in
    let rows_are = c.in-Ok.ensures ∙ ap (λ (es : List Entry). slice_set (map (λ (x : Entry). x.booking) es) (row - 1) b) c.entries-3.ensures in
    let given_are = c.in-Ok-promised_channels.ensures ∙ ap (λ (es : List Entry). map promised_channel es) c.entries-4.ensures in
    ok_then c.go_on_still.result (λ g. record { may = may; gone_on = still_found d c.go_on_still.new.exchange (rows_changed_in (rows_of d) row b) c.in-Ok.bookings (promised_channels d) c.in-Ok-promised_channels.assigned.items rows_are given_are g })
    c.go_on_still.ensures.gone_on
