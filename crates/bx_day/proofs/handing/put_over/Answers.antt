use Rattle.std.proofs.Common.{◌≡◌, ◌<◌, length, ap, ◌∙◌, arith, slice_index_or, slice_set}
use Rattle.std.proofs.lemmas.List.{get_or_default}
use Rattle.bx_day.specs.Day.{entry_at, no_entry}
use Rattle.bx_day.specs.declared.entry.Entry.{Entry}
use Rattle.bx_day.proofs.Handed.{partly_size, partly_all, partly_at, puts_old, puts_new}
use Rattle.bx_day.proofs.handing.put_over.Goals.{then-index-left, else-index-left}
use Rattle.bx_day.proofs.handing.put_over.Goals as goal

pub overflow_add-entries : goal.overflow_add-entries
overflow_add-entries c =
    let k = c.loop-index.index in
    let ns = c.args.entries.now in
    let es = c.args.left.now in
    let now = c.loop-index.entries in
    let size = ap length c.loop-index.invariant ∙ partly_size c.args.moment c.args.base k es ns in
    let lt : k < length ns = c.loop-index-test.true in
    let inside : k < length now = omega (arith, lt, size) in
    let here : c.index-entries-index.result ≡ entry_at now k = c.index-entries-index.is ∙ get_or_default now k _ no_entry inside in
    let row = ap (λ (e : Entry). e.row) (here ∙ ap (λ xs. entry_at xs k) c.loop-index.invariant ∙ partly_at c.args.moment c.args.base k es ns) ∙ c.requires.numbered k lt in
    let few = c.requires.few in
    let limit = c.requires.limit in
    omega (arith, row, lt, few, limit)

pub loop-index-preserved : goal.loop-index-preserved
loop-index-preserved c =
    let k = c.loop-index.index in
    let t = c.args.moment in
    let base = c.args.base in
    let ns = c.args.entries.now in
    let es = c.args.left.now in
    let now = c.loop-index.entries in
    let size = ap length c.loop-index.invariant ∙ partly_size t base k es ns in
    let lt : k < length ns = c.loop-index-test.true in
    let inside : k < length now = omega (arith, lt, size) in
    let here : c.index-entries-index.result ≡ entry_at now k = c.index-entries-index.is ∙ get_or_default now k _ no_entry inside in
    elim c.if-index-left.branch [
      | then-index-left w ↦ w.entries-is ∙ ap (slice_set now k) w.seat_over.ensures ∙ puts_old t base k es ns now w.index-left-index.result c.index-entries-index.result w.if-index-left.true lt (w.index-left-index.is ∙ get_or_default es k _ no_entry w.if-index-left.true) here c.loop-index.invariant
      | else-index-left w ↦ w.entries-is ∙ puts_new t base k es ns now c.index-entries-index.result (slice_index_or now k w.index-entries-index-else-index-left.result) w.if-index-left.false lt here (get_or_default now k _ no_entry inside) c.loop-index.invariant
    ]

pub returns : goal.returns
returns c = c.loop-index.invariant ∙ partly_all c.args.moment c.args.base c.loop-index.index c.args.left.now c.args.entries.now (omega (arith, c.loop-index-test.false))
