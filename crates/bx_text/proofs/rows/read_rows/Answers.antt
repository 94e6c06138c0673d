use Rattle.std.proofs.Common.{◌≡◌, ◌∙◌, ◌+◌, ◌++◌, ◌∷◌, [], rules, sym, subst, ap, arith, true, false, length, length-append}
use Rattle.csv.specs.Records.{fields_of}
use Rattle.bx_text.specs.Inside.{PrefixRead}
use Rattle.bx_text.proofs.Prefixes.{prefix_next, prefix_record, prefix_end}
use Rattle.bx_text.proofs.rows.read_rows.Goals as goal

pub returns-then-not-found-clause-ok : goal.returns-then-not-found-clause-ok
returns-then-not-found-clause-ok g c = λ text start.
    let form = g.F.RowForm.form c.args.form.now in
    let ended : c.in-Ok.found ≡ false = search rules steps 1000000 in
    let read = rw ended at c.in-Ok.ensures.ok.1 in
    prefix_end form g.R.Read.remaining c.loop-number.records c.read_next.new.records (fields_of c.read_next.new.fields) text c.loop-number.invariant.reading.config c.args.columns (g.F.RowForm.rows c.loop-number.list) (c.loop-number.invariant.leading text start) read

pub returns-in-Err-clause-err : goal.returns-in-Err-clause-err
returns-in-Err-clause-err g c = λ text start.
    let form = g.F.RowForm.form c.args.form.now in
    let found : c.in-Ok.found ≡ true = search rules steps 1000000 in
    let read = rw found at c.in-Ok.ensures.ok.1 in
    let rows = g.F.RowForm.rows c.loop-number.list in
    let next = prefix_record form g.R.Read.remaining c.loop-number.records c.read_next.new.records (fields_of c.read_next.new.fields) text c.loop-number.invariant.reading.config c.args.columns rows (c.loop-number.invariant.leading text start) read in
    let count = c.loop-number.invariant.count in
    let fault = subst (λ k. form.IsRowFault c.args.columns k (fields_of c.read_next.new.fields) c.in-Err.fault) (sym count) c.in-Err.ensures.err in
    (c.args.columns, rows, fields_of c.read_next.new.fields, next, omega (arith, count, c.loop-number-test.true), fault)

pub loop-number-preserved : goal.loop-number-preserved
loop-number-preserved g c =
    let form = g.F.RowForm.form c.args.form.now in
    let found : c.in-Ok.found ≡ true = search rules steps 1000000 in
    let read = rw found at c.in-Ok.ensures.ok.1 in
    let rows = g.F.RowForm.rows c.loop-number.list in
    let kept : g.F.RowForm.rows c.keep.new.list ≡ rows ++ c.in-Ok-read_row.row ∷ [] = search rules steps 1000000 in
    record {
      reading = c.in-Ok.ensures.ok.0;
      leading = λ text start. subst (PrefixRead form g.R.Read.remaining c.read_next.new.records text c.args.columns) (sym kept)
          (prefix_next form g.R.Read.remaining c.loop-number.records c.read_next.new.records (fields_of c.read_next.new.fields) text c.loop-number.invariant.reading.config c.args.columns rows (c.loop-number.invariant.leading text start) c.in-Ok-read_row.row read c.in-Ok-read_row.ensures.ok);
      count = ap (λ k. k + 1) (ap length kept ∙ length-append rows (c.in-Ok-read_row.row ∷ []) ∙ c.loop-number.invariant.count);
    }

pub returns-in-Ok-true-clause-err : goal.returns-in-Ok-true-clause-err
returns-in-Ok-true-clause-err g c = λ text start.
    let form = g.F.RowForm.form c.args.form.now in
    let rows = g.F.RowForm.rows c.loop-number.list in
    let found : c.in-Ok-true.field-0 ≡ true = search rules steps 1000000 in
    let read = rw found at c.in-Ok-true.ensures.ok.1 in
    let count = c.loop-number.invariant.count in
    (c.args.columns, rows, fields_of c.read_next-2.new.fields, prefix_record form g.R.Read.remaining c.loop-number.records c.read_next-2.new.records (fields_of c.read_next-2.new.fields) text c.loop-number.invariant.reading.config c.args.columns rows (c.loop-number.invariant.leading text start) read, omega (arith, count, c.loop-number-test.false))

pub returns-in-Ok-false-clause-ok : goal.returns-in-Ok-false-clause-ok
returns-in-Ok-false-clause-ok g c = λ text start.
    let form = g.F.RowForm.form c.args.form.now in
    let ended : c.in-Ok-false.field-0 ≡ false = search rules steps 1000000 in
    let read = rw ended at c.in-Ok-false.ensures.ok.1 in
    prefix_end form g.R.Read.remaining c.loop-number.records c.read_next-2.new.records (fields_of c.read_next-2.new.fields) text c.loop-number.invariant.reading.config c.args.columns (g.F.RowForm.rows c.loop-number.list) (c.loop-number.invariant.leading text start) read
