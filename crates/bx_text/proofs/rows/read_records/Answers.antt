use Rattle.std.proofs.Common.{rules}
use Rattle.std.proofs.lemmas.Result.{err_from_is_err_and}
use Rattle.csv.specs.Reading.{source_of}
use Rattle.bx_text.specs.Rows.{IsFirstFault}
use Rattle.bx_text.proofs.Prefixes.{if_known}
use Rattle.bx_text.proofs.rows.read_records.Goals as goal

pub returns-in_err-read_rows-clause-err : goal.returns-in_err-read_rows-clause-err
returns-in_err-read_rows-clause-err g c =
    let p = err_from_is_err_and c.from_residual-in_err-read_rows.result c.from_residual-in_err-read_rows.ensures.1 in
    let source = source_of g.R.Read.remaining c.args.records.now in
    rw (p.1, p.2) (if_known source (λ text. IsFirstFault (g.F.RowForm.form c.args.form.now) text c.in_err-read_rows.field-0.0)
    (λ text known. c.in_err-read_rows.ensures.err text (rw known at c.in_ok-columns.ensures.ok.1)))

pub returns-clause-ok : goal.returns-clause-ok
returns-clause-ok g c = search rules steps 2000000
