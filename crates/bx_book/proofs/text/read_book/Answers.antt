use Rattle.csv.specs.Reading.{source_of}
use Rattle.std.proofs.lemmas.Result.{err_from_is_err_and}
use Rattle.bx_book.specs.Rows.{span_of}
use Rattle.bx_book.proofs.RowFaults.{known_fault}
use Rattle.bx_book.proofs.text.read_book.Goals as goal

pub returns-in_err-read_records-clause-err : goal.returns-in_err-read_records-clause-err
returns-in_err-read_records-clause-err g c =
    let p = err_from_is_err_and c.from_residual.result c.from_residual.ensures.1 in
    rw (p.1, p.2)
    (known_fault (span_of c.args.day.now) (source_of g.R.Read.remaining c.args.records.now) c.in_err-read_records.field-0.0 c.in_err-read_records.ensures.err)
