use Rattle.std.proofs.Common.{◌≡◌, ◌∙◌, sym, rules, true, []}
use Rattle.csv.specs.Reading.{source_of}
use Rattle.csv.specs.Records.{fields_of}
use Rattle.bx_text.specs.Rows.{IsBadHeader}
use Rattle.bx_text.specs.Inside.{PrefixRead}
use Rattle.bx_text.proofs.Prefixes.{header_read, header_wrong, if_known}
use Rattle.bx_text.proofs.rows.read_header.Goals as goal

pub returns-in-Some-clause-ok : goal.returns-in-Some-clause-ok
returns-in-Some-clause-ok g c =
    let form = g.F.RowForm.form c.args.form.now in
    let next = c.in-Ok.ensures.ok in
    let yes : c.in-Ok.found ≡ true = search rules steps 1000000 in
    let read = rw yes at next.1 in (
      next.0,
      if_known (source_of g.R.Read.remaining c.args.records.now) (λ text. PrefixRead form g.R.Read.remaining c.read_next.new.records text c.in-Some.columns [])
          (λ text known. header_read form g.R.Read.remaining c.args.records.now c.read_next.new.records (fields_of c.read_next.new.fields) text c.requires.0.config c.in-Some.columns known c.requires.1 read (sym c.columns_under.ensures ∙ c.in-Some.is)),
    )

pub returns-in-None-clause-err : goal.returns-in-None-clause-err
returns-in-None-clause-err g c =
    let form = g.F.RowForm.form c.args.form.now in
    let next = c.in-Ok.ensures.ok in
    let yes : c.in-Ok.found ≡ true = search rules steps 1000000 in
    let read = rw yes at next.1 in
    if_known (source_of g.R.Read.remaining c.args.records.now) (λ text. IsBadHeader form text)
    (λ text known. header_wrong form g.R.Read.remaining c.args.records.now c.read_next.new.records (fields_of c.read_next.new.fields) text c.requires.0.config known c.requires.1 read (sym c.columns_under.ensures ∙ c.in-None.is))
