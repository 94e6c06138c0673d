use Rattle.std.proofs.Common.{◌≡◌, ◌+◌, ℕ, List, [], length}
use Rattle.bx_text.specs.Records.{IsReading}
use Rattle.bx_text.specs.Inside.{PrefixRead}
use Rattle.bx_text.proofs.rows.read_rows.Given as goal

abbrev pub invariant-loop-number : goal.invariant-loop-number
invariant-loop-number g l = record {
  reading : IsReading l.records;
  leading : (text : List ℕ) → PrefixRead (g.F.RowForm.form l.form) g.R.Read.remaining l.initial.records text l.columns []
      → PrefixRead (g.F.RowForm.form l.form) g.R.Read.remaining l.records text l.columns (g.F.RowForm.rows l.list);
  count : length (g.F.RowForm.rows l.list) + 1 ≡ l.number;
}
