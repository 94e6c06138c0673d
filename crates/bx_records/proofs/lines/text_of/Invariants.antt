use Rattle.std.proofs.Common.{◌++◌, ℕ, List, drop}
use Rattle.bx_records.specs.Records.{AreRecords, IsRecordsText}
use Rattle.bx_records.proofs.lines.text_of.Given as goal

abbrev pub invariant-loop-entry : goal.invariant-loop-entry
invariant-loop-entry l = (rest : List ℕ) → AreRecords l.clock (drop l.entry-index l.entries) rest → IsRecordsText l.clock l.entries (l.text.items ++ rest)
