use Rattle.csv.specs.Reading.{source_of}
use Rattle.std.proofs.Common.{rules}
use Rattle.bx_far.proofs.ScriptFaults.{known_fault}
use Rattle.bx_far.proofs.text.read_script.Goals as goal

pub returns-in-Err-clause-err : goal.returns-in-Err-clause-err
returns-in-Err-clause-err g c =
    let told = known_fault (source_of g.R.Read.remaining c.args.records.now) c.in-Err.fault c.in-Err.ensures.err in
    search rules
