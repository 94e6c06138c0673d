use Rattle.std.proofs.Common.{rules}
use Rattle.bx_day_openings.proofs.Recordings.{written, unwritten}
use Rattle.bx_day_openings.proofs.recording.record.Goals as goal

pub returns-in-Ok : goal.returns-in-Ok
returns-in-Ok g c = written g.F.Write.contents c.args.exchange.now.entries c.args.file c.in-Some.field-0 c.in-Some.is c.write_records.new.output (search rules steps 1000000)

pub returns : goal.returns
returns g c = unwritten g.F.Write.contents c.args.exchange.now.entries c.args.file c.in-Some.field-0 c.in-Some.is c.write_records.new.output c.in-Err.fault c.unrecorded.result (search rules steps 1000000) (search rules steps 1000000)
