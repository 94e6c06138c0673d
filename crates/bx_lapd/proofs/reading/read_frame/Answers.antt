use Rattle.std.proofs.Common.{rules}
use Rattle.bx_lapd.proofs.reading.read_frame.Goals as goal

pub returns-then-from-check_sequence-clause-read : goal.returns-then-from-check_sequence-clause-read
returns-then-from-check_sequence-clause-read c = search rules steps 250000
