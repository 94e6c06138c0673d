use Rattle.std.proofs.Common.{arith}
use Rattle.bx_cli.proofs.words.main_words.Goals as goal

pub returns-in-Ok-clause-done : goal.returns-in-Ok-clause-done
returns-in-Ok-clause-done g c none done = (c.in-Ok.field-0, c.in-Ok.ensures.proved, c.in-Ok.ensures.written)

pub returns-in-Err-clause-refused : goal.returns-in-Err-clause-refused
returns-in-Err-clause-refused g c none some = (c.refused.ensures, c.in-Err.fault, c.in-Err.ensures.refused)

pub returns-in-Err-clause-done : goal.returns-in-Err-clause-done
returns-in-Err-clause-done g c none done = absurd (omega (arith, done, c.refused.ensures))
