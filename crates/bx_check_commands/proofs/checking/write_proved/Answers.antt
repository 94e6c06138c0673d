use Rattle.std.proofs.Common.{rules}
use Rattle.bx_check_commands.proofs.checking.write_proved.Goals as goal

pub returns-clause-ok : goal.returns-clause-ok
returns-clause-ok g c = search rules steps 400000

pub returns-clause-prefix : goal.returns-clause-prefix
returns-clause-prefix g c = search rules steps 400000
