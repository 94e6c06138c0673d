use Rattle.bx_market.proofs.WrittenEvents.{written_in_run}
use Rattle.bx_market.proofs.laws.written_is_logged.Goals as goal

pub returns : goal.returns
returns c channels d before after octets done to run = written_in_run channels d before after octets done to run
