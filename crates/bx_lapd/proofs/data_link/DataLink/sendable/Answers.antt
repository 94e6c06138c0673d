use Rattle.std.proofs.Common.{rules}
use Rattle.bx_lapd.proofs.data_link.DataLink.sendable.Goals as goal

pub returns-clause-messages : goal.returns-clause-messages
returns-clause-messages c = search rules steps 60000
