use Rattle.std.proofs.Common.{rules}
use Rattle.bx_text.proofs.records.is_named.Goals as goal

pub returns : goal.returns
returns c = search rules steps 60000
