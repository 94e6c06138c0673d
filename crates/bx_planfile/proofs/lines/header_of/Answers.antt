use Rattle.std.proofs.Common.{rules}
use Rattle.bx_planfile.specs.Reading.{read_header}
use Rattle.bx_planfile.proofs.lines.header_of.Goals as goal

pub returns : goal.returns
unfolding read_header
returns c = search rules steps 1000000
