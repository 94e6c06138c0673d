use Rattle.std.proofs.Common.{rules}
use Rattle.bx_planfile.specs.Reading.{read_end}
use Rattle.bx_planfile.specs.Forms.{is_end}
use Rattle.bx_planfile.proofs.lines.ends.Goals as goal

pub returns : goal.returns
unfolding read_end is_end
returns c = search rules steps 1000000

pub returns-then-not-is_empty : goal.returns-then-not-is_empty
unfolding read_end is_end
returns-then-not-is_empty c = search rules steps 1000000
