use Rattle.std.proofs.Common.{rules}
use Rattle.bx_planfile.specs.Reading.{read_channels}
use Rattle.bx_planfile.specs.Forms.{channels_form}
use Rattle.bx_planfile.proofs.channel_line.channels_of.Goals as goal

pub returns : goal.returns
unfolding read_channels channels_form
returns c = search rules steps 1000000
