use Rattle.std.proofs.Common.{rules}
use Rattle.bx_planfile.specs.Forms.{channel_set}
use Rattle.bx_planfile.proofs.channel_line.rising_channels.Goals as goal

pub loop-fields-init : goal.loop-fields-init
unfolding channel_set
loop-fields-init c = search rules
