use Rattle.std.proofs.Common.{◌≡◌, length}
use Rattle.std.specs.List.{list_all}
use Rattle.bx_planfile.specs.Forms.{is_decimal}
use Rattle.bx_planfile.proofs.channel_line.all_decimals.Given as goal

abbrev pub invariant-loop-fields : goal.invariant-loop-fields
invariant-loop-fields l = list_all is_decimal l.fields ≡ list_all is_decimal l.fn.fields

abbrev pub decreases-loop-fields : goal.decreases-loop-fields
decreases-loop-fields l = length l.fields
