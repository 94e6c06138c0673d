use Rattle.std.proofs.Common.{◌≡◌, true, length, map}
use Rattle.std.specs.List.{list_all}
use Rattle.bx_planfile.specs.Forms.{is_decimal, channel_set, with_channels}
use Rattle.bx_text.specs.Digits.{decimal_value}
use Rattle.bx_planfile.proofs.channel_line.rising_channels.Given as goal

abbrev pub invariant-loop-fields : goal.invariant-loop-fields
invariant-loop-fields l = record {
  decimals : list_all is_decimal l.fields ≡ true;
  same : with_channels l.set l.last (map decimal_value l.fields) ≡ channel_set (map decimal_value l.fn.fields);
}

abbrev pub decreases-loop-fields : goal.decreases-loop-fields
decreases-loop-fields l = length l.fields
