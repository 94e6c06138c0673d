use Rattle.std.proofs.Common.{◌∙◌, ap}
use Rattle.bx_chart.specs.Plain.{is_plain}
use Rattle.bx_chart.proofs.Plains.{plain_decimal}
use Rattle.bx_chart.proofs.picture.Picture.add_decimal.Goals as goal

pub add-requires : goal.add-requires
add-requires c = ap is_plain (c.as_bytes.ensures.value ∙ c.format.ensures.text) ∙ plain_decimal c.args.number c.ranges.number.fits
