use Rattle.std.proofs.Common.{◌∙◌, ap, is_ok}
use Rattle.bx_chart.specs.Plain.{is_plain}
use Rattle.bx_chart.proofs.Plains.{plain_joined}
use Rattle.bx_chart.proofs.picture.Picture.add.Goals as goal

pub invariant_of-self : goal.invariant_of-self
invariant_of-self c =
    record { plain = ap is_plain c.extend_from_slice.ensures.items ∙ plain_joined (is_ok c.extend_from_slice.result) c.args.self.now.text.items c.args.octets.now c.args.self.now.plain c.requires }
