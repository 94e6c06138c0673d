use Rattle.std.proofs.Common.{◌≡◌, ◌++◌, codes}
use Rattle.bx_office_world.specs.Metrics.{family_text}
use Rattle.bx_office_world.proofs.Pieces.{joined_on}
use Rattle.bx_office_world.proofs.metrics.push_link.Goals as goal

pub returns : goal.returns
returns c =
    let e0 : c.push_family.new.text.items ≡ c.args.text.now.items ++ (family_text (codes "# TYPE bx_seconds_without_link gauge\n# HELP bx_seconds_without_link Seconds that began without a link.\nbx_seconds_without_link ") c.args.figures.now.alone) = c.in_ok-push_family.ensures in
    joined_on c.push_family-2.result c.args.text.now.items c.push_family.new.text.items c.push_family-2.new.text.items (family_text (codes "# TYPE bx_seconds_without_link gauge\n# HELP bx_seconds_without_link Seconds that began without a link.\nbx_seconds_without_link ") c.args.figures.now.alone) (family_text (codes "# TYPE bx_late_seconds gauge\n# HELP bx_late_seconds Seconds that began more than a second late.\nbx_late_seconds ") c.args.figures.now.late) e0 c.push_family-2.ensures
