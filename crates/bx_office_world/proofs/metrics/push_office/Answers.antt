use Rattle.std.proofs.Common.{◌≡◌, ◌++◌, codes}
use Rattle.bx_office_world.specs.Metrics.{family_text}
use Rattle.bx_office_world.proofs.Pieces.{joined, joined_on}
use Rattle.bx_office_world.proofs.metrics.push_office.Goals as goal

pub returns : goal.returns
returns c =
    let answers = (family_text (codes "# TYPE bx_answers gauge\n# HELP bx_answers Requests that were answered of the day.\nbx_answers ") c.args.figures.now.answers) in
    let sold = (family_text (codes "# TYPE bx_bookings_sold gauge\n# HELP bx_bookings_sold Bookings that were sold.\nbx_bookings_sold ") c.args.figures.now.sold) in
    let dropped = (family_text (codes "# TYPE bx_bookings_dropped gauge\n# HELP bx_bookings_dropped Bookings that were given up for want of a channel.\nbx_bookings_dropped ") c.args.figures.now.dropped) in
    let e0 : c.push_family.new.text.items ≡ c.args.text.now.items ++ answers = c.in_ok-push_family.ensures in
    let e1 : c.push_family-2.new.text.items ≡ c.args.text.now.items ++ (answers ++ sold) = joined c.args.text.now.items c.push_family.new.text.items c.push_family-2.new.text.items answers sold e0 c.in_ok-push_family-2.ensures in
    joined_on c.push_family-3.result c.args.text.now.items c.push_family-2.new.text.items c.push_family-3.new.text.items (answers ++ sold) dropped e1 c.push_family-3.ensures
