use Rattle.std.proofs.Common.{◌≡◌, ◌++◌}
use Rattle.bx_office_world.specs.Metrics.{link_text, clearings_text, office_text, sync_text}
use Rattle.bx_office_world.proofs.Pieces.{joined, joined_on}
use Rattle.bx_office_world.proofs.metrics.push_figures.Goals as goal

pub returns : goal.returns
returns c =
    let e0 : c.push_link.new.text.items ≡ c.args.text.now.items ++ (link_text c.args.figures.now) = c.in_ok-push_link.ensures in
    let e1 : c.push_clearings.new.text.items ≡ c.args.text.now.items ++ ((link_text c.args.figures.now) ++ (clearings_text c.args.figures.now.clearings)) = joined c.args.text.now.items c.push_link.new.text.items c.push_clearings.new.text.items (link_text c.args.figures.now) (clearings_text c.args.figures.now.clearings) e0 c.in_ok-push_clearings.ensures in
    let e2 : c.push_office.new.text.items ≡ c.args.text.now.items ++ (((link_text c.args.figures.now) ++ (clearings_text c.args.figures.now.clearings)) ++ (office_text c.args.figures.now)) = joined c.args.text.now.items c.push_clearings.new.text.items c.push_office.new.text.items ((link_text c.args.figures.now) ++ (clearings_text c.args.figures.now.clearings)) (office_text c.args.figures.now) e1 c.in_ok-push_office.ensures in
    joined_on c.push_sync.result c.args.text.now.items c.push_office.new.text.items c.push_sync.new.text.items (((link_text c.args.figures.now) ++ (clearings_text c.args.figures.now.clearings)) ++ (office_text c.args.figures.now)) (sync_text c.args.figures.now.since_sync) e2 c.push_sync.ensures
