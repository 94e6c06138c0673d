use Rattle.std.proofs.Common.{◌∙◌}
use Rattle.bx_office_world.proofs.Built.{day_told}
use Rattle.bx_office_world.proofs.metrics.push_day.Goals as goal

pub returns : goal.returns
returns c = day_told c.push_maintenance.result c.args.text.now.items c.push_family.new.text.items c.push_bookings.new.text.items c.push_pays.new.text.items c.push_rows.new.text.items c.push_maintenance.new.text.items
    c.args.exchange.now c.from.result c.entries.result.now c.entries-2.result.now c.entries-3.result.now
    (c.from.ensures ∙ c.moment.ensures.value) c.entries.ensures c.entries-2.ensures c.entries-3.ensures c.in_ok-push_family.ensures c.in_ok-push_bookings.ensures c.in_ok-push_pays.ensures c.in_ok-push_rows.ensures c.push_maintenance.ensures
