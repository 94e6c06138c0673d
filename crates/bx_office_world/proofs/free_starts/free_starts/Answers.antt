use Rattle.std.proofs.Common.{◌∙◌}
use Rattle.bx_office_world.proofs.FreeSeconds.{all_free}
use Rattle.bx_office_world.proofs.free_starts.free_starts.Goals as goal

pub returns-clause-marks : goal.returns-clause-marks
returns-clause-marks c =
    all_free c.starts_on.result (λ marks. marks.items) c.args.opened.now c.args.exchange.now c.args.wish c.channels_left-left.result c.in_ok-counts.counts.items c.deref.result.now c.from-limit.result c.moment.result
    c.channels_left-left.ensures (c.from-limit.ensures ∙ c.count.ensures.value) c.moment.ensures.value c.deref.ensures.value c.in_ok-counts.ensures c.starts_on.ensures.marks
