use Rattle.std.proofs.Common.{sym, ap, ◌∙◌}
use Rattle.bx_day.specs.Ticks.{second_by}
use Rattle.bx_day.proofs.moving.second.Goals as goal

pub returns-in-Down : goal.returns-in-Down
returns-in-Down c latest timed room =
    c.unlinked.ensures latest timed room ∙ ap (λ link. second_by link c.args.entry.now c.args.moment c.args.back c.args.free c.args.entry.now.standing) (sym c.in-Down.is)
