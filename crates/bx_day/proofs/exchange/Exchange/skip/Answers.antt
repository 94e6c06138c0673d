use Rattle.std.proofs.Common.{◌∙◌, ap, subst, sym}
use Rattle.bx_day.specs.Day.{Day}
use Rattle.bx_day.specs.Passing.{day_of}
use Rattle.bx_day.specs.QuietSeconds.{IsQuietFor, later_by}
use Rattle.bx_day.proofs.IndexLemmas.{skip_indexed}
use Rattle.bx_day.proofs.Skips.{skipped}
use Rattle.bx_day.proofs.exchange.Exchange.skip.Goals as goal

pub invariant_of-self : goal.invariant_of-self
invariant_of-self c = skip_indexed c.args.seconds (day_of c.self.inside.moment c.self.inside.unlinked c.self.inside.entries.items c.self.inside.maintenance) c.self.inside.live c.self.inside.waiting c.self.inside.following.items c.self.inside.due (subst (λ (d : Day). IsQuietFor c.args.seconds d) (sym c.self.view_is) c.requires) c.self.invariant

pub returns-clause-ticks : goal.returns-clause-ticks
returns-clause-ticks c = ap (later_by c.args.seconds) c.self.view_is ∙ skipped c.args.seconds c.args.self.now c.requires
