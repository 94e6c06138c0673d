use Rattle.std.proofs.Common.{sym, subst}
use Rattle.bx_lapd.specs.Bounds.{IsLink}
use Rattle.bx_lapd.proofs.Bounds.{within}
use Rattle.bx_lapd.proofs.endpoint.Endpoint.give.Goals as goal

pub invariant_of-self : goal.invariant_of-self
invariant_of-self c = subst IsLink (sym c.give.ensures.link) ((within c.self.inside.link c.args.now c.self.invariant).give c.args.message c.requires.size).link
