use Rattle.std.proofs.Common.{sym, ◌∙◌}
use Rattle.bx_planfile.proofs.FieldSteps.{taken, last_taken}
use Rattle.bx_planfile.proofs.fields.Fields.take.Goals as goal

pub returns-in-Some-clause-value : goal.returns-in-Some-clause-value
returns-in-Some-clause-value c = (taken c.self.inside.is_done c.self.inside.rest.now c.args.self.now c.in-Some.end c.self.invariant c.self.view_is (sym c.place_of.ensures ∙ c.in-Some.is)).0

pub returns-in-Some-clause-rest : goal.returns-in-Some-clause-rest
returns-in-Some-clause-rest c = (taken c.self.inside.is_done c.self.inside.rest.now c.args.self.now c.in-Some.end c.self.invariant c.self.view_is (sym c.place_of.ensures ∙ c.in-Some.is)).1

pub returns-in-None-clause-value : goal.returns-in-None-clause-value
returns-in-None-clause-value c = (last_taken c.self.inside.is_done c.self.inside.rest.now c.args.self.now c.self.invariant c.self.view_is (sym c.place_of.ensures ∙ c.in-None.is)).0

pub returns-in-None-clause-rest : goal.returns-in-None-clause-rest
returns-in-None-clause-rest c = (last_taken c.self.inside.is_done c.self.inside.rest.now c.args.self.now c.self.invariant c.self.view_is (sym c.place_of.ensures ∙ c.in-None.is)).1
