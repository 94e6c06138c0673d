use Rattle.std.proofs.Common.{refl, sym, subst, ◌∙◌, Bool, rules}
use Rattle.bx_office_world.specs.Serving.{IsPreparedWhere}
use Rattle.bx_office_world.proofs.serving.Desk.prepare.Goals as goal

pub returns-then-not-is_early : goal.returns-then-not-is_early
returns-then-not-is_early c =
    subst (λ (b : Bool). IsPreparedWhere b c.args.self.now c.args.exchange.now c.args.door.now c.args.door.now) (sym c.if-not-is_early.true ∙ c.is_early.ensures) refl

pub returns-in-Ok : goal.returns-in-Ok
returns-in-Ok c =
    subst (λ (b : Bool). IsPreparedWhere b c.args.self.now c.args.exchange.now c.args.door.now c.keep_figures.new.self) (sym c.if-not-is_early.false ∙ c.is_early.ensures) (search rules)

pub returns-in-Err : goal.returns-in-Err
returns-in-Err c =
    subst (λ (b : Bool). IsPreparedWhere b c.args.self.now c.args.exchange.now c.args.door.now c.keep_figures-in-Err.new.self) (sym c.if-not-is_early.false ∙ c.is_early.ensures) (search rules)
