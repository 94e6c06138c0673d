use Rattle.std.proofs.Common.{◌≡◌, ◌∙◌, subst, ℕ, ◌++◌, OnOk}
use Rattle.bx_office_world.specs.Metrics.{family_text, maintenance_head}
use Rattle.bx_office_world.proofs.metrics.push_maintenance.Goals as goal

pub returns : goal.returns
returns c = subst (λ (n : ℕ). OnOk c.push_family.result (c.push_family.new.text.items ≡ c.args.text.now.items ++ family_text maintenance_head n)) (c.from.ensures ∙ c.maintained.ensures) c.push_family.ensures
