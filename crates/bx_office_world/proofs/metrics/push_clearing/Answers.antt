use Rattle.std.proofs.Common.{◌≡◌, sym, subst, List, ℕ, ◌++◌, OnOk}
use Rattle.bx_office_world.proofs.Pieces.{unless_none}
use Rattle.bx_office_world.proofs.metrics.push_clearing.Goals as goal

pub returns : goal.returns
returns c = subst (λ (xs : List ℕ). OnOk c.push_cause.result (c.push_cause.new.text.items ≡ c.args.text.now.items ++ xs)) (sym (unless_none c.args.count _ c.if-count-eq0.false)) c.push_cause.ensures
