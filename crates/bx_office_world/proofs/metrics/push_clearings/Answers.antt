use Rattle.std.proofs.Common.{refl, ap, ◌∙◌, List, ℕ, ◌++◌}
use Rattle.std.proofs.lemmas.List.{append_assoc}
use Rattle.bx_office_world.specs.Metrics.{clearing_lines}
use Rattle.bx_office_world.proofs.metrics.push_clearings.Goals as goal

pub loop-count-init : goal.loop-count-init
loop-count-init c = record {
  text = ap (λ (t : List ℕ). t ++ clearing_lines 0 c.args.clearings.now) c.in_ok-push.ensures ∙ append_assoc c.args.text.now.items _ (clearing_lines 0 c.args.clearings.now);
  cause = refl;
}
