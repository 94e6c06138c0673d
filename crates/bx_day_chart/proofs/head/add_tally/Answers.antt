use Rattle.std.proofs.Common.{◌∙◌, ◌++◌, ℕ, List, ap}
use Rattle.std.specs.Prelude.{codes}
use Rattle.bx_chart.proofs.Joined.{on_ok, two}
use Rattle.bx_day_chart.proofs.Joined.{same_pair}
use Rattle.bx_day_chart.proofs.head.add_tally.Goals as goal

pub returns : goal.returns
returns c =
    let old = c.args.picture.now.text.items in
    let first = c.in_ok-add_pair.ensures ∙ ap (λ (t : List ℕ). old ++ t) (same_pair (codes "<text x='56' y='46'>") _ _ (codes " of ") _ _ c.count_of-carried.ensures c.count_of-accepted.ensures) in
    let following = c.in_ok-add_pair-2.ensures ∙ ap (λ (t : List ℕ). c.add_pair.new.picture.text.items ++ t) (same_pair (codes " calls carried, ") _ _ (codes " live, ") _ _ c.count_of-live.ensures c.count_of-waiting.ensures) in
    let both = two old _ _ _ _ first following in
    on_ok c.add_pair-3.result (λ q. two old _ _ _ _ both (q ∙ ap (λ (t : List ℕ). c.add_pair-2.new.picture.text.items ++ t) (same_pair (codes " waiting, ") _ _ (codes " unanswered, ") _ _ c.count_of-unanswered.ensures c.count_of-missed.ensures))) c.add_pair-3.ensures
