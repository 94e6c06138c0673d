use Rattle.std.proofs.Common.{◌∙◌, ◌++◌, ℕ, List, ap}
use Rattle.std.specs.Prelude.{codes}
use Rattle.bx_chart.proofs.Joined.{on_ok, two}
use Rattle.bx_day_chart.proofs.Joined.{same_pair}
use Rattle.bx_day_chart.proofs.head.add_heading.Goals as goal

pub returns : goal.returns
returns c =
    let old = c.args.picture.now.text.items in
    let paid = c.in_ok-add_pair.ensures ∙ ap (λ (t : List ℕ). old ++ t) (same_pair (codes "<text class='head' x='56' y='26'>Paid ") _ _ (codes " of ") _ _ c.pay_of-paid.ensures c.pay_of-promised.ensures) in
    let so_far = two old _ _ _ _ paid c.in_ok-add_so_far.ensures in
    on_ok c.add.result (two old _ _ _ _ so_far) c.add.ensures.added
