use Rattle.bx_chart.proofs.Joined.{on_ok, two}
use Rattle.bx_day_chart.proofs.outages.add_outage_words.Goals as goal

pub returns : goal.returns
returns c =
    let old = c.args.picture.now.text.items in
    let first = two old _ _ _ _ c.in_ok-add.ensures.added c.in_ok-add_span.ensures in
    on_ok c.add-2.result (two old _ _ _ _ first) c.add-2.ensures.added
