use Rattle.bx_chart.proofs.Joined.{on_ok, two, worded}
use Rattle.bx_day_chart.proofs.maintenance.add_hatch_words.Goals as goal

pub returns : goal.returns
returns c =
    let old = c.args.picture.now.text.items in
    let first = worded old _ _ _ c.in_ok-add_number.ensures in
    let second = two old _ _ _ _ first c.in_ok-add.ensures.added in
    let third = two old _ _ _ _ second c.in_ok-add_time.ensures in
    rw (← c.from.ensures) (on_ok c.add-2.result (two old _ _ _ _ third) c.add-2.ensures.added)
