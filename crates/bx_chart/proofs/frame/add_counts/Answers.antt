use Rattle.std.proofs.Common.{◌++◌, ◌∙◌, ℕ, List, length, ap}
use Rattle.bx_base.specs.Channels.{count_of}
use Rattle.bx_base.specs.PlanParts.{parts_of}
use Rattle.bx_chart.specs.Frames.{accepted_below, must_below, total_words}
use Rattle.bx_chart.proofs.Joined.{counted, on_ok, two}
use Rattle.bx_chart.proofs.frame.add_counts.Goals as goal

pub returns : goal.returns
returns c =
    let plan = parts_of c.args.plan.now in
    let old = c.args.picture.now.text.items in
    let same = counted (total_words plan.total) c.accepted_of.result (accepted_below plan (length plan.rows)) c.len.result (length plan.rows) c.must_of.result (must_below plan (length plan.rows)) c.from.result (count_of plan.channels)
    c.accepted_of.ensures.value c.len.ensures.count c.must_of.ensures (c.from.ensures ∙ c.count.ensures.value) in
    on_ok c.add_service.result (λ q. two old _ _ _ _ (two old _ _ _ _ c.in_ok-add_total.ensures c.in_ok-add_rows.ensures) q ∙ ap (λ (l : List ℕ). old ++ l) same) c.add_service.ensures
