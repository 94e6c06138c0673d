use Rattle.std.proofs.Common.{◌∙◌, ◌++◌, ◌*◌, ℕ, List, ap₂, option_copied}
use Rattle.std.specs.List.{flat_map}
use Rattle.bx_chart.proofs.Joined.{on_ok, two}
use Rattle.bx_day.specs.declared.entry.Entry.{Entry}
use Rattle.bx_day_chart.specs.Calls.{call_at}
use Rattle.bx_day_chart.specs.Outages.{outage_of}
use Rattle.bx_day_chart.specs.declared.outages.Outage.{Outage}
use Rattle.bx_day_chart.proofs.chart.add_day_part.Goals as goal

pub returns : goal.returns
returns c =
    let old = c.args.picture.now.text.items in
    let clock = option_copied c.args.clock in
    let t1 = c.open_day.new.picture.text.items in
    let t2 = c.add_calls.new.picture.text.items in
    let calls = c.in_ok-add_calls.ensures ∙ ap₂ (λ (es : List Entry) (m : ℕ). t1 ++ flat_map (call_at clock c.args.channels.now m) es) c.entries.ensures c.moment-now.ensures.value in
    let outages = c.in_ok-add_outages.ensures ∙ ap₂ (λ (n : ℕ) (os : List Outage). t2 ++ flat_map (outage_of clock (10 * n)) os) c.from-high.ensures c.deref.ensures.value in
    let all = two old _ _ _ _ (two old _ _ _ _ c.in_ok-open_day.ensures calls) outages in
    on_ok c.add.result (two old _ _ _ _ all) c.add.ensures.added
