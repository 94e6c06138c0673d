use Rattle.std.proofs.Common.{◌≡◌, ◌∙◌, ℕ, List, true, ap, subst, option_copied}
use Rattle.bx_chart.specs.Frames.{lanes_below}
use Rattle.bx_chart.specs.Hours.{Room}
use Rattle.bx_chart.specs.Plain.{is_plain}
use Rattle.bx_chart.specs.Sheets.{room}
use Rattle.bx_day_chart.specs.Charts.{chart_in, day_part, foot}
use Rattle.bx_day_chart.specs.Heads.{day_head}
use Rattle.bx_day_chart.specs.Maintenance.{hatches_below}
use Rattle.bx_day_chart.specs.Sights.{sight_of}
use Rattle.bx_day_chart.proofs.Joined.{joined}
use Rattle.bx_day_chart.proofs.chart.day_chart.Goals as goal

pub returns : goal.returns
returns c =
    let d = c.args.exchange.now in
    let channels = c.args.channels.now in
    let sight = sight_of c.args.sight.now in
    let clock = option_copied c.args.clock in
    let r = room c.sheet_of-sheet.result in
    let whole = joined c.new-picture.result.text.items c.add_head.new.picture.text.items c.add_lanes.new.picture.text.items c.add_hatches.new.picture.text.items c.add_day_part.new.picture.text.items c.add_foot.new.picture.text.items
    (day_head d sight clock r) (lanes_below channels 32) (hatches_below r clock d channels 32) (day_part d channels sight clock r) (foot d channels sight clock r)
    c.new-picture.ensures c.in_ok-add_head.ensures c.in_ok-add_lanes.ensures c.in_ok-add_hatches.ensures c.in_ok-add_day_part.ensures c.in_ok-add_foot.ensures in
    record {
      plain = subst (λ (text : List ℕ). is_plain text ≡ true) c.text-text.ensures.value c.text-text.ensures.plain;
      is = whole ∙ ap (λ (x : Room). chart_in x d channels sight clock) c.sheet_of-sheet.ensures;
    }
