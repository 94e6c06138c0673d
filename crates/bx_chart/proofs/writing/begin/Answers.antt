use Rattle.std.proofs.Common.{◌∙◌}
use Rattle.bx_base.specs.PlanParts.{parts_of}
use Rattle.bx_chart.specs.Frames.{front, gain_words, head}
use Rattle.bx_chart.specs.Sheets.{room}
use Rattle.bx_chart.proofs.Joined.{begun}
use Rattle.bx_chart.proofs.writing.begin.Goals as goal

pub returns : goal.returns
returns c =
    let plan = parts_of c.args.plan.now in
    let drawn = room c.args.sheet.now in
    begun (head plan drawn) (gain_words c.args.gain) (front plan drawn) c.in_ok-picture.picture.text.items c.add_gain.new.picture.text.items c.text.result.now c.add.new.self.text.items
    c.in_ok-picture.ensures c.in_ok-add_gain.ensures c.in_ok-add.ensures.added (c.text.ensures.value ∙ c.in_ok-front.ensures)
