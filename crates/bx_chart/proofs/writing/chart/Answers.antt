use Rattle.std.proofs.Common.{◌≡◌, ◌∙◌, ◌++◌, ℕ, List, true, option_copied, ap, subst}
use Rattle.std.specs.Prelude.{codes}
use Rattle.bx_base.specs.PlanParts.{parts_of}
use Rattle.bx_chart.specs.Bars.{bars}
use Rattle.bx_chart.specs.Frames.{front, gain_words, head}
use Rattle.bx_chart.specs.Hours.{Room, hours, hours_in, room_of}
use Rattle.bx_chart.specs.Plain.{is_plain}
use Rattle.bx_chart.specs.Sheets.{room}
use Rattle.bx_chart.proofs.Joined.{whole}
use Rattle.bx_chart.proofs.writing.chart.Goals as goal

pub returns : goal.returns
returns c =
    let plan = parts_of c.args.plan.now in
    let clock = option_copied c.args.clock in
    let named = ap (λ (r : Room). hours_in r clock) c.of-sheet.ensures in
    let begun_is = c.in_ok-picture.ensures ∙ ap (λ (r : Room). (head plan r ++ gain_words c.args.gain) ++ front plan r) c.of-sheet.ensures in
    record {
      plain = subst (λ (text : List ℕ). is_plain text ≡ true) c.text-text.ensures.value c.text-text.ensures.plain;
      between = c.text-2.result.now;
      barless = c.text-2.ensures.barless;
      parts = whole ((head plan (room_of plan clock) ++ gain_words c.args.gain) ++ front plan (room_of plan clock)) (bars plan clock) (codes "</svg>\n") c.text-2.result.now (hours plan clock) (codes "</svg>\n")
          c.in_ok-picture.picture.text.items c.text.result.now c.in_ok-bars.bars.text.items (hours_in (room c.of-sheet.result) clock) c.finish.new.picture.text.items
          begun_is c.text.ensures.value c.in_ok-bars.ensures named c.in_ok-finish.ensures;
    }
