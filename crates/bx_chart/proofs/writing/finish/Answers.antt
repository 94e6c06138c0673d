use Rattle.std.proofs.Common.{option_copied}
use Rattle.std.specs.Prelude.{codes}
use Rattle.bx_chart.specs.Hours.{hours_in}
use Rattle.bx_chart.specs.Sheets.{room}
use Rattle.bx_chart.proofs.Joined.{finished, on_ok}
use Rattle.bx_chart.proofs.writing.finish.Goals as goal

pub returns : goal.returns
returns c = on_ok c.add-4.result
    (finished c.args.picture.now.text.items c.args.bars.now (codes "</svg>\n") c.args.between.now (hours_in (room c.args.sheet.now) (option_copied c.args.clock)) (codes "</svg>\n")
    c.add.new.self.text.items c.add-2.new.self.text.items c.add-3.new.self.text.items c.add_hours.new.picture.text.items c.add-4.new.self.text.items
    c.in_ok-add.ensures.added c.in_ok-add-2.ensures.added c.in_ok-add-3.ensures.added c.in_ok-add_hours.ensures)
    c.add-4.ensures.added
