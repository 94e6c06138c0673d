use Rattle.std.proofs.Common.{◌≡◌, ◌∙◌, ap}
use Rattle.std.specs.Prelude.{decimal}
use Rattle.bx_planfile.specs.Text.{channel_field, must_field, direction_field}
use Rattle.bx_planfile.proofs.WrittenLines.{seven_fields}
use Rattle.bx_planfile.proofs.written_lines.booking_line.Goals as goal

pub returns-clause-text : goal.returns-clause-text
returns-clause-text c =
    let b = c.args.booking in
    let start : c.from.result ≡ b.start = c.from.ensures ∙ c.start.ensures.value in
    let end : c.from-2.result ≡ b.end = c.from-2.ensures ∙ c.end.ensures.value in
    let number : c.digits.result.now ≡ b.number = c.digits.ensures.value ∙ c.number.ensures in
    let must : c.must_word.result.now ≡ must_field b.must = c.must_word.ensures.text ∙ ap must_field c.is_must.ensures in
    let direction : c.direction_word.result.now ≡ direction_field b.inward = c.direction_word.ensures.text ∙ ap direction_field c.is_inward.ensures in
    seven_fields (decimal b.start) (decimal b.end) (decimal b.pay) b.number (channel_field c.args.channel) (must_field b.must) (direction_field b.inward)
    c.new-line.result.items c.add_decimal.new.line.items c.add_decimal-2.new.line.items c.add_decimal-3.new.line.items c.add.new.line.items c.add_channel.new.line.items c.add-2.new.line.items c.add-3.new.line.items
    c.new-line.ensures (rw start at c.add_decimal.ensures.items) (rw end at c.add_decimal-2.ensures.items) (rw c.pay.ensures.value at c.add_decimal-3.ensures.items)
    (rw number at c.add.ensures.items) c.add_channel.ensures.items (rw must at c.add-2.ensures.items) (rw direction at c.add-3.ensures.items)
