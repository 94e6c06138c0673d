use Rattle.std.proofs.Common.{◌≡◌, ◌∙◌, ◌++◌, ◌&&◌, ℕ, List, ap, subst, option_copied, arith}
use Rattle.bx_base.specs.Channels.{has_channel}
use Rattle.bx_channels.specs.Marks.{is_marked}
use Rattle.bx_chart.specs.Bars.{lane_of}
use Rattle.bx_chart.specs.Sheets.{room}
use Rattle.bx_day.specs.declared.entry.Entry.{Entry}
use Rattle.bx_day_chart.specs.Maintenance.{hatches_below, since}
use Rattle.bx_day_chart.proofs.Hatched.{hatch_added, no_hatch, none_is, same_channel, some_is}
use Rattle.bx_day_chart.proofs.maintenance.add_hatches.Goals.{in-Some+in_ok-add_hatch, in_default}
use Rattle.bx_day_chart.proofs.maintenance.add_hatches.Goals as goal

pub loop-number-preserved : goal.loop-number-preserved
loop-number-preserved c =
    let n = c.loop-number.number in
    let d = c.args.exchange.now in
    let channels = c.args.channels.now in
    let drawn = room c.args.sheet.now in
    let clock = option_copied c.args.clock in
    let old = c.args.picture.now.text.items in
    let text = c.loop-number.picture.text.items in
    let is_broken = has_channel channels n && is_marked d.maintenance n in
    elim c.match-broken_at.branch [
      | in-Some+in_ok-add_hatch w ↦
          let same = same_channel is_broken n w.in-Some.channel c.broken_at.result c.broken_at.ensures w.in-Some.is in
          let lane = w.lane_of.ensures.value ∙ ap (lane_of channels) same in
          let second = w.since.ensures ∙ ap (λ (es : List Entry). since n 0 es) w.entries.ensures in
          rw w.picture-is (hatch_added drawn clock d channels n old text c.loop-number.invariant w.add_hatch.new.picture.text.items w.lane_of.result w.since.result (some_is is_broken n w.in-Some.channel c.broken_at.result c.broken_at.ensures w.in-Some.is) lane second w.in_ok-add_hatch.ensures)
      | in_default w ↦
          rw w.picture-is (no_hatch drawn clock d channels n old text c.loop-number.invariant (none_is is_broken n c.broken_at.result c.broken_at.ensures w.in_default.not-Some))
    ]

pub returns : goal.returns
returns c =
    let last : c.loop-number.number ≡ 32 = omega (arith, c.loop-number-test.false, c.loop-number.auto.number-end) in
    subst (λ (n : ℕ). c.loop-number.picture.text.items ≡ c.args.picture.now.text.items ++ hatches_below (room c.args.sheet.now) (option_copied c.args.clock) c.args.exchange.now c.args.channels.now n) last c.loop-number.invariant
