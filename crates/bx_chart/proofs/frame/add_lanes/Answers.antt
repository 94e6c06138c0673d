use Rattle.std.proofs.Common.{◌≡◌, ◌∙◌, true, false, sym, arith}
use Rattle.bx_base.specs.Channels.{has_channel}
use Rattle.bx_chart.proofs.Lanes.{lane_added, none_added, down_more, down_same}
use Rattle.bx_chart.proofs.frame.add_lanes.Goals.{then-is_in_service+in_ok-add_lane, else-is_in_service}
use Rattle.bx_chart.proofs.frame.add_lanes.Goals as goal

pub loop-number-preserved : goal.loop-number-preserved
loop-number-preserved c =
    let channels = c.args.channels.now in
    let n = c.loop-number.number in
    let old = c.args.picture.now.text.items in
    let i = c.loop-number.invariant in
    let top = c.loop-number.top in
    let text = c.loop-number.picture.text.items in
    elim c.if-is_in_service.branch [
      | then-is_in_service+in_ok-add_lane w ↦
          let is : has_channel channels n ≡ true = sym c.is_in_service.ensures ∙ w.if-is_in_service.true in
          record {
            so_far = rw w.picture-is (lane_added channels n top old text i.so_far i.down w.add_lane.new.picture.text.items is w.in_ok-add_lane.ensures);
            down = w.top-is ∙ down_more channels n top old text i.so_far i.down is;
            fits = omega (arith, w.top-is, i.fits);
          }
      | else-is_in_service w ↦
          let is : has_channel channels n ≡ false = sym c.is_in_service.ensures ∙ w.if-is_in_service.false in
          record {
            so_far = rw w.picture-is (none_added channels n top old text i.so_far i.down is);
            down = w.top-is ∙ down_same channels n top old text i.so_far i.down is;
            fits = omega (arith, w.top-is, i.fits);
          }
    ]
