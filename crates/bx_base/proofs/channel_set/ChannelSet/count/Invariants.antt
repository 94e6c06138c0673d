use Rattle.std.proofs.Common.{◌≡◌, ◌+◌, ◌<◌, ◌≤◌, if◌then◌else◌}
use Rattle.bx_base.specs.Channels.{has_channel}
use Rattle.bx_base.specs.Sums.{sum_below}
use Rattle.bx_base.proofs.channel_set.ChannelSet.count.Given as goal

abbrev pub invariant-loop-n : goal.invariant-loop-n
invariant-loop-n l =
    record {
      so_far : l.count ≡ sum_below l.n (λ n. if has_channel l.self n then 1 else 0);
      fits : l.count ≤ l.n;
      no_slot_0 : 0 < l.n → l.count + 1 ≤ l.n;
      no_slot_16 : 16 < l.n → l.count + 2 ≤ l.n;
    }
