use Rattle.std.proofs.Common.{◌≡◌, ◌<◌, ℕ, None}
use Rattle.std.specs.List.{position}
use Rattle.bx_channels.specs.ChannelNumbers.{IsChannel}
use Rattle.bx_day.specs.Receipts.{opens}
use Rattle.bx_day.proofs.exchange.Exchange.lowest.Given as goal

abbrev pub invariant-loop-number : goal.invariant-loop-number
invariant-loop-number l = (n : ℕ) → n < l.number → IsChannel n → position (opens l.self n) l.self.entries ≡ None
