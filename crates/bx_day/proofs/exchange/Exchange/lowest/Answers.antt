use Rattle.std.proofs.Common.{◌≡◌, ℕ, Some, refl, sym, ap, ◌∙◌}
use Rattle.std.specs.List.{position}
use Rattle.bx_channels.specs.ChannelNumbers.{IsChannel}
use Rattle.bx_day.specs.Receipts.{opens}
use Rattle.bx_day.proofs.Received.{lowest_found}
use Rattle.bx_day.proofs.exchange.Exchange.lowest.Goals as goal

pub returns-in-Some-open_on-clause-first : goal.returns-in-Some-open_on-clause-first
returns-in-Some-open_on-clause-first c =
    let d = c.args.self.now in
    let n = c.loop-number.number in
    let is : IsChannel n = c.in-Some.ensures.exactly.0 refl in
    let here : position (opens d n) d.entries ≡ Some c.in-Some-open_on.index = ap (λ (k : ℕ). position (opens d k) d.entries) (sym c.in-Some.ensures.value) ∙ sym c.open_on.ensures.first ∙ c.in-Some-open_on.is in
    sym (lowest_found d n c.in-Some-open_on.index is c.loop-number.invariant here)
