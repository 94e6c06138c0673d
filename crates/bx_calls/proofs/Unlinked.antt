-- Seconds without a link that do not end a call.
use Rattle.std.proofs.Common.{◌≡◌, ℕ, ◌+◌, ◌≤◌, ◌<◌, ◌&&◌, not, true, false, None, arith, sym, ap, ◌∙◌, nat_le, if◌then◌else◌}
use Rattle.std.proofs.lemmas.Bool.{leb-true, and_right, false_from_ne_true}
use Rattle.bx_events.specs.declared.rules.Rules.{Rules}
use Rattle.bx_calls.specs.declared.transition.Transition.{Transition}
use Rattle.bx_calls.specs.declared.net_state.NetState.TheVariants.{DisconnectIndication}
use Rattle.bx_calls.specs.PlainCalls.{PlainNetCall}
use Rattle.bx_calls.specs.NetTable.{net_to, net_is_clearing, net_later, net_unlinked}

late : (m t : ℕ) → t < m → nat_le m t ≡ false
late m t h = false_from_ne_true (nat_le m t) (λ yes. let le : m ≤ t = leb-true m t yes in omega (arith, le, h))

-- the booking goes on
pub goes_on_unlinked : (u : Rules) (n t end : ℕ) (c : PlainNetCall) (r : Transition PlainNetCall) → t < end → r ≡ net_to c None (net_later u n t c.state) → r ≡ net_unlinked u n c t end
goes_on_unlinked u n t end c r early is =
    is ∙ sym (ap (λ b. if b then net_to c None (DisconnectIndication 16 (t + 1)) else net_to c None (net_later u n t c.state)) (and_right (not (net_is_clearing c.state)) (nat_le end t) (late end t early)))

-- the call is being cleared
pub clears_unlinked : (u : Rules) (n t end : ℕ) (c : PlainNetCall) (r : Transition PlainNetCall) → net_is_clearing c.state ≡ true → r ≡ net_to c None (net_later u n t c.state) → r ≡ net_unlinked u n c t end
clears_unlinked u n t end c r clears is =
    is ∙ sym (ap (λ b. if not b && nat_le end t then net_to c None (DisconnectIndication 16 (t + 1)) else net_to c None (net_later u n t c.state)) clears)
