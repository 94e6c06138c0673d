-- At every point of every list of events the kept facts are true, and all messages within limits.
use Rattle.std.proofs.Common.{ℕ, zero, suc, ◌+◌, Bool, List, [], ◌∷◌, Option, Some, None, sym, subst, arith, nat_le}
use Rattle.bx_base.specs.Channels.{IsChannelSet}
use Rattle.bx_base.specs.Bookings.{Row, AreBookings, Carries}
use Rattle.bx_base.specs.Plans.{is_accepted, channel_at}
use Rattle.bx_q931.specs.Outgoing.{Outgoing}
use Rattle.bx_day.specs.Day.{Day, entries_from, entry_at}
use Rattle.bx_day.specs.Ticks.{tick}
use Rattle.bx_day.specs.Receipts.{receive}
use Rattle.bx_calls.specs.Sending.{Answered, reply_list}
use Rattle.bx_far.specs.FarDay.{FarDay, far_tick, far_receive}
use Rattle.bx_far.specs.declared.row.ScriptRow.{ScriptRow}
use Rattle.bx_far.proofs.Kept.{later_few}
use Rattle.bx_two_ends.specs.World.{World, WorldEvent, TickExchange, TickFar, WithoutLink, FarWithoutLink, ToExchange, ToFar, exchange_becomes, far_becomes, comes_to_exchange, comes_to_far, message_nth, world_happens, world_opening, world_after}
use Rattle.bx_two_ends.specs.Scripts.{AreScriptRows}
use Rattle.bx_two_ends.specs.TwoEnds.{IsTwoEnds}
use Rattle.bx_two_ends.proofs.Delivery.{Sendable, said_from, receive_sent, far_receive_sent}
use Rattle.bx_two_ends.proofs.History.{all_joined, IfMessage, nth_holds, listed}
use Rattle.bx_two_ends.proofs.Outward.{KeepsOutward}
use Rattle.bx_two_ends.proofs.ExchangeLimits.{StandingWithin, ExchangeWithin, tick_sendable, tick_within, receive_ok}
use Rattle.bx_two_ends.proofs.FarLimits.{FarWithin, far_tick_ok, far_receive_ok}
use Rattle.bx_two_ends.proofs.FarOutages.{far_unlinked_within}
use Rattle.bx_day.proofs.Tick.{by_cases}
use Rattle.bx_two_ends.proofs.Outages.{without_within}
use Rattle.bx_two_ends.proofs.Events.{MessagesWithin, happens_keeps}
use Rattle.bx_two_ends.proofs.Openings.{opening_keeps}
use Rattle.bx_two_ends.proofs.Conclusions.{says_two_ends}

pub record WorldWithin (w : World) : Type 0 where
  pub messages : MessagesWithin w
  pub exchange : ExchangeWithin w.exchange
  pub far : FarWithin w.far

exchange_within : (rows : List Row) (assigned : List (Option ℕ)) (w : World) (o : Option Outgoing) → KeepsOutward rows assigned w → WorldWithin w → IfMessage Sendable o → WorldWithin (comes_to_exchange w o)
exchange_within rows assigned w None k l s = l
exchange_within rows assigned w (Some o) k l s = subst (λ (x : Answered Day). WorldWithin (exchange_becomes w x.day (reply_list x.reply))) (sym (receive_sent w.exchange o s))
    (let x = receive_ok assigned w.exchange o k.seats l.exchange s in
    record { messages = record { sent = all_joined Sendable w.sent (reply_list (receive w.exchange (said_from o)).reply) l.messages.sent (listed Sendable (receive w.exchange (said_from o)).reply x.reply); far_sent = l.messages.far_sent }; exchange = x.lims; far = l.far })

far_within : (w : World) (o : Option Outgoing) → WorldWithin w → IfMessage Sendable o → WorldWithin (comes_to_far w o)
far_within w None l s = l
far_within w (Some o) l s = subst (λ (x : Answered FarDay). WorldWithin (far_becomes w x.day (reply_list x.reply))) (sym (far_receive_sent w.far o s))
    (let x = far_receive_ok w.far o o.called l.far s in
    record { messages = record { sent = l.messages.sent; far_sent = all_joined Sendable w.far_sent (reply_list (far_receive w.far (said_from o) o.called).reply) l.messages.far_sent (listed Sendable (far_receive w.far (said_from o) o.called).reply x.reply) }; exchange = l.exchange; far = x.lims })

pub happens_within : (rows : List Row) (assigned : List (Option ℕ)) (w : World) (e : WorldEvent) → KeepsOutward rows assigned w → WorldWithin w → WorldWithin (world_happens w e)
happens_within rows assigned w TickExchange k l = record {
  messages = record { sent = all_joined Sendable w.sent (tick w.exchange).sent l.messages.sent (tick_sendable assigned w.exchange k.seats l.exchange); far_sent = l.messages.far_sent };
  exchange = tick_within assigned w.exchange k.seats l.exchange;
  far = l.far;
}
happens_within rows assigned w WithoutLink k l = record {
  messages = record { sent = all_joined Sendable w.sent [] l.messages.sent tt; far_sent = l.messages.far_sent };
  exchange = without_within assigned w.exchange k.seats l.exchange;
  far = l.far;
}
happens_within rows assigned w FarWithoutLink k l = record {
  messages = record { sent = l.messages.sent; far_sent = all_joined Sendable w.far_sent [] l.messages.far_sent tt };
  exchange = l.exchange;
  far = by_cases (nat_le 300000 w.far.moment) _ _ FarWithin (λ _. l.far) (λ _. far_unlinked_within w.far l.far);
}
happens_within rows assigned w TickFar k l =
    let x = far_tick_ok w.far k.script l.far in
    record { messages = record { sent = l.messages.sent; far_sent = all_joined Sendable w.far_sent (far_tick w.far).sent l.messages.far_sent x.sent }; exchange = l.exchange; far = x.lims }
happens_within rows assigned w (ToExchange n) k l = exchange_within rows assigned w (message_nth w.far_sent n) k l (nth_holds Sendable w.far_sent n l.messages.far_sent)
happens_within rows assigned w (ToFar n) k l = far_within w (message_nth w.sent n) l (nth_holds Sendable w.sent n l.messages.sent)

pub opening_standing : (k : ℕ) (rows : List Row) (assigned : List (Option ℕ)) (i : ℕ) → StandingWithin (entry_at (entries_from k rows assigned) i).standing
opening_standing k [] assigned i = tt
opening_standing k (b ∷ bs) [] zero = tt
opening_standing k (b ∷ bs) [] (suc i) = opening_standing (k + 1) bs [] i
opening_standing k (b ∷ bs) (None ∷ as') zero = tt
opening_standing k (b ∷ bs) (Some c ∷ as') zero = tt
opening_standing k (b ∷ bs) (a ∷ as') (suc i) = opening_standing (k + 1) bs as' i

pub opening_within : (rows : List Row) (assigned : List (Option ℕ)) (script : List ScriptRow) → AreScriptRows script → WorldWithin (world_opening rows assigned script)
opening_within rows assigned script s = record {
  messages = record { sent = tt; far_sent = tt };
  exchange = opening_standing 1 rows assigned;
  far = record { calls = tt; first = omega arith; room = omega (arith, s.few, later_few 0 script) };
}

pub after_keeps : (rows : List Row) (assigned : List (Option ℕ)) (events : List WorldEvent) (w : World) → KeepsOutward rows assigned w → WorldWithin w → KeepsOutward rows assigned (world_after events w)
after_keeps rows assigned [] w k l = k
after_keeps rows assigned (e ∷ es) w k l = after_keeps rows assigned es (world_happens w e) (happens_keeps rows assigned w e k l.messages) (happens_within rows assigned w e k l)

pub two_ends_hold : (rows : List Row) (channels : List Bool) (assigned : List (Option ℕ)) (script : List ScriptRow) (events : List WorldEvent) → AreBookings rows → IsChannelSet channels → Carries rows channels (is_accepted assigned) (channel_at assigned) → AreScriptRows script → IsTwoEnds rows (world_after events (world_opening rows assigned script))
two_ends_hold rows channels assigned script events b set h s = says_two_ends rows assigned (world_after events (world_opening rows assigned script))
    (after_keeps rows assigned events (world_opening rows assigned script) (opening_keeps rows channels assigned script b set h s) (opening_within rows assigned script s))
