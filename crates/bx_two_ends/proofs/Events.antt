-- Each event of two ends keeps what is true of calls that the exchange began.
use Rattle.bx_events.specs.declared.rules.Rules.TheVariants.{Three}
use Rattle.std.proofs.Common.{◌≡◌, ℕ, suc, Bool, true, false, List, [], ◌∷◌, ◌++◌, length, Option, Some, None, refl, sym, ap, subst, nat_le, if◌then◌else◌}
use Rattle.std.specs.List.{AllByRecursion}
use Rattle.bx_channels.specs.ChannelNumbers.{IsChannel}
use Rattle.bx_base.specs.Bookings.{Row}
use Rattle.bx_q931.specs.Outgoing.{Outgoing, out_octets}
use Rattle.bx_calls.specs.PlainCalls.{PlainUserCall}
use Rattle.bx_calls.specs.UserTable.{user_flag}
use Rattle.bx_day.specs.declared.entry.Standing.{Standing}
use Rattle.bx_day.specs.declared.entry.Standing.TheVariants.{OnCall}
use Rattle.bx_day.specs.Day.{Day}
use Rattle.bx_day.specs.Ticks.{tick, ticked, passed_in}
use Rattle.bx_day.specs.Receipts.{receive}
use Rattle.bx_calls.specs.Sending.{Sent, Answered, reply_list}
use Rattle.bx_events.specs.Events.{Tick, Receive}
use Rattle.bx_day.specs.Law.{standing_at}
use Rattle.bx_day.proofs.Law.{RunFits, run_fits, without_run}
use Rattle.bx_day.proofs.Tick.{by_cases}
use Rattle.bx_far.specs.FarDay.{FarDay, far_ticked, far_unlinked, far_receive}
use Rattle.bx_two_ends.specs.World.{World, WorldEvent, TickExchange, TickFar, WithoutLink, FarWithoutLink, ToExchange, ToFar, exchange_becomes, far_becomes, comes_to_exchange, comes_to_far, message_nth, world_happens}
use Rattle.bx_two_ends.specs.Scripts.{IsScriptRow}
use Rattle.bx_two_ends.specs.TwoEnds.{acknowledges_call, AreOnTheirOwn}
use Rattle.bx_two_ends.proofs.Delivery.{Sendable, said_from, receive_sent, far_receive_sent}
use Rattle.bx_two_ends.proofs.History.{shows, sets_up, clears, has_more, all_map, all_both, all_in, IsIn, IfMessage, nth_holds}
use Rattle.bx_two_ends.proofs.Outward.{Seats, OutwardSent, OutwardSents, OutwardStanding, OutwardStandings, Kept, Holds, Maintained, Cleared, OutwardReply, OutwardReplies, OfferedCall, OfferedCalls, KeepsOutward}
use Rattle.bx_two_ends.proofs.ExchangeTicks.{sents_grow, tick_says, tick_sents, tick_standings, tick_seats}
use Rattle.bx_two_ends.proofs.ExchangeHears.{receive_keeps, standing_grows}
use Rattle.bx_two_ends.proofs.FarCalls.{all_calls}
use Rattle.bx_two_ends.proofs.Outages.{without_started, without_seats, without_standings}
use Rattle.bx_day.specs.declared.entry.Link.TheVariants.{Down}
use Rattle.bx_two_ends.proofs.FarHears.{FarBefore, saids_grow, far_receive_keeps}
use Rattle.bx_two_ends.proofs.FarOutages.{far_unlinked_keeps}
use Rattle.bx_two_ends.proofs.FarTicks.{far_ticked_keeps}

-- ---- what the exchange does leaves the far end as it is

kept_more : (assigned : List (Option ℕ)) (sent more : List Outgoing) (f : FarDay) (r : ℕ) → Kept assigned sent f r → Kept assigned (sent ++ more) f r
kept_more assigned sent more f r (Holds h) = Holds h
kept_more assigned sent more f r (Maintained h) = Maintained h
kept_more assigned sent more f r (Cleared h) = Cleared (has_more (clears r) sent more h)

exchange_step : (rows : List Row) (assigned : List (Option ℕ)) (w : World) (d : Day) (more : List Outgoing) → KeepsOutward rows assigned w → RunFits rows assigned d → Seats assigned d.entries → OutwardSents assigned d (w.sent ++ more) (w.sent ++ more) → OutwardStandings (w.sent ++ more) w.far_sent d
    → KeepsOutward rows assigned (exchange_becomes w d more)
exchange_step rows assigned w d more k run seats sents standings = record {
  run = run;
  seats = seats;
  sents = sents;
  standings = standings;
  replies = all_map (λ o. o.flag ≡ true → OutwardReply assigned w.sent w.far o) (λ o. o.flag ≡ true → OutwardReply assigned (w.sent ++ more) w.far o)
      (λ o p q. record { known = has_more (sets_up o.reference) w.sent more (p q).known; kept = λ c. kept_more assigned w.sent more w.far o.reference ((p q).kept c) }) w.far_sent k.replies;
  calls = all_calls (λ c. user_flag c.origin ≡ true → OfferedCall assigned w.sent c) (λ c. user_flag c.origin ≡ true → OfferedCall assigned (w.sent ++ more) c)
      (λ c p q. record { known = has_more (sets_up c.reference) w.sent more (p q).known; channel = (p q).channel; in_service = (p q).in_service; offered = (p q).offered; active = λ a. has_more (acknowledges_call c.reference) w.sent more ((p q).active a) }) w.far.calls k.calls;
  apart = k.apart;
  size = k.size;
  places = k.places;
  script = k.script;
}

-- ---- and what the far end does the exchange

standing_hears : (r : ℕ) (sent far_sent more : List Outgoing) (s : Standing) → OutwardStanding r sent far_sent s → OutwardStanding r sent (far_sent ++ more) s
standing_hears r sent far_sent more (OnCall c a) h = λ f. record { known = (h f).known; calm = (h f).calm; active = λ q. has_more (shows r) far_sent more ((h f).active q); proceeding = (h f).proceeding }
standing_hears r sent far_sent more s h = tt

far_step : (rows : List Row) (assigned : List (Option ℕ)) (w : World) (f : FarDay) (more : List Outgoing) → KeepsOutward rows assigned w → OutwardReplies assigned w.sent f (w.far_sent ++ more) → OfferedCalls assigned w.sent f.calls → AreOnTheirOwn f.calls → length f.maintenance ≡ 32
    → AllByRecursion (λ (c : PlainUserCall). IsChannel c.channel) f.calls → AllByRecursion IsScriptRow f.script → KeepsOutward rows assigned (far_becomes w f more)
far_step rows assigned w f more k replies calls apart size places script = record {
  run = k.run;
  seats = k.seats;
  sents = k.sents;
  standings = λ i. standing_hears (suc i) w.sent w.far_sent more (standing_at w.exchange i) (k.standings i);
  replies = replies;
  calls = calls;
  apart = apart;
  size = size;
  places = places;
  script = script;
}

-- ---- ticks

tick_exchange : (rows : List Row) (assigned : List (Option ℕ)) (w : World) → KeepsOutward rows assigned w → KeepsOutward rows assigned (world_happens w TickExchange)
tick_exchange rows assigned w k = decide (nat_le 300000 w.exchange.moment) refl (run_fits rows assigned (Tick ∷ []) w.exchange k.run)
  where
    decide : (b : Bool) → nat_le 300000 w.exchange.moment ≡ b → RunFits rows assigned (tick w.exchange).day → KeepsOutward rows assigned (exchange_becomes w (tick w.exchange).day (tick w.exchange).sent)
    decide true q run = subst (λ (s : Sent Day). RunFits rows assigned s.day → KeepsOutward rows assigned (exchange_becomes w s.day s.sent)) (sym (ends q))
        (λ r. exchange_step rows assigned w w.exchange [] k r k.seats (sents_grow assigned w.sent [] w.exchange w.exchange (λ i h. h) k.sents tt) (λ i. standing_grows (suc i) w.sent [] w.far_sent (standing_at w.exchange i) (k.standings i) (λ _. refl))) run
      where
        ends : nat_le 300000 w.exchange.moment ≡ true → tick w.exchange ≡ record { day = w.exchange; sent = [] }
        ends h = ap (λ (b : Bool). if b then record { day = w.exchange; sent = [] } else ticked w.exchange) h
    decide false q run = subst (λ (s : Sent Day). RunFits rows assigned s.day → KeepsOutward rows assigned (exchange_becomes w s.day s.sent)) (sym (goes q))
        (λ r. let says = tick_says assigned w.sent w.far_sent w.exchange k.run.day k.seats k.standings q in
        exchange_step rows assigned w (ticked w.exchange).day (ticked w.exchange).sent k r (tick_seats assigned w.exchange k.seats) (tick_sents assigned w.sent w.exchange says k.sents) (tick_standings assigned w.sent w.far_sent w.exchange k.seats k.sents says k.standings)) run
      where
        goes : nat_le 300000 w.exchange.moment ≡ false → tick w.exchange ≡ ticked w.exchange
        goes h = ap (λ (b : Bool). if b then record { day = w.exchange; sent = [] } else ticked w.exchange) h

-- a second without a link
without_keeps : (rows : List Row) (assigned : List (Option ℕ)) (w : World) → KeepsOutward rows assigned w → KeepsOutward rows assigned (world_happens w WithoutLink)
without_keeps rows assigned w k =
    by_cases (nat_le 300000 w.exchange.moment) _ _ (λ (d : Day). RunFits rows assigned d → KeepsOutward rows assigned (exchange_becomes w d []))
    (λ _ run. exchange_step rows assigned w w.exchange [] k run k.seats (sents_grow assigned w.sent [] w.exchange w.exchange (λ i h. h) k.sents tt) (λ i. standing_grows (suc i) w.sent [] w.far_sent (standing_at w.exchange i) (k.standings i) (λ _. refl)))
    (λ _ run. exchange_step rows assigned w (passed_in (Down Three) w.exchange).day [] k run (without_seats assigned w.exchange k.seats) (sents_grow assigned w.sent [] w.exchange (passed_in (Down Three) w.exchange).day (without_started w.exchange) k.sents tt) (without_standings w.sent w.far_sent w.exchange k.standings))
    (without_run Three rows assigned w.exchange k.run)

far_before : (rows : List Row) (assigned : List (Option ℕ)) (w : World) → KeepsOutward rows assigned w → FarBefore assigned w.sent w.far_sent w.far
far_before rows assigned w k = record { replies = k.replies; calls = k.calls; apart = k.apart; size = k.size; places = k.places }

tick_far : (rows : List Row) (assigned : List (Option ℕ)) (w : World) → KeepsOutward rows assigned w → KeepsOutward rows assigned (world_happens w TickFar)
tick_far rows assigned w k = by_cases (nat_le 300000 w.far.moment) _ _ (λ (s : Sent FarDay). KeepsOutward rows assigned (far_becomes w s.day s.sent))
    (λ _. far_step rows assigned w w.far [] k (saids_grow assigned w.sent w.far_sent [] w.far w.far (λ r h. h) k.replies tt) k.calls k.apart k.size k.places k.script)
    (λ _. let t = far_ticked_keeps assigned w.sent w.far_sent w.far k.script (far_before rows assigned w k) in
    far_step rows assigned w (far_ticked w.far).day (far_ticked w.far).sent k t.replies t.calls t.apart t.size t.places k.script)

-- a second without a link
far_without_keeps : (rows : List Row) (assigned : List (Option ℕ)) (w : World) → KeepsOutward rows assigned w → KeepsOutward rows assigned (world_happens w FarWithoutLink)
far_without_keeps rows assigned w k = by_cases (nat_le 300000 w.far.moment) _ _ (λ (f : FarDay). KeepsOutward rows assigned (far_becomes w f []))
    (λ _. far_step rows assigned w w.far [] k (saids_grow assigned w.sent w.far_sent [] w.far w.far (λ r h. h) k.replies tt) k.calls k.apart k.size k.places k.script)
    (λ _. let t = far_unlinked_keeps assigned w.sent w.far_sent w.far (far_before rows assigned w k) in
    far_step rows assigned w (far_unlinked w.far) [] k t.replies t.calls t.apart t.size t.places k.script)

-- ---- messages

-- all that was sent is within the limits of a message
pub record MessagesWithin (w : World) : Type 0 where
  pub sent : AllByRecursion Sendable w.sent
  pub far_sent : AllByRecursion Sendable w.far_sent

to_exchange : (rows : List Row) (assigned : List (Option ℕ)) (w : World) (o : Option Outgoing) → KeepsOutward rows assigned w → IfMessage (λ x. (IsIn w.far_sent x × (x.flag ≡ true → OutwardReply assigned w.sent w.far x)) × Sendable x) o → KeepsOutward rows assigned (comes_to_exchange w o)
to_exchange rows assigned w None k h = k
to_exchange rows assigned w (Some o) k h =
    subst (λ (x : Answered Day). RunFits rows assigned x.day → KeepsOutward rows assigned (exchange_becomes w x.day (reply_list x.reply))) (sym (receive_sent w.exchange o h.1))
    (λ run. let x = receive_keeps assigned w.sent w.far_sent w.exchange o (record { fits = k.run.day; seats = k.seats; sents = k.sents; standings = k.standings }) (λ f. (h.0.1 f).known) h.0.0 in
    exchange_step rows assigned w (receive w.exchange (said_from o)).day (reply_list (receive w.exchange (said_from o)).reply) k run x.seats x.sents x.standings)
    (run_fits rows assigned (Receive (out_octets o) ∷ []) w.exchange k.run)

to_far : (rows : List Row) (assigned : List (Option ℕ)) (w : World) (o : Option Outgoing) → KeepsOutward rows assigned w → IfMessage (λ x. (IsIn w.sent x × (x.flag ≡ false → OutwardSent assigned w.exchange w.sent x)) × Sendable x) o → KeepsOutward rows assigned (comes_to_far w o)
to_far rows assigned w None k h = k
to_far rows assigned w (Some o) k h =
    subst (λ (x : Answered FarDay). KeepsOutward rows assigned (far_becomes w x.day (reply_list x.reply))) (sym (far_receive_sent w.far o h.1))
    (let x = far_receive_keeps assigned w.sent w.far_sent w.exchange w.far o o.called (far_before rows assigned w k) h.0.1 h.0.0 in
    far_step rows assigned w (far_receive w.far (said_from o) o.called).day (reply_list (far_receive w.far (said_from o) o.called).reply) k x.replies x.calls x.apart x.size x.places (subst (AllByRecursion IsScriptRow) (sym x.script) k.script))

pub happens_keeps : (rows : List Row) (assigned : List (Option ℕ)) (w : World) (e : WorldEvent) → KeepsOutward rows assigned w → MessagesWithin w → KeepsOutward rows assigned (world_happens w e)
happens_keeps rows assigned w TickExchange k l = tick_exchange rows assigned w k
happens_keeps rows assigned w WithoutLink k l = without_keeps rows assigned w k
happens_keeps rows assigned w FarWithoutLink k l = far_without_keeps rows assigned w k
happens_keeps rows assigned w TickFar k l = tick_far rows assigned w k
happens_keeps rows assigned w (ToExchange n) k l = to_exchange rows assigned w (message_nth w.far_sent n) k
    (nth_holds (λ x. (IsIn w.far_sent x × (x.flag ≡ true → OutwardReply assigned w.sent w.far x)) × Sendable x) w.far_sent n
    (all_both (λ x. IsIn w.far_sent x × (x.flag ≡ true → OutwardReply assigned w.sent w.far x)) Sendable w.far_sent (all_both (IsIn w.far_sent) (λ x. x.flag ≡ true → OutwardReply assigned w.sent w.far x) w.far_sent (all_in w.far_sent) k.replies) l.far_sent))
happens_keeps rows assigned w (ToFar n) k l = to_far rows assigned w (message_nth w.sent n) k
    (nth_holds (λ x. (IsIn w.sent x × (x.flag ≡ false → OutwardSent assigned w.exchange w.sent x)) × Sendable x) w.sent n
    (all_both (λ x. IsIn w.sent x × (x.flag ≡ false → OutwardSent assigned w.exchange w.sent x)) Sendable w.sent (all_both (IsIn w.sent) (λ x. x.flag ≡ false → OutwardSent assigned w.exchange w.sent x) w.sent (all_in w.sent) k.sents) l.sent))
