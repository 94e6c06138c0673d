-- At every point of every list of events what is kept of calls that the far end began is true, and it says the law.
use Rattle.bx_events.specs.declared.rules.Rules.TheVariants.{Three}
use Rattle.std.proofs.Common.{◌≡◌, ◌⊎◌, inl, inr, ℕ, ◌+◌, ◌≤◌, ◌<◌, Bool, true, false, List, [], ◌∷◌, ◌++◌, Option, Some, None, refl, sym, subst, ◌∙◌, arith, nat_le}
use Rattle.std.specs.List.{list_any}
use Rattle.std.proofs.lemmas.Bool.{true≢false, and_parts}
use Rattle.bx_base.specs.Bookings.{Row, AreBookings, Carries}
use Rattle.bx_base.specs.Channels.{IsChannelSet}
use Rattle.bx_base.specs.Plans.{is_accepted, channel_at}
use Rattle.bx_q931.specs.Outgoing.{Outgoing}
use Rattle.bx_calls.specs.PlainCalls.{PlainUserCall}
use Rattle.bx_calls.specs.UserTable.{user_flag}
use Rattle.bx_calls.specs.declared.user_state.UserState.{UserState}
use Rattle.bx_calls.specs.declared.user_state.UserState.TheVariants as user
use Rattle.bx_day.specs.declared.entry.Entry.{Entry}
use Rattle.bx_day.specs.declared.entry.Standing.{Standing}
use Rattle.bx_day.specs.declared.entry.Standing.TheVariants.{OnCall}
use Rattle.bx_channels.specs.Marks.{is_marked}
use Rattle.bx_day.specs.Day.{Day, entries_from, entry_at}
use Rattle.bx_day.specs.Ticks.{ticked, passed_in}
use Rattle.bx_day.specs.declared.entry.Link.TheVariants.{Down}
use Rattle.bx_day.specs.Receipts.{receive}
use Rattle.bx_calls.specs.Sending.{Sent, Answered, reply_list}
use Rattle.bx_day.specs.Invariant.{EntryFits, StandingFits}
use Rattle.bx_day.proofs.Receive.{all_at}
use Rattle.bx_day.proofs.Tick.{by_cases}
use Rattle.bx_far.specs.FarDay.{FarDay, far_ticked, far_unlinked, far_receive}
use Rattle.bx_far.specs.declared.row.ScriptRow.{ScriptRow}
use Rattle.bx_two_ends.specs.World.{World, WorldEvent, TickExchange, TickFar, WithoutLink, FarWithoutLink, ToExchange, ToFar, exchange_becomes, far_becomes, comes_to_exchange, comes_to_far, message_nth, world_happens, world_opening, world_after}
use Rattle.bx_two_ends.specs.Scripts.{AreScriptRows}
use Rattle.bx_two_ends.specs.TwoEnds.{IsUserActive}
use Rattle.bx_two_ends.specs.TwoEndsInward.{exchange_holds, is_connect_kind, connects, IsConnected, IsTwoEndsInward}
use Rattle.bx_two_ends.proofs.Delivery.{Sendable, said_from, receive_sent, far_receive_sent}
use Rattle.bx_two_ends.proofs.History.{from_other, clears, found, other_parts, has_more, all_map, all_both, all_in, IsIn, IfMessage, nth_holds}
use Rattle.bx_two_ends.proofs.Outward.{KeepsOutward}
use Rattle.bx_two_ends.proofs.Openings.{opening_keeps}
use Rattle.bx_two_ends.proofs.Events.{happens_keeps}
use Rattle.bx_two_ends.proofs.Points.{WorldWithin, happens_within, opening_within}
use Rattle.bx_two_ends.proofs.Conclusions.{talks}
use Rattle.bx_two_ends.proofs.FarCalls.{all_calls}
use Rattle.bx_two_ends.proofs.InwardRows.{is_user_clearing}
use Rattle.bx_two_ends.proofs.Inward.{InwardSent, InwardSents, InwardCall, InwardCalls, KeptInward, Holds, Maintained, Cleared, InwardReply, TakenStanding, TakenEntries, KeepsInward}
use Rattle.bx_two_ends.proofs.InwardExchange.{PlacedAt, TakenBefore, TakenAfter, unchanged_takes, ticked_takes, without_takes, receive_takes}
use Rattle.bx_two_ends.proofs.InwardFar.{Own, silent_inward, far_receive_inward}
use Rattle.bx_two_ends.proofs.FarOutages.{far_unlinked_inward}
use Rattle.bx_two_ends.proofs.InwardFarTicks.{far_ticked_inward}

-- ---- what the exchange does leaves the far end's messages and calls as they are

exchange_inward : (w : World) (d : Day) (more : List Outgoing) (k : KeepsInward w) → TakenAfter k.named w.far.next w.sent w.far_sent more d → KeepsInward (exchange_becomes w d more)
exchange_inward w d more k x = record {
  named = k.named;
  sents = k.sents;
  calls = all_calls (Own k.named w.far.next w.sent w.far_sent) (Own k.named w.far.next (w.sent ++ more) w.far_sent)
      (λ c p u. record { given = (p u).given; channel = (p u).channel; began = (p u).began; calm = (p u).calm; active = λ q. has_more (connects c.reference) w.sent more ((p u).active q) }) w.far.calls k.calls;
  replies = x.replies;
  entries = x.entries;
  size = x.size;
}

-- ---- and what the far end does the exchange's; names of references that were given stay

less : (r n m : ℕ) → r < n → n ≤ m → r < m
less r n m l g = omega (arith, l, g)

kept_named : (before named : ℕ → ℕ) (far_sent more : List Outgoing) (d : Day) (r : ℕ) → named r ≡ before r → KeptInward before far_sent d r → KeptInward named (far_sent ++ more) d r
kept_named before named far_sent more d r q (Holds h) = Holds (subst (λ c. exchange_holds d.entries r c ≡ true) (sym q) h)
kept_named before named far_sent more d r q (Maintained h) = Maintained (subst (λ c. is_marked d.maintenance c ≡ true) (sym q) h)
kept_named before named far_sent more d r q (Cleared h) = Cleared (has_more (clears r) far_sent more h)

taken_named : (before named : ℕ → ℕ) (next later : ℕ) → ((r : ℕ) → r < next → named r ≡ before r) → next ≤ later → (s : Standing) → TakenStanding before next s → TakenStanding named later s
taken_named before named next later agrees grown (OnCall c a) h = λ f. let old = h f in record { given = less c.reference next later old.given grown; channel = old.channel ∙ sym (agrees c.reference old.given); taken = old.taken }
taken_named before named next later agrees grown s h = tt

entries_named : (before named : ℕ → ℕ) (next later : ℕ) → ((r : ℕ) → r < next → named r ≡ before r) → next ≤ later → (es : List Entry) → TakenEntries before next es → TakenEntries named later es
entries_named before named next later agrees grown [] h = tt
entries_named before named next later agrees grown (e ∷ es) h = (taken_named before named next later agrees grown e.standing h.0, entries_named before named next later agrees grown es h.1)

far_inward : (w : World) (f : FarDay) (more : List Outgoing) (k : KeepsInward w) (named : ℕ → ℕ) → ((r : ℕ) → r < w.far.next → named r ≡ k.named r) → w.far.next ≤ f.next → InwardSents named f.next (w.far_sent ++ more) → InwardCalls named f.next w.sent (w.far_sent ++ more) f.calls → KeepsInward (far_becomes w f more)
far_inward w f more k named agrees grown sents calls = record {
  named = named;
  sents = sents;
  calls = calls;
  replies = all_map (λ o. o.flag ≡ true → InwardReply k.named w.far.next w.far_sent w.exchange o) (λ o. o.flag ≡ true → InwardReply named f.next (w.far_sent ++ more) w.exchange o)
      (λ o p q. let old = p q in record { given = less o.reference w.far.next f.next old.given grown; kept = λ c. kept_named k.named named w.far_sent more w.exchange o.reference (agrees o.reference old.given) (old.kept c) }) w.sent k.replies;
  entries = entries_named k.named named w.far.next f.next agrees grown w.exchange.entries k.entries;
  size = k.size;
}

-- ---- each event

placed_at : (t : ℕ) (e : Entry) (s : Standing) → StandingFits t e s → PlacedAt e s
placed_at t e (OnCall c a) h = h.channel
placed_at t e s h = tt

before : (rows : List Row) (assigned : List (Option ℕ)) (w : World) → KeepsOutward rows assigned w → (k : KeepsInward w) → TakenBefore k.named w.far.next w.sent w.far_sent w.exchange
before rows assigned w o k = record {
  replies = k.replies;
  entries = k.entries;
  size = k.size;
  placed = λ i. placed_at w.exchange.moment (entry_at w.exchange.entries i) (entry_at w.exchange.entries i).standing (all_at (EntryFits w.exchange.moment) tt w.exchange.entries i o.run.day.each);
  in_service = λ i q. (o.seats i q).in_service;
}

tick_exchange : (rows : List Row) (assigned : List (Option ℕ)) (w : World) → KeepsOutward rows assigned w → KeepsInward w → KeepsInward (world_happens w TickExchange)
tick_exchange rows assigned w o k = by_cases (nat_le 300000 w.exchange.moment) _ _ (λ (s : Sent Day). KeepsInward (exchange_becomes w s.day s.sent))
    (λ _. exchange_inward w w.exchange [] k (unchanged_takes k.named w.far.next w.sent w.far_sent w.exchange None (before rows assigned w o k) tt))
    (λ _. exchange_inward w (ticked w.exchange).day (ticked w.exchange).sent k (ticked_takes k.named w.far.next w.sent w.far_sent w.exchange (before rows assigned w o k)))

without_link_inward : (rows : List Row) (assigned : List (Option ℕ)) (w : World) → KeepsOutward rows assigned w → KeepsInward w → KeepsInward (world_happens w WithoutLink)
without_link_inward rows assigned w o k = by_cases (nat_le 300000 w.exchange.moment) _ _ (λ (d : Day). KeepsInward (exchange_becomes w d []))
    (λ _. exchange_inward w w.exchange [] k (unchanged_takes k.named w.far.next w.sent w.far_sent w.exchange None (before rows assigned w o k) tt))
    (λ _. exchange_inward w (passed_in (Down Three) w.exchange).day [] k (without_takes k.named w.far.next w.sent w.far_sent w.exchange (before rows assigned w o k)))

tick_far : (rows : List Row) (assigned : List (Option ℕ)) (w : World) → KeepsOutward rows assigned w → KeepsInward w → KeepsInward (world_happens w TickFar)
tick_far rows assigned w o k = by_cases (nat_le 300000 w.far.moment) _ _ (λ (s : Sent FarDay). KeepsInward (far_becomes w s.day s.sent))
    (λ _. let x = silent_inward k.named w.sent w.far_sent w.far k.sents k.calls in far_inward w w.far [] k k.named (λ r l. refl) (omega arith) x.sents x.calls)
    (λ _. let x = far_ticked_inward k.named w.sent w.far_sent w.far k.sents k.calls o.apart in far_inward w (far_ticked w.far).day (far_ticked w.far).sent k x.named x.agrees x.grown x.sents x.calls)

far_without_link_inward : (rows : List Row) (assigned : List (Option ℕ)) (w : World) → KeepsOutward rows assigned w → KeepsInward w → KeepsInward (world_happens w FarWithoutLink)
far_without_link_inward rows assigned w o k =
    let x = silent_inward k.named w.sent w.far_sent w.far k.sents k.calls in
    by_cases (nat_le 300000 w.far.moment) _ _ (λ (f : FarDay). KeepsInward (far_becomes w f []))
    (λ _. far_inward w w.far [] k k.named (λ r l. refl) (omega arith) x.sents x.calls)
    (λ _. far_inward w (far_unlinked w.far) [] k k.named (λ r l. refl) (omega arith) x.sents (far_unlinked_inward k.named w.far.next (w.far.moment + 1) w.sent (w.far_sent ++ []) w.far.calls x.calls))

to_exchange : (rows : List Row) (assigned : List (Option ℕ)) (w : World) (m : Option Outgoing) → KeepsOutward rows assigned w → (k : KeepsInward w) → IfMessage (λ x. (IsIn w.far_sent x × (x.flag ≡ false → InwardSent k.named w.far.next x)) × Sendable x) m → KeepsInward (comes_to_exchange w m)
to_exchange rows assigned w None o k h = k
to_exchange rows assigned w (Some m) o k h =
    subst (λ (x : Answered Day). KeepsInward (exchange_becomes w x.day (reply_list x.reply))) (sym (receive_sent w.exchange m h.1))
    (exchange_inward w (receive w.exchange (said_from m)).day (reply_list (receive w.exchange (said_from m)).reply) k
    (receive_takes k.named w.far.next w.sent w.far_sent w.exchange m (before rows assigned w o k) h.0.1 h.0.0))

to_far : (rows : List Row) (assigned : List (Option ℕ)) (w : World) (m : Option Outgoing) → KeepsOutward rows assigned w → (k : KeepsInward w) → IfMessage (λ x. (IsIn w.sent x × (x.flag ≡ true → InwardReply k.named w.far.next w.far_sent w.exchange x)) × Sendable x) m → KeepsInward (comes_to_far w m)
to_far rows assigned w None o k h = k
to_far rows assigned w (Some m) o k h =
    subst (λ (x : Answered FarDay). KeepsInward (far_becomes w x.day (reply_list x.reply))) (sym (far_receive_sent w.far m h.1))
    (let x = far_receive_inward k.named w.sent w.far_sent w.far m m.called k.sents k.calls o.apart (λ f. (h.0.1 f).given) h.0.0 in
    let day : FarDay = (far_receive w.far (said_from m) m.called).day in
    far_inward w day (reply_list (far_receive w.far (said_from m) m.called).reply) k k.named (λ r l. refl) (omega (arith, x.next_stays))
    (subst (λ n. InwardSents k.named n (w.far_sent ++ reply_list (far_receive w.far (said_from m) m.called).reply)) (sym x.next_stays) x.sents)
    (subst (λ n. InwardCalls k.named n w.sent (w.far_sent ++ reply_list (far_receive w.far (said_from m) m.called).reply) day.calls) (sym x.next_stays) x.calls))

happens_inward : (rows : List Row) (assigned : List (Option ℕ)) (w : World) (e : WorldEvent) → KeepsOutward rows assigned w → KeepsInward w → WorldWithin w → KeepsInward (world_happens w e)
happens_inward rows assigned w TickExchange o k l = tick_exchange rows assigned w o k
happens_inward rows assigned w WithoutLink o k l = without_link_inward rows assigned w o k
happens_inward rows assigned w FarWithoutLink o k l = far_without_link_inward rows assigned w o k
happens_inward rows assigned w TickFar o k l = tick_far rows assigned w o k
happens_inward rows assigned w (ToExchange n) o k l = to_exchange rows assigned w (message_nth w.far_sent n) o k
    (nth_holds (λ x. (IsIn w.far_sent x × (x.flag ≡ false → InwardSent k.named w.far.next x)) × Sendable x) w.far_sent n
    (all_both (λ x. IsIn w.far_sent x × (x.flag ≡ false → InwardSent k.named w.far.next x)) Sendable w.far_sent (all_both (IsIn w.far_sent) (λ x. x.flag ≡ false → InwardSent k.named w.far.next x) w.far_sent (all_in w.far_sent) k.sents) l.messages.far_sent))
happens_inward rows assigned w (ToFar n) o k l = to_far rows assigned w (message_nth w.sent n) o k
    (nth_holds (λ x. (IsIn w.sent x × (x.flag ≡ true → InwardReply k.named w.far.next w.far_sent w.exchange x)) × Sendable x) w.sent n
    (all_both (λ x. IsIn w.sent x × (x.flag ≡ true → InwardReply k.named w.far.next w.far_sent w.exchange x)) Sendable w.sent (all_both (IsIn w.sent) (λ x. x.flag ≡ true → InwardReply k.named w.far.next w.far_sent w.exchange x) w.sent (all_in w.sent) k.replies) l.messages.sent))

-- ---- every point

opening_taken : (k : ℕ) (rows : List Row) (assigned : List (Option ℕ)) (named : ℕ → ℕ) → TakenEntries named 1 (entries_from k rows assigned)
opening_taken k [] assigned named = tt
opening_taken k (b ∷ bs) [] named = (tt, opening_taken (k + 1) bs [] named)
opening_taken k (b ∷ bs) (None ∷ as') named = (tt, opening_taken (k + 1) bs as' named)
opening_taken k (b ∷ bs) (Some c ∷ as') named = (tt, opening_taken (k + 1) bs as' named)

opening_inward : (rows : List Row) (assigned : List (Option ℕ)) (script : List ScriptRow) → KeepsInward (world_opening rows assigned script)
opening_inward rows assigned script = record { named = λ r. r; sents = tt; calls = tt; replies = tt; entries = opening_taken 1 rows assigned (λ r. r); size = refl }

after_inward : (rows : List Row) (assigned : List (Option ℕ)) (events : List WorldEvent) (w : World) → KeepsOutward rows assigned w → KeepsInward w → WorldWithin w → KeepsInward (world_after events w)
after_inward rows assigned [] w o k l = k
after_inward rows assigned (e ∷ es) w o k l = after_inward rows assigned es (world_happens w e) (happens_keeps rows assigned w e o l.messages) (happens_inward rows assigned w e o k l) (happens_within rows assigned w e o l)

-- ---- the law

active_calm : (s : UserState) → IsUserActive s → is_user_clearing s ≡ false
active_calm (user.DisconnectRequest cause due) h = absurd h
active_calm (user.ReleaseRequest again cause due) h = absurd h
active_calm s h = refl

abbrev HeldInward : World → ℕ → ℕ → Type 0
HeldInward w r c = (exchange_holds w.exchange.entries r c ≡ true) ⊎ (is_marked w.exchange.maintenance c ≡ true)

from_kept : (named : ℕ → ℕ) (w : World) (r : ℕ) → KeptInward named w.far_sent w.exchange r → list_any (clears r) w.far_sent ≡ false → HeldInward w r (named r)
from_kept named w r (Holds h) calm = inl h
from_kept named w r (Maintained h) calm = inr h
from_kept named w r (Cleared h) calm = absurd (true≢false (sym h ∙ calm))

connected : (w : World) (k : KeepsInward w) (c : PlainUserCall) → InwardCall k.named w.far.next w.sent w.far_sent c → IsUserActive c.state → IsConnected w c
connected w k c own active =
    let has : list_any (connects c.reference) w.sent ≡ true = own.active (talks c.state active) in
    let x = found (λ o. o.flag ≡ true → InwardReply k.named w.far.next w.far_sent w.exchange o) (connects c.reference) w.sent k.replies has in
    let p = and_parts (from_other c.reference x.0) (is_connect_kind x.0.kind) x.1 in
    let q = other_parts c.reference x.0 p.0 in
    let kept : KeptInward k.named w.far_sent w.exchange c.reference = subst (KeptInward k.named w.far_sent w.exchange) q.0 ((x.2 q.1).kept p.1) in
    record {
      held = subst (HeldInward w c.reference) (sym own.channel) (from_kept k.named w c.reference kept (own.calm (active_calm c.state active)));
      connected = has;
    }

pub inward_ends_hold : (rows : List Row) (channels : List Bool) (assigned : List (Option ℕ)) (script : List ScriptRow) (events : List WorldEvent) → AreBookings rows → IsChannelSet channels → Carries rows channels (is_accepted assigned) (channel_at assigned) → AreScriptRows script
    → IsTwoEndsInward (world_after events (world_opening rows assigned script))
inward_ends_hold rows channels assigned script events b set h s =
    let w : World = world_after events (world_opening rows assigned script) in
    let k : KeepsInward w = after_inward rows assigned events (world_opening rows assigned script) (opening_keeps rows channels assigned script b set h s) (opening_inward rows assigned script) (opening_within rows assigned script s) in
    all_calls (Own k.named w.far.next w.sent w.far_sent) (λ c. user_flag c.origin ≡ false → IsUserActive c.state → IsConnected w c) (λ c p u active. connected w k c (p u) active) w.far.calls k.calls
