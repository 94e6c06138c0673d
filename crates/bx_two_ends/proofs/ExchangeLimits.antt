-- What the exchange sends is within the limits of a message, at each event.
use Rattle.std.proofs.Common.{◌≡◌, ℕ, ◌+◌, not, Bool, true, false, List, Option, Some, None, refl, sym, subst, arith, nat_le}
use Rattle.std.specs.List.{AllByRecursion, position}
use Rattle.bx_channels.specs.ChannelNumbers.{IsChannel}
use Rattle.bx_q931.specs.declared.kind.Kind.{Kind}
use Rattle.bx_q931.specs.declared.kind.Kind.TheVariants.{Setup, CallProceeding}
use Rattle.bx_q931.specs.declared.channel_field.ChannelField.{ChannelField}
use Rattle.bx_q931.specs.declared.channel_field.ChannelField.TheVariants.{Absent, Named, AnyChannel, Unread}
use Rattle.bx_q931.specs.Outgoing.{Outgoing, IsCallReference}
use Rattle.bx_calls.specs.PlainCalls.{PlainNetCall}
use Rattle.bx_calls.specs.NetTable.{net_second, net_message}
use Rattle.bx_calls.specs.declared.net_state.NetState.{NetState}
use Rattle.bx_calls.specs.declared.transition.Transition.{Transition}
use Rattle.bx_calls.specs.declared.transition.Next.{Next}
use Rattle.bx_calls.specs.declared.transition.Next.TheVariants.{Live, Over, Broken}
use Rattle.bx_calls.specs.declared.unknown_reference.Side.TheVariants.{Network}
use Rattle.bx_day.specs.declared.entry.Activity.{Activity}
use Rattle.bx_day.specs.declared.entry.Activity.TheVariants.{Never}
use Rattle.bx_day.specs.declared.entry.Entry.{Entry}
use Rattle.bx_day.specs.declared.entry.Moved.{Moved}
use Rattle.bx_day.specs.declared.entry.Standing.{Standing}
use Rattle.bx_day.specs.declared.entry.Standing.TheVariants.{Refused, Unoffered, OnCall}
use Rattle.bx_day.specs.Day.{is_back, Day, entry_at, is_free, every_channel}
use Rattle.bx_day.specs.Ticks.{second_at, waits, tick, second_in}
use Rattle.bx_day.specs.Receipts.{names, hears, takes_call, takes_or, takes_preferred, called_on, called, stray, received_at, receive, with_moved, opens, lowest_open}
use Rattle.bx_day.specs.Moves.{follow, over_at}
use Rattle.bx_calls.specs.Sending.{Sent, Answered}
use Rattle.bx_day.specs.Invariant.{is_refused}
use Rattle.bx_day.specs.Law.{standing_at}
use Rattle.bx_day.proofs.Receive.{OpenAt, open_parts, open_index, open_lowest}
use Rattle.bx_day.proofs.Said.{OfSaid, all_said}
use Rattle.bx_day.proofs.Tick.{by_cases, offers, with_standing}
use Rattle.bx_two_ends.proofs.Delivery.{Sendable, said_from}
use Rattle.bx_two_ends.proofs.NetworkRows.{shows_connected, Goes, OnNext, second_goes, heard_goes}
use Rattle.bx_two_ends.proofs.Outward.{Seat, Seats}
use Rattle.bx_two_ends.proofs.ExchangeTicks.{after_at, all_from, follow_said}
use Rattle.bx_two_ends.proofs.ExchangeHears.{set_at}
use Rattle.bx_two_ends.proofs.MessageLimits.{NumberOf, heard_ok, second_ok, unknown_ok, refusal_ok, channel_ok, setup_ok}
use Rattle.bx_day.specs.declared.entry.Link.TheVariants.{Up}

pub record CallWithin (c : PlainNetCall) : Type 0 where
  pub reference : IsCallReference c.reference
  pub channel : IsChannel c.channel
  pub number : NumberOf c.origin

abbrev pub StandingWithin : Standing → Type 0
StandingWithin (OnCall call activity) = CallWithin call
StandingWithin _ = Unit {0}

over_within : (a : Activity) (t : ℕ) → StandingWithin (over_at a t)
over_within Never t = tt
over_within a t = tt

pub follow_within : (c : PlainNetCall) (s : NetState) (k : Bool) (a : Activity) (t : ℕ) (reply said : Option Outgoing) (n : Next PlainNetCall) → OnNext (Goes c.reference c.channel c.origin s k reply) n → CallWithin c → StandingWithin (follow a t said n).standing
follow_within c s k a t reply said (Live c') g h = record { reference = subst IsCallReference (sym g.reference) h.reference; channel = subst IsChannel (sym g.channel) h.channel; number = subst NumberOf (sym g.origin) h.number }
follow_within c s k a t reply said Over g h = over_within a t
follow_within c s k a t reply said Broken g h = over_within a t

pub record MovedOk (m : Moved) : Type 0 where
  pub said : OfSaid Sendable m.said
  pub standing : StandingWithin m.standing

own_reference : (assigned : List (Option ℕ)) (i : ℕ) (e : Entry) → Seat assigned i e → IsCallReference e.reference
own_reference assigned i e s = (omega (arith, s.reference), omega (arith, s.reference, s.few))

waits_within : (assigned : List (Option ℕ)) (i t : ℕ) (e : Entry) (back free : Bool) → Seat assigned i e → MovedOk (waits e t back free)
waits_within assigned i t e back free s = by_cases (offers e t free) _ _ MovedOk
    (λ _. record { said = setup_ok e.reference e.channel e.booking.number (own_reference assigned i e s) s.in_service s.number; standing = record { reference = own_reference assigned i e s; channel = s.in_service; number = s.number } })
    (λ _. by_cases (nat_le e.booking.end t) _ _ MovedOk (λ _. record { said = tt; standing = tt }) (λ _. record { said = tt; standing = tt }))

pub second_within : (assigned : List (Option ℕ)) (i t : ℕ) (e : Entry) (back free : Bool) (s : Standing) → (is_refused s ≡ false → Seat assigned i e) → StandingWithin s → MovedOk (second_at e t back free s)
second_within assigned i t e back free Unoffered seat h = waits_within assigned i t e back free (seat refl)
second_within assigned i t e back free (OnCall c a) seat h =
    let step : Transition PlainNetCall = net_second c t e.booking.end in
    record {
      said = follow_said Sendable a t step.reply step.next (second_ok c.reference c.channel c.origin t e.booking.end c.state h.reference h.channel h.number);
      standing = follow_within c c.state false a t step.reply step.reply step.next (second_goes c.reference c.channel c.origin t e.booking.end c.state) h;
    }
second_within assigned i t e back free s seat h = record { said = tt; standing = tt }

abbrev pub ExchangeWithin : Day → Type 0
ExchangeWithin d = (i : ℕ) → StandingWithin (standing_at d i)

at_second : (assigned : List (Option ℕ)) (d : Day) (i : ℕ) → Seats assigned d.entries → ExchangeWithin d → MovedOk (second_in Up d (entry_at d.entries i))
at_second assigned d i seats h = second_within assigned i (d.moment + 1) (entry_at d.entries i) (is_back d) (is_free d (entry_at d.entries i).channel) (entry_at d.entries i).standing (seats i) (h i)

pub tick_sendable : (assigned : List (Option ℕ)) (d : Day) → Seats assigned d.entries → ExchangeWithin d → AllByRecursion Sendable (tick d).sent
tick_sendable assigned d seats h = all_said Sendable d (all_from (λ e. OfSaid Sendable (second_in Up d e).said) d.entries (λ i. (at_second assigned d i seats h).said))

pub tick_within : (assigned : List (Option ℕ)) (d : Day) → Seats assigned d.entries → ExchangeWithin d → ExchangeWithin (tick d).day
tick_within assigned d seats h = by_cases (nat_le 300000 d.moment) _ _ (λ (s : Sent Day). ExchangeWithin s.day) (λ _. h) (λ _ i. subst StandingWithin (sym (after_at d i)) (at_second assigned d i seats h).standing)

-- ---- messages

pub record AnswerOk (x : Answered Day) : Type 0 where
  pub reply : OfSaid Sendable x.reply
  pub lims : ExchangeWithin x.day

moved_ok : (d : Day) (i : ℕ) (m : Moved) → ExchangeWithin d → MovedOk m → AnswerOk (with_moved d i m)
moved_ok d i m h k = record { reply = k.said; lims = λ n. set_at (λ e. StandingWithin e.standing) d.entries i n (with_standing (entry_at d.entries i) m.standing) (λ _. k.standing) (h n) }

hears_ok : (o : Outgoing) (t : ℕ) (s : Standing) → StandingWithin s → MovedOk (hears (said_from o) t s)
hears_ok o t (OnCall c a) h =
    let step : Transition PlainNetCall = net_message c (said_from o).heard t in
    record {
      said = follow_said Sendable a t step.reply step.next (heard_ok c.reference c.channel c.origin t (said_from o).heard c.state o.kind h.reference h.channel);
      standing = follow_within c c.state (shows_connected o.kind o.state) a t step.reply step.reply step.next (heard_goes c.reference c.channel c.origin t (said_from o).heard c.state o.kind) h;
    }
hears_ok o t Refused h = record { said = tt; standing = tt }
hears_ok o t s h = record { said = tt; standing = tt }

takes_ok : (assigned : List (Option ℕ)) (d : Day) (o : Outgoing) (cause : ℕ) (x : Option ℕ) → Seats assigned d.entries → ExchangeWithin d → IsCallReference o.reference → OpenAt d x → AnswerOk (takes_or d (said_from o) cause x)
takes_ok assigned d o cause None seats h r opened = record { reply = refusal_ok Network o.reference cause r; lims = h }
takes_ok assigned d o cause (Some i) seats h r opened =
    let s : Seat assigned i (entry_at d.entries i) = seats i (open_parts d (entry_at d.entries i) opened).accepted in
    moved_ok d i (takes_call (said_from o) (entry_at d.entries i)) h (record { said = channel_ok o.reference (entry_at d.entries i).channel true CallProceeding r tt s.in_service; standing = record { reference = r; channel = s.in_service; number = tt } })

on_ok : (assigned : List (Option ℕ)) (d : Day) (o : Outgoing) (f : ChannelField) → Seats assigned d.entries → ExchangeWithin d → IsCallReference o.reference → AnswerOk (called_on d (said_from o) f)
on_ok assigned d o Absent seats h r = takes_ok assigned d o 34 (lowest_open d every_channel) seats h r (open_lowest d every_channel)
on_ok assigned d o AnyChannel seats h r = takes_ok assigned d o 34 (lowest_open d every_channel) seats h r (open_lowest d every_channel)
on_ok assigned d o Unread seats h r = record { reply = refusal_ok Network o.reference 44 r; lims = h }
on_ok assigned d o (Named c true) seats h r = takes_ok assigned d o 44 (position (opens d c) d.entries) seats h r (open_index d c)
on_ok assigned d o (Named c false) seats h r = preferred (position (opens d c) d.entries) (open_index d c)
  where
    preferred : (x : Option ℕ) → OpenAt d x → AnswerOk (takes_preferred d (said_from o) x)
    preferred None opened = takes_ok assigned d o 34 (lowest_open d every_channel) seats h r (open_lowest d every_channel)
    preferred (Some i) opened = takes_ok assigned d o 34 (Some i) seats h r opened

called_ok : (assigned : List (Option ℕ)) (d : Day) (o : Outgoing) (cause : Option ℕ) → Seats assigned d.entries → ExchangeWithin d → IsCallReference o.reference → AnswerOk (called d (said_from o) cause)
called_ok assigned d o (Some cause) seats h r = record { reply = refusal_ok Network o.reference cause r; lims = h }
called_ok assigned d o None seats h r = on_ok assigned d o (said_from o).heard.channel seats h r

stray_ok : (assigned : List (Option ℕ)) (d : Day) (o : Outgoing) (k : Kind) → Seats assigned d.entries → ExchangeWithin d → IsCallReference o.reference → AnswerOk (stray d (said_from o) k)
stray_ok assigned d o Setup seats h r = by_cases o.flag _ _ AnswerOk (λ _. record { reply = tt; lims = h }) (λ _. called_ok assigned d o (said_from o).refused seats h r)
stray_ok assigned d o k seats h r = record { reply = unknown_ok Network o.reference (not o.flag) (said_from o).heard k r; lims = h }

received_ok : (assigned : List (Option ℕ)) (d : Day) (o : Outgoing) (x : Option ℕ) → Seats assigned d.entries → ExchangeWithin d → IsCallReference o.reference → AnswerOk (received_at d (said_from o) x)
received_ok assigned d o None seats h r = stray_ok assigned d o o.kind seats h r
received_ok assigned d o (Some i) seats h r = moved_ok d i (hears (said_from o) d.moment (standing_at d i)) h (hears_ok o d.moment (standing_at d i) (h i))

pub receive_ok : (assigned : List (Option ℕ)) (d : Day) (o : Outgoing) → Seats assigned d.entries → ExchangeWithin d → Sendable o → AnswerOk (receive d (said_from o))
receive_ok assigned d o seats h s = received_ok assigned d o (position (names (said_from o)) d.entries) seats h s.out.reference
