-- What starts later is idle, and what is over was so by now: on every day of a plan.
use Rattle.bx_events.specs.declared.rules.Rules.TheVariants.{Two, Three}
use Rattle.bx_events.specs.declared.rules.Rules.{Rules}
use Rattle.std.proofs.Common.{◌≡◌, ℕ, suc, ◌+◌, ◌≤◌, ◌<◌, ◌==◌, Bool, true, false, List, [], ◌∷◌, map, length, Option, Some, None, arith, refl, ap, ◌∙◌, nat_le, Result, Ok, Err}
use Rattle.std.specs.List.{AllByRecursion, position}
use Rattle.std.proofs.lemmas.Bool.{false≢true}
use Rattle.bx_q931.specs.Outgoing.{Outgoing}
use Rattle.bx_q931.specs.Messages.{PlainMessage, message_at}
use Rattle.bx_q931.specs.declared.fault.MessageFault.{MessageFault}
use Rattle.bx_q931.specs.declared.reference.Reference.{Reference}
use Rattle.bx_q931.specs.declared.reference.Reference.TheVariants.{Dummy, Value}
use Rattle.bx_q931.specs.declared.kind.Kind.{Kind}
use Rattle.bx_q931.specs.declared.kind.Kind.TheVariants.{Setup}
use Rattle.bx_q931.specs.declared.channel_field.ChannelField.{ChannelField}
use Rattle.bx_q931.specs.declared.channel_field.ChannelField.TheVariants.{Named, Unread}
use Rattle.bx_base.specs.Bookings.{Row, row_at, AreBookings, Carries}
use Rattle.bx_base.specs.Plans.{is_accepted, channel_at}
use Rattle.bx_calls.specs.PlainCalls.{PlainNetCall}
use Rattle.bx_calls.specs.Said.{Said, said_under}
use Rattle.bx_calls.specs.Sending.{Sent, Answered}
use Rattle.bx_calls.specs.NetTable.{net_second, net_unlinked, net_message}
use Rattle.bx_calls.specs.declared.transition.Next.{Next}
use Rattle.bx_calls.specs.declared.transition.Next.TheVariants.{Live, Over, Broken}
use Rattle.bx_events.specs.Events.{Tick, Receive, LiveEvent, OnLink, WithoutLink, Amended, HeardByRulesTwo}
use Rattle.bx_day.specs.declared.entry.Activity.{Activity}
use Rattle.bx_day.specs.declared.entry.Activity.TheVariants.{Never, Since, Was}
use Rattle.bx_day.specs.declared.entry.Entry.{Entry}
use Rattle.bx_day.specs.declared.entry.Link.{Link}
use Rattle.bx_day.specs.declared.entry.Link.TheVariants.{Up, Down}
use Rattle.bx_day.specs.declared.entry.Moved.{Moved}
use Rattle.bx_day.specs.declared.entry.Standing.{Standing}
use Rattle.bx_day.specs.declared.entry.Standing.TheVariants.{Refused, Unoffered, OnCall, Carried}
use Rattle.bx_day.specs.Changed.{was_never_live, IsOverBy}
use Rattle.bx_day.specs.Day.{is_back, Day, entry_at, entry_of, entries_from, opening, is_free, every_channel}
use Rattle.bx_day.specs.Invariant.{EntryFits, Phase, Ringing, Talking, Clearing, phase_of, ActivityFits}
use Rattle.bx_day.specs.Moves.{follow, over_at}
use Rattle.bx_day.specs.Ticks.{waits, second_by, after_in}
use Rattle.bx_day.specs.Receipts.{names, opens, lowest_open, hears, takes_call, takes_or, takes_preferred, called_on, called, stray, received_at}
use Rattle.bx_day.specs.Run.{receive_from, receive_read}
use Rattle.bx_day.specs.Outages.{live_happens, live_day_after}
use Rattle.bx_day.proofs.Law.{RunFits, live_fits, all_update, opening_fits, opening_framed, opening_placed}
use Rattle.bx_day.proofs.Receive.{OpenAt, open_parts, open_index, open_lowest, all_at}
use Rattle.bx_day.proofs.Resting.{Rests, second_still}
use Rattle.bx_day.proofs.Tick.{with_standing, by_cases, offers, runs_at}

-- a booking at moment t
pub record Lived (t : ℕ) (e : Entry) : Type 0 where
  pub order : e.booking.start < e.booking.end
  pub ahead : t < e.booking.start → was_never_live e.standing ≡ true
  pub over : IsOverBy e.standing t

idle_rests : (start : ℕ) (s : Standing) → was_never_live s ≡ true → Rests start start s
idle_rests start Refused h = tt
idle_rests start Unoffered h = omega arith
idle_rests start s h = absurd (false≢true h)

-- a call that was Active was so by now
abbrev WasBy : ℕ → Activity → Type 0
WasBy t (Was from until) = until ≤ t
WasBy t _ = Unit {0}

was_by : (t : ℕ) (b : Row) (p : Phase) (a : Activity) → ActivityFits t b p a → WasBy t a
was_by t b Clearing (Was from until) f = f.2
was_by t b Ringing (Was from until) f = absurd f
was_by t b Talking (Was from until) f = absurd f
was_by t b p Never f = tt
was_by t b p (Since from) f = tt

over_by : (t : ℕ) (a : Activity) → WasBy t a → IsOverBy (over_at a t) t
over_by t Never h = tt
over_by t (Since from) h = omega arith
over_by t (Was from until) h = h

follow_by : (t : ℕ) (a : Activity) (said : Option Outgoing) (next : Next PlainNetCall) → WasBy t a → IsOverBy (follow a t said next).standing t
follow_by t a said (Live call) h = tt
follow_by t a said Over h = over_by t a h
follow_by t a said Broken h = over_by t a h

later_by_one : (t : ℕ) (a : Activity) → WasBy t a → WasBy (t + 1) a
later_by_one t (Was from until) h = omega (arith, h)
later_by_one t a h = tt

waits_by : (e : Entry) (t n : ℕ) (back free : Bool) → IsOverBy (waits e t back free).standing n
waits_by e t n back free = by_cases (offers e t free) _ _ (λ (k : Moved). IsOverBy k.standing n) (λ _. tt) (λ _. by_cases (nat_le e.booking.end t) _ _ (λ (k : Moved). IsOverBy k.standing n) (λ _. tt) (λ _. tt))

second_over : (t : ℕ) (link : Link) (e : Entry) (back free : Bool) (s : Standing) → EntryFits t (with_standing e s) → IsOverBy s t → IsOverBy (second_by link e (t + 1) back free s).standing (t + 1)
second_over t Up e back free (OnCall c a) f h = follow_by (t + 1) a (net_second c (t + 1) e.booking.end).reply (net_second c (t + 1) e.booking.end).next (later_by_one t a (was_by t e.booking (phase_of c.state) a f.activity))
second_over t Up e back free Unoffered f h = waits_by e (t + 1) (t + 1) back free
second_over t Up e back free (Carried from until) f h = omega (arith, h)
second_over t Up e back free s f h = tt
second_over t (Down rules) e back free (OnCall c a) f h = follow_by (t + 1) a (net_unlinked rules 1 c (t + 1) e.booking.end).reply (net_unlinked rules 1 c (t + 1) e.booking.end).next (later_by_one t a (was_by t e.booking (phase_of c.state) a f.activity))
second_over t (Down rules) e back free Unoffered f h = waits_by e (t + 1) (t + 1) false false
second_over t (Down rules) e back free (Carried from until) f h = omega (arith, h)
second_over t (Down rules) e back free s f h = tt

second_lived : (link : Link) (d : Day) (e : Entry) → EntryFits d.moment e → Lived d.moment e → Lived (d.moment + 1) (after_in link d e)
second_lived link d e f h = record {
  order = h.order;
  ahead = λ early. (
      let idle = h.ahead (omega (arith, early)) in
      ap (λ (k : Moved). was_never_live k.standing) (second_still e.booking.start link e (d.moment + 1) (is_back d) (is_free d e.channel) e.standing early (idle_rests e.booking.start e.standing idle) h.order) ∙ idle);
  over = second_over d.moment link e (is_back d) (is_free d e.channel) e.standing f h.over;
}

hears_over : (sm : Said) (t : ℕ) (e : Entry) (s : Standing) → EntryFits t (with_standing e s) → IsOverBy s t → IsOverBy (hears sm t s).standing t
hears_over sm t e (OnCall c a) f h = follow_by t a (net_message c sm.heard t).reply (net_message c sm.heard t).next (was_by t e.booking (phase_of c.state) a f.activity)
hears_over sm t e s f h = h

hears_idle : (sm : Said) (t : ℕ) (s : Standing) → was_never_live s ≡ true → was_never_live (hears sm t s).standing ≡ true
hears_idle sm t (OnCall c a) h = absurd (false≢true h)
hears_idle sm t s h = h

-- ---- every booking of a day

abbrev pub AllLived : Day → Type 0
AllLived d = AllByRecursion (Lived d.moment) d.entries

seconds_lived : (link : Link) (d : Day) (es : List Entry) → AllByRecursion (EntryFits d.moment) es → AllByRecursion (Lived d.moment) es → AllByRecursion (Lived (d.moment + 1)) (map (after_in link d) es)
seconds_lived link d [] f h = tt
seconds_lived link d (e ∷ es) f h = (second_lived link d e f.0 h.0, seconds_lived link d es f.1 h.1)

no_entry_fits : (d : Day) (i : ℕ) → AllByRecursion (EntryFits d.moment) d.entries → EntryFits d.moment (entry_at d.entries i)
no_entry_fits d i f = all_at (EntryFits d.moment) tt d.entries i f

heard_lived : (sm : Said) (d : Day) (i : ℕ) → AllByRecursion (EntryFits d.moment) d.entries → AllLived d → AllLived (received_at d sm (Some i)).day
heard_lived sm d i f h =
    let e = entry_at d.entries i in
    all_update (Lived d.moment) d.entries i (with_standing e (hears sm d.moment e.standing).standing) (λ l. record {
      order = l.order;
      ahead = λ early. hears_idle sm d.moment e.standing (l.ahead early);
      over = hears_over sm d.moment e e.standing (no_entry_fits d i f) l.over;
    }) h

takes_lived : (d : Day) (sm : Said) (cause : ℕ) (o : Option ℕ) → OpenAt d o → AllLived d → AllLived (takes_or d sm cause o).day
takes_lived d sm cause None op h = h
takes_lived d sm cause (Some i) op h =
    let e = entry_at d.entries i in
    all_update (Lived d.moment) d.entries i (with_standing e (takes_call sm e).standing) (λ l. record {
      order = l.order;
      ahead = λ early. (let r = runs_at e.booking d.moment (open_parts d e op).runs in absurd (omega (arith, early, r.0)));
      over = tt;
    }) h

preferred_lived : (d : Day) (sm : Said) (o : Option ℕ) → OpenAt d o → AllLived d → AllLived (takes_preferred d sm o).day
preferred_lived d sm None op h = takes_lived d sm 34 (lowest_open d every_channel) (open_lowest d every_channel) h
preferred_lived d sm (Some i) op h = takes_lived d sm 34 (Some i) op h

on_lived : (d : Day) (sm : Said) (f : ChannelField) → AllLived d → AllLived (called_on d sm f).day
on_lived d sm Unread h = h
on_lived d sm (Named c true) h = takes_lived d sm 44 (position (opens d c) d.entries) (open_index d c) h
on_lived d sm (Named c false) h = preferred_lived d sm (position (opens d c) d.entries) (open_index d c) h
on_lived d sm f h = takes_lived d sm 34 (lowest_open d every_channel) (open_lowest d every_channel) h

called_lived : (d : Day) (sm : Said) (refused : Option ℕ) → AllLived d → AllLived (called d sm refused).day
called_lived d sm (Some cause) h = h
called_lived d sm None h = on_lived d sm sm.heard.channel h

stray_lived : (d : Day) (sm : Said) (k : Kind) → AllLived d → AllLived (stray d sm k).day
stray_lived d sm Setup h = by_cases sm.flag _ _ (λ (x : Answered Day). AllLived x.day) (λ _. h) (λ _. called_lived d sm sm.refused h)
stray_lived d sm k h = h

received_lived : (d : Day) (sm : Said) (o : Option ℕ) → AllByRecursion (EntryFits d.moment) d.entries → AllLived d → AllLived (received_at d sm o).day
received_lived d sm None f h = stray_lived d sm sm.heard.kind h
received_lived d sm (Some i) f h = heard_lived sm d i f h

from_lived : (u : Rules) (d : Day) (pm : PlainMessage) (r : Reference) → AllByRecursion (EntryFits d.moment) d.entries → AllLived d → AllLived (receive_from u d pm r).day
from_lived u d pm Dummy f h = h
from_lived u d pm (Value value flag) f h = by_cases (value == 0) _ _ (λ (x : Answered Day). AllLived x.day) (λ _. h) (λ _. received_lived d (said_under u value flag pm) (position (names (said_under u value flag pm)) d.entries) f h)

read_lived : (u : Rules) (d : Day) (r : Result PlainMessage MessageFault) → AllByRecursion (EntryFits d.moment) d.entries → AllLived d → AllLived (receive_read u d r).day
read_lived u d (Err fault) f h = h
read_lived u d (Ok pm) f h = from_lived u d pm pm.reference f h

event_lived : (d : Day) (e : LiveEvent) → AllByRecursion (EntryFits d.moment) d.entries → AllLived d → AllLived (live_happens d e).day
event_lived d (OnLink Tick) f h = by_cases (nat_le 300000 d.moment) _ _ (λ (x : Sent Day). AllLived x.day) (λ _. h) (λ _. seconds_lived Up d d.entries f h)
event_lived d (OnLink (Receive octets)) f h = read_lived Three d (message_at octets) f h
event_lived d (WithoutLink rules) f h = by_cases (nat_le 300000 d.moment) _ _ AllLived (λ _. h) (λ _. seconds_lived (Down rules) d d.entries f h)
event_lived d (Amended kind line) f h = h
event_lived d (HeardByRulesTwo octets) f h = read_lived Two d (message_at octets) f h

run_lived : (rows : List Row) (assigned : List (Option ℕ)) (events : List LiveEvent) (d : Day) → RunFits rows assigned d → AllLived d → AllLived (live_day_after events d)
run_lived rows assigned [] d f h = h
run_lived rows assigned (e ∷ es) d f h = run_lived rows assigned es (live_happens d e).day (live_fits rows assigned d e f) (event_lived d e f.day.each h)

lived_of : (k : ℕ) (b : Row) (a : Option ℕ) → b.start < b.end → Lived 0 (entry_of k b a)
lived_of k b None order = record { order = order; ahead = λ early. refl; over = tt }
lived_of k b (Some c) order = record { order = order; ahead = λ early. refl; over = tt }

opening_lived : (k : ℕ) (rows : List Row) (assigned : List (Option ℕ)) → ((i : ℕ) → i < length rows → (row_at rows i).start < (row_at rows i).end) → AllByRecursion (Lived 0) (entries_from k rows assigned)
opening_lived k [] assigned order = tt
opening_lived k (b ∷ bs) [] order = (lived_of k b None (order 0 (omega arith)), opening_lived (k + 1) bs [] (λ i lt. order (suc i) (omega (arith, lt))))
opening_lived k (b ∷ bs) (a ∷ as') order = (lived_of k b a (order 0 (omega arith)), opening_lived (k + 1) bs as' (λ i lt. order (suc i) (omega (arith, lt))))

pub day_lived : (rows : List Row) (channels : List Bool) (assigned : List (Option ℕ)) (events : List LiveEvent) → AreBookings rows → Carries rows channels (is_accepted assigned) (channel_at assigned) → AllLived (live_day_after events (opening rows assigned))
day_lived rows channels assigned events bookings carries =
    run_lived rows assigned events (opening rows assigned)
    (record { day = opening_fits rows channels assigned bookings carries; framed = (opening_framed 1 rows assigned, opening_placed rows assigned) })
    (opening_lived 1 rows assigned (λ i lt. (bookings.each i lt).in_order))
