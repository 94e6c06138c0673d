-- What stays whatever happens: the moment never goes back, nothing of a booking changes but what has become of it, and a channel in
-- maintenance stays so.
use Rattle.bx_events.specs.declared.rules.Rules.TheVariants.{Two, Three}
use Rattle.bx_events.specs.declared.rules.Rules.{Rules}
use Rattle.std.proofs.Common.{◌≡◌, ℕ, zero, suc, ◌+◌, ◌≤◌, ◌==◌, ◌||◌, Bool, true, false, List, [], ◌∷◌, length, length-set, Option, Some, None, arith, refl, ap, ◌∙◌, nat_le, Result, Ok, Err}
use Rattle.std.proofs.lemmas.List.{length-map}
use Rattle.std.specs.List.{list_any, position}
use Rattle.bx_q931.specs.Messages.{PlainMessage, message_at}
use Rattle.bx_q931.specs.declared.fault.MessageFault.{MessageFault}
use Rattle.bx_q931.specs.declared.reference.Reference.{Reference}
use Rattle.bx_q931.specs.declared.reference.Reference.TheVariants.{Dummy, Value}
use Rattle.bx_q931.specs.declared.kind.Kind.{Kind}
use Rattle.bx_q931.specs.declared.kind.Kind.TheVariants.{Setup}
use Rattle.bx_q931.specs.declared.channel_field.ChannelField.{ChannelField}
use Rattle.bx_q931.specs.declared.channel_field.ChannelField.TheVariants.{Named, Unread}
use Rattle.bx_channels.specs.Marks.{is_marked}
use Rattle.bx_calls.specs.Said.{Said, said_under}
use Rattle.bx_calls.specs.Sending.{Sent, Answered}
use Rattle.bx_events.specs.Events.{Tick, Receive, LiveEvent, OnLink, WithoutLink, Amended, HeardByRulesTwo}
use Rattle.bx_day.specs.declared.entry.Entry.{Entry}
use Rattle.bx_day.specs.declared.entry.Link.{Link}
use Rattle.bx_day.specs.declared.entry.Link.TheVariants.{Up, Down}
use Rattle.bx_day.specs.declared.entry.Moved.{Moved}
use Rattle.bx_day.specs.declared.entry.Standing.TheVariants.{Refused}
use Rattle.bx_day.specs.Day.{Day, entry_at, every_channel}
use Rattle.bx_day.specs.Ticks.{after_in, breaks_in, maintained_in, passed_in}
use Rattle.bx_day.specs.Receipts.{names, opens, lowest_open, hears, with_moved, takes_call, takes_or, takes_preferred, called_on, called, stray, received_at}
use Rattle.bx_day.specs.Run.{receive_from, receive_read}
use Rattle.bx_day.specs.Outages.{live_happens, live_day_after}
use Rattle.bx_day.proofs.Law.{at_map_in, at_set}
use Rattle.bx_day.proofs.Tick.{with_standing, by_cases}
use Rattle.bx_day.proofs.TouchLemmas.{set_kept}

-- a booking without what has become of it
abbrev pub bare : Entry → Entry
bare e = with_standing e Refused

-- what stays of a day in a later one
pub record Stays (d x : Day) : Type 0 where
  pub moment : d.moment ≤ x.moment
  pub size : length x.entries ≡ length d.entries
  pub each : (i : ℕ) → bare (entry_at x.entries i) ≡ bare (entry_at d.entries i)
  pub maintenance : (c : ℕ) → is_marked d.maintenance c ≡ true → is_marked x.maintenance c ≡ true

itself : (d : Day) → Stays d d
itself d = record { moment = omega arith; size = refl; each = λ i. refl; maintenance = λ c marked. marked }

joined : (d x y : Day) → Stays d x → Stays x y → Stays d y
joined d x y h k = record {
  moment = (let p = h.moment in let q = k.moment in omega (arith, p, q));
  size = k.size ∙ h.size;
  each = λ i. k.each i ∙ h.each i;
  maintenance = λ c marked. k.maintenance c (h.maintenance c marked);
}

-- ---- by a second

or_left : (b c : Bool) → b ≡ true → (b || c) ≡ true
or_left b c h = ap (λ x. x || c) h

maintained_stays : (link : Link) (d : Day) (k : ℕ) (marks : List Bool) (c : ℕ) → is_marked marks c ≡ true → is_marked (maintained_in link d k marks) c ≡ true
maintained_stays link d k [] c h = h
maintained_stays link d k (b ∷ bs) zero h = or_left b (list_any (breaks_in link d k) d.entries) h
maintained_stays link d k (b ∷ bs) (suc c) h = maintained_stays link d (k + 1) bs c h

passed_stays : (link : Link) (d : Day) → Stays d (passed_in link d).day
passed_stays link d = record {
  moment = omega arith;
  size = length-map d.entries (after_in link d);
  each = λ i. ap bare (at_map_in link d d.entries i);
  maintenance = maintained_stays link d 0 d.maintenance;
}

-- ---- by a message

moved_stays : (d : Day) (i : ℕ) (m : Moved) → Stays d (with_moved d i m).day
moved_stays d i m = record {
  moment = omega arith;
  size = length-set d.entries i (with_standing (entry_at d.entries i) m.standing);
  each = λ k. at_set (λ e. bare e ≡ bare (entry_at d.entries k)) d.entries i k (with_standing (entry_at d.entries i) m.standing) (λ same. same) refl;
  maintenance = λ c marked. set_kept m.broken d.maintenance (entry_at d.entries i).channel c marked;
}

takes_stays : (d : Day) (sm : Said) (cause : ℕ) (o : Option ℕ) → Stays d (takes_or d sm cause o).day
takes_stays d sm cause None = itself d
takes_stays d sm cause (Some i) = moved_stays d i (takes_call sm (entry_at d.entries i))

preferred_stays : (d : Day) (sm : Said) (o : Option ℕ) → Stays d (takes_preferred d sm o).day
preferred_stays d sm None = takes_stays d sm 34 (lowest_open d every_channel)
preferred_stays d sm (Some i) = takes_stays d sm 34 (Some i)

on_stays : (d : Day) (sm : Said) (f : ChannelField) → Stays d (called_on d sm f).day
on_stays d sm Unread = itself d
on_stays d sm (Named c true) = takes_stays d sm 44 (position (opens d c) d.entries)
on_stays d sm (Named c false) = preferred_stays d sm (position (opens d c) d.entries)
on_stays d sm f = takes_stays d sm 34 (lowest_open d every_channel)

called_stays : (d : Day) (sm : Said) (refused : Option ℕ) → Stays d (called d sm refused).day
called_stays d sm (Some cause) = itself d
called_stays d sm None = on_stays d sm sm.heard.channel

stray_stays : (d : Day) (sm : Said) (k : Kind) → Stays d (stray d sm k).day
stray_stays d sm Setup = by_cases sm.flag _ _ (λ (x : Answered Day). Stays d x.day) (λ _. itself d) (λ _. called_stays d sm sm.refused)
stray_stays d sm k = itself d

received_stays : (d : Day) (sm : Said) (o : Option ℕ) → Stays d (received_at d sm o).day
received_stays d sm None = stray_stays d sm sm.heard.kind
received_stays d sm (Some i) = moved_stays d i (hears sm d.moment (entry_at d.entries i).standing)

from_stays : (u : Rules) (d : Day) (pm : PlainMessage) (r : Reference) → Stays d (receive_from u d pm r).day
from_stays u d pm Dummy = itself d
from_stays u d pm (Value value flag) = by_cases (value == 0) _ _ (λ (x : Answered Day). Stays d x.day) (λ _. itself d) (λ _. received_stays d (said_under u value flag pm) (position (names (said_under u value flag pm)) d.entries))

read_stays : (u : Rules) (d : Day) (r : Result PlainMessage MessageFault) → Stays d (receive_read u d r).day
read_stays u d (Err fault) = itself d
read_stays u d (Ok pm) = from_stays u d pm pm.reference

-- ---- by an event, and by events one after another

pub event_stays : (d : Day) (e : LiveEvent) → Stays d (live_happens d e).day
event_stays d (OnLink Tick) = by_cases (nat_le 300000 d.moment) _ _ (λ (x : Sent Day). Stays d x.day) (λ _. itself d) (λ _. passed_stays Up d)
event_stays d (OnLink (Receive octets)) = read_stays Three d (message_at octets)
event_stays d (WithoutLink rules) = by_cases (nat_le 300000 d.moment) _ _ (Stays d) (λ _. itself d) (λ _. passed_stays (Down rules) d)
event_stays d (Amended kind line) = itself d
event_stays d (HeardByRulesTwo octets) = read_stays Two d (message_at octets)

pub run_stays : (events : List LiveEvent) (d : Day) → Stays d (live_day_after events d)
run_stays [] d = itself d
run_stays (e ∷ es) d = joined d (live_happens d e).day (live_day_after es (live_happens d e).day) (event_stays d e) (run_stays es (live_happens d e).day)

pub event_later : (d : Day) (e : LiveEvent) → d.moment ≤ (live_happens d e).day.moment
event_later d e = (event_stays d e).moment

pub run_later : (events : List LiveEvent) (d : Day) → d.moment ≤ (live_day_after events d).moment
run_later events d = (run_stays events d).moment

pub run_size : (events : List LiveEvent) (d : Day) → length (live_day_after events d).entries ≡ length d.entries
run_size events d = (run_stays events d).size

pub references_stay : (events : List LiveEvent) (d : Day) (i : ℕ) → (entry_at (live_day_after events d).entries i).reference ≡ (entry_at d.entries i).reference
references_stay events d i = ap (λ (e : Entry). e.reference) ((run_stays events d).each i)

pub maintenance_stays : (events : List LiveEvent) (d : Day) (c : ℕ) → is_marked d.maintenance c ≡ true → is_marked (live_day_after events d).maintenance c ≡ true
maintenance_stays events d c marked = (run_stays events d).maintenance c marked
