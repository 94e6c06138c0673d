-- A second of a day in which the far end answers: what it leaves of one outward booking, and of its channel.
use Rattle.bx_events.specs.declared.rules.Rules.{Rules}
use Rattle.bx_events.specs.declared.rules.Rules.TheVariants.{Three}
use Rattle.std.proofs.Common.{◌≡◌, ℕ, zero, suc, ◌≤◌, ◌<◌, ◌==◌, ◌&&◌, ◌||◌, not, Bool, true, false, List, [], ◌∷◌, length, Option, Some, None, arith, refl, sym, subst, ap, ◌∙◌, slice_set, slice_index_or, nat_le, nat_lt, inl, inr, if◌then◌else◌}
use Rattle.std.specs.List.{position}
use Rattle.std.proofs.lemmas.Bool.{false≢true, true≢false, and_parts, and_from, le-leb, lt-ltb, or_cases}
use Rattle.bx_q931.specs.declared.kind.Kind.{Kind}
use Rattle.bx_q931.specs.declared.kind.Kind.TheVariants.{Setup}
use Rattle.bx_q931.specs.declared.channel_field.ChannelField.{ChannelField}
use Rattle.bx_q931.specs.declared.channel_field.ChannelField.TheVariants.{Absent, Named, AnyChannel, Unread}
use Rattle.bx_q931.specs.declared.fault.MessageFault.{MessageFault}
use Rattle.bx_q931.specs.declared.reference.Reference.{Reference}
use Rattle.bx_q931.specs.declared.reference.Reference.TheVariants.{Dummy, Value}
use Rattle.bx_q931.specs.Messages.{PlainMessage, message_at}
use Rattle.std.specs.Prelude.{Result, Ok, Err, is_some}
use Rattle.bx_channels.specs.Marks.{is_marked}
use Rattle.bx_calls.specs.PlainCalls.{PlainNetCall}
use Rattle.bx_calls.specs.NetTable.{net_is_clearing}
use Rattle.bx_calls.specs.Said.{Said, said_under}
use Rattle.bx_calls.specs.Sending.{Answered}
use Rattle.bx_base.specs.Bookings.{Row, is_running}
use Rattle.bx_base.specs.Plans.{is_accepted}
use Rattle.bx_events.specs.Events.{Receive}
use Rattle.bx_day.specs.Day.{Day, entry_at, is_live, holds, is_held, is_free, is_unoffered, every_channel}
use Rattle.bx_two_ends.specs.Earning.{heard_in, is_settled}
use Rattle.bx_day.specs.Invariant.{StandingFits, EntryFits, DayFits, is_refused}
use Rattle.bx_day.specs.Law.{OnLive, standing_at}
use Rattle.bx_day.specs.Receipts.{is_open, opens, lowest_open, names, hears, takes_call, takes_or, takes_preferred, called_on, called, stray, received_at, with_moved}
use Rattle.bx_day.specs.Run.{receive_from, receive_read, receive_octets, receive_octets_by}
use Rattle.bx_day.specs.declared.entry.Activity.{Activity}
use Rattle.bx_day.specs.declared.entry.Entry.{Entry}
use Rattle.bx_day.specs.declared.entry.Moved.{Moved}
use Rattle.bx_day.specs.declared.entry.Standing.{Standing}
use Rattle.bx_day.specs.declared.entry.Standing.TheVariants.{Refused, Unoffered, OnCall}
use Rattle.bx_two_ends.proofs.Carrying.{IsUp, IsOver, IsKept, kept_hears, over_hears, settled_up, going_up, going_runs}
use Rattle.bx_day.proofs.Law.{RunFits, happens_fits}
use Rattle.bx_day.proofs.Receive.{all_at, OpenAt, open_parts, open_index, open_lowest}
use Rattle.bx_day.proofs.Received.{hears_whole}
use Rattle.bx_day.proofs.Tick.{by_cases, with_standing}

-- ---- what one message leaves, of a day

takes_day : (Q : Day → Type 0) (d : Day) (m : Said) (cause : ℕ) (o : Option ℕ) → OpenAt d o → Q d → ((i : ℕ) → is_open d (entry_at d.entries i) ≡ true → Q (with_moved d i (takes_call m (entry_at d.entries i))).day) → Q (takes_or d m cause o).day
takes_day Q d m cause None op q g = q
takes_day Q d m cause (Some i) op q g = g i op

preferred_day : (Q : Day → Type 0) (d : Day) (m : Said) (o : Option ℕ) → OpenAt d o → Q d → ((i : ℕ) → is_open d (entry_at d.entries i) ≡ true → Q (with_moved d i (takes_call m (entry_at d.entries i))).day) → Q (takes_preferred d m o).day
preferred_day Q d m None op q g = takes_day Q d m 34 (lowest_open d every_channel) (open_lowest d every_channel) q g
preferred_day Q d m (Some i) op q g = takes_day Q d m 34 (Some i) op q g

on_day : (Q : Day → Type 0) (d : Day) (m : Said) (f : ChannelField) → Q d → ((i : ℕ) → is_open d (entry_at d.entries i) ≡ true → Q (with_moved d i (takes_call m (entry_at d.entries i))).day) → Q (called_on d m f).day
on_day Q d m Absent q g = takes_day Q d m 34 (lowest_open d every_channel) (open_lowest d every_channel) q g
on_day Q d m AnyChannel q g = takes_day Q d m 34 (lowest_open d every_channel) (open_lowest d every_channel) q g
on_day Q d m Unread q g = q
on_day Q d m (Named c true) q g = takes_day Q d m 44 (position (opens d c) d.entries) (open_index d c) q g
on_day Q d m (Named c false) q g = preferred_day Q d m (position (opens d c) d.entries) (open_index d c) q g

pub called_day : (Q : Day → Type 0) (d : Day) (m : Said) (b : Option ℕ) → Q d → ((i : ℕ) → is_open d (entry_at d.entries i) ≡ true → Q (with_moved d i (takes_call m (entry_at d.entries i))).day) → Q (called d m b).day
called_day Q d m (Some cause) q g = q
called_day Q d m None q g = on_day Q d m m.heard.channel q g

pub stray_day : (Q : Day → Type 0) (d : Day) (m : Said) (k : Kind) → Q d → ((i : ℕ) → is_open d (entry_at d.entries i) ≡ true → Q (with_moved d i (takes_call m (entry_at d.entries i))).day) → Q (stray d m k).day
stray_day Q d m Setup q g = by_cases m.flag _ _ (λ (x : Answered Day). Q x.day) (λ _. q) (λ _. called_day Q d m m.refused q g)
stray_day Q d m k q g = q

received_day : (Q : Day → Type 0) (d : Day) (m : Said) (o : Option ℕ) → Q d → ((i : ℕ) → Q (with_moved d i (hears m d.moment (entry_at d.entries i).standing)).day) → ((i : ℕ) → is_open d (entry_at d.entries i) ≡ true → Q (with_moved d i (takes_call m (entry_at d.entries i))).day) → Q (received_at d m o).day
received_day Q d m None q f g = stray_day Q d m m.heard.kind q g
received_day Q d m (Some i) q f g = f i

from_day : (u : Rules) (Q : Day → Type 0) (d : Day) (m : PlainMessage) (r : Reference) → Q d → ((s : Said) (i : ℕ) → Q (with_moved d i (hears s d.moment (entry_at d.entries i).standing)).day) → ((s : Said) (i : ℕ) → is_open d (entry_at d.entries i) ≡ true → Q (with_moved d i (takes_call s (entry_at d.entries i))).day) → Q (receive_from u d m r).day
from_day u Q d m Dummy q f g = q
from_day u Q d m (Value value flag) q f g = by_cases (value == 0) _ _ (λ (x : Answered Day). Q x.day) (λ _. q) (λ _. let s = said_under u value flag m in received_day Q d s (position (names s) d.entries) q (f s) (g s))

read_day : (u : Rules) (Q : Day → Type 0) (d : Day) (r : Result PlainMessage MessageFault) → Q d → ((s : Said) (i : ℕ) → Q (with_moved d i (hears s d.moment (entry_at d.entries i).standing)).day) → ((s : Said) (i : ℕ) → is_open d (entry_at d.entries i) ≡ true → Q (with_moved d i (takes_call s (entry_at d.entries i))).day) → Q (receive_read u d r).day
read_day u Q d (Err fault) q f g = q
read_day u Q d (Ok m) q f g = from_day u Q d m m.reference q f g

-- where a message was heard by a call, and where it began one
pub octets_day_by : (u : Rules) (Q : Day → Type 0) (d : Day) (octets : List ℕ) → Q d → ((s : Said) (i : ℕ) → Q (with_moved d i (hears s d.moment (entry_at d.entries i).standing)).day) → ((s : Said) (i : ℕ) → is_open d (entry_at d.entries i) ≡ true → Q (with_moved d i (takes_call s (entry_at d.entries i))).day) → Q (receive_octets_by u d octets).day
octets_day_by u Q d octets q f g = read_day u Q d (message_at octets) q f g

pub octets_day : (Q : Day → Type 0) (d : Day) (octets : List ℕ) → Q d → ((s : Said) (i : ℕ) → Q (with_moved d i (hears s d.moment (entry_at d.entries i).standing)).day) → ((s : Said) (i : ℕ) → is_open d (entry_at d.entries i) ≡ true → Q (with_moved d i (takes_call s (entry_at d.entries i))).day) → Q (receive_octets d octets).day
octets_day Q d octets q f g = octets_day_by Three Q d octets q f g

pub at_set : (P : Entry → Type 0) (es : List Entry) (i k : ℕ) (y : Entry) → (P (entry_at es i) → P y) → P (entry_at es k) → P (entry_at (slice_set es i y) k)
at_set P (e ∷ es) zero zero y f p = f p
at_set P (e ∷ es) (suc i) (suc k) y f p = at_set P es i k y f p
at_set P es i k y f p = p

-- ---- a turn: the day after some messages

-- no channel is in maintenance
abbrev pub IsClean : Day → Type 0
IsClean d = (c : ℕ) → is_marked d.maintenance c ≡ false

-- after what was heard in the second to moment t
pub record IsTurn (rows : List Row) (assigned : List (Option ℕ)) (t : ℕ) (d : Day) : Type 0 where
  pub fits : RunFits rows assigned d
  pub size : length d.entries ≡ length rows
  pub moment : d.moment ≡ t
  pub clean : IsClean d

pub set_size : (es : List Entry) (i : ℕ) (y : Entry) → length (slice_set es i y) ≡ length es
set_size [] i y = refl
set_size (e ∷ es) zero y = refl
set_size (e ∷ es) (suc i) y = ap suc (set_size es i y)

whole_moved : (d : Day) (i : ℕ) (m : Moved) → m.broken ≡ false → IsClean d → IsClean (with_moved d i m).day
whole_moved d i m whole clean c = ap (λ b. is_marked (if b then slice_set d.maintenance (entry_at d.entries i).channel true else d.maintenance) c) whole ∙ clean c

pub octets_turn : (rows : List Row) (assigned : List (Option ℕ)) (t : ℕ) (d : Day) (octets : List ℕ) → IsTurn rows assigned t d → IsTurn rows assigned t (receive_octets d octets).day
octets_turn rows assigned t d octets h = record {
  fits = happens_fits rows assigned d (Receive octets) h.fits;
  size = octets_day (λ x. length x.entries ≡ length rows) d octets h.size (λ s i. set_size d.entries i _ ∙ h.size) (λ s i op. set_size d.entries i _ ∙ h.size);
  moment = octets_day (λ x. x.moment ≡ t) d octets h.moment (λ s i. h.moment) (λ s i op. h.moment);
  clean = octets_day IsClean d octets h.clean (λ s i. whole_moved d i (hears s d.moment (entry_at d.entries i).standing) (hears_whole s d.moment (entry_at d.entries i).standing) h.clean) (λ s i op. whole_moved d i (takes_call s (entry_at d.entries i)) refl h.clean);
}

pub heard_turn : (rows : List Row) (assigned : List (Option ℕ)) (t : ℕ) (received : List (List ℕ)) (d : Day) → IsTurn rows assigned t d → IsTurn rows assigned t (heard_in received d)
heard_turn rows assigned t [] d h = h
heard_turn rows assigned t (octets ∷ rest) d h = heard_turn rows assigned t rest (receive_octets d octets).day (octets_turn rows assigned t d octets h)

-- what each message keeps of a booking
pub heard_entry : (P : Entry → Type 0) (t i : ℕ) → ((s : Said) (e : Entry) → P e → P (with_standing e (hears s t e.standing).standing)) → ((s : Said) (d : Day) (e : Entry) → is_open d e ≡ true → P e → P (with_standing e (takes_call s e).standing)) → (received : List (List ℕ)) (d : Day) → d.moment ≡ t → P (entry_at d.entries i) → P (entry_at (heard_in received d).entries i)
heard_entry P t i f g [] d at p = p
heard_entry P t i f g (octets ∷ rest) d at p =
    let q : ((receive_octets d octets).day.moment ≡ t) × P (entry_at (receive_octets d octets).day.entries i) =
    octets_day (λ x. (x.moment ≡ t) × P (entry_at x.entries i)) d octets (at, p)
    (λ s k. (at, at_set P d.entries k i (with_standing (entry_at d.entries k) (hears s d.moment (entry_at d.entries k).standing).standing) (λ pk. subst (λ n. P (with_standing (entry_at d.entries k) (hears s n (entry_at d.entries k).standing).standing)) (sym at) (f s (entry_at d.entries k) pk)) p))
    (λ s k op. (at, at_set P d.entries k i (with_standing (entry_at d.entries k) (takes_call s (entry_at d.entries k)).standing) (g s d (entry_at d.entries k) op) p))
    in heard_entry P t i f g rest (receive_octets d octets).day q.0 q.1

pub is_open_unoffered : (d : Day) (e : Entry) → is_open d e ≡ true → is_unoffered e.standing ≡ true
is_open_unoffered d e op =
    let p = and_parts (is_unoffered e.standing && e.booking.inward && is_running e.booking d.moment) (is_free d e.channel) op in
    let q = and_parts (is_unoffered e.standing && e.booking.inward) (is_running e.booking d.moment) p.0 in
    (and_parts (is_unoffered e.standing) e.booking.inward q.0).0

kept_offered : (u : ℕ) (s : Standing) → is_unoffered s ≡ true → IsKept u s → ⊥
kept_offered u Unoffered h k = k
kept_offered u s h k = false≢true h

over_offered : (u end : ℕ) (s : Standing) → is_unoffered s ≡ true → IsOver u end s → ⊥
over_offered u end Unoffered h k = k
over_offered u end s h k = false≢true h

pub heard_kept : (u t i : ℕ) (received : List (List ℕ)) (d : Day) → d.moment ≡ t → IsKept u (standing_at d i) → IsKept u (standing_at (heard_in received d) i)
heard_kept u t i received d at h = heard_entry (λ e. IsKept u e.standing) t i (λ s e k. kept_hears u t s e.standing k) (λ s x e op k. absurd (kept_offered u e.standing (is_open_unoffered x e op) k)) received d at h

pub heard_over : (u end t i : ℕ) (received : List (List ℕ)) (d : Day) → d.moment ≡ t → IsOver u end (standing_at d i) → IsOver u end (standing_at (heard_in received d) i)
heard_over u end t i received d at h = heard_entry (λ e. IsOver u end e.standing) t i (λ s e k. over_hears u t end s e.standing k) (λ s x e op k. absurd (over_offered u end e.standing (is_open_unoffered x e op) k)) received d at h

-- an outward booking that waits is not called
abbrev pub WaitsOut : Entry → Type 0
WaitsOut e = (e.booking.inward ≡ false) × (e.standing ≡ Unoffered)

pub heard_waits : (t i : ℕ) (received : List (List ℕ)) (d : Day) → d.moment ≡ t → WaitsOut (entry_at d.entries i) → WaitsOut (entry_at (heard_in received d).entries i)
heard_waits t i received d at h = heard_entry WaitsOut t i (λ s e k. (k.0, ap (λ x. (hears s t x).standing) k.1)) (λ s x e op k. absurd (true≢false (sym (open_parts x e op).inward ∙ k.0))) received d at h

-- ---- who is live after a turn

pub on_live_at : (s : Standing) (P : PlainNetCall → Activity → Type 0) → OnLive s P → (c : PlainNetCall) (a : Activity) → s ≡ OnCall c a → P c a
on_live_at s P h c a is = subst (λ x. OnLive x P) is h

-- an outward call that is settled, one that was Active, and one that goes on
pub up_of : (t u : ℕ) (e : Entry) (s : Standing) → StandingFits t e s → is_live s ≡ true → OnLive s (λ c a. is_settled c ≡ true) → e.booking.inward ≡ false → t ≤ u → IsUp u s
up_of t u e (OnCall c a) fits live ok out le = settled_up u t e c a fits ok out le
up_of t u e s fits live ok out le = absurd (false≢true live)

pub keeps_of : (t u : ℕ) (e : Entry) (s : Standing) → StandingFits t e s → is_live s ≡ true → OnLive s (λ c a. net_is_clearing c.state ≡ false) → IsKept u s → IsUp u s
keeps_of t u e (OnCall c a) fits live ok kept = going_up u t e c a fits ok kept
keeps_of t u e s fits live ok kept = absurd (false≢true live)

pub runs_of : (t : ℕ) (e : Entry) (s : Standing) → StandingFits t e s → is_live s ≡ true → OnLive s (λ c a. net_is_clearing c.state ≡ false) → is_running e.booking t ≡ true
runs_of t e (OnCall c a) fits live ok = let p = going_runs t e c a fits ok in and_from (nat_le e.booking.start t) (nat_lt t e.booking.end) (le-leb e.booking.start t p.0) (lt-ltb t e.booking.end p.1)
runs_of t e s fits live ok = absurd (false≢true live)

live_refused : (s : Standing) → is_live s ≡ true → is_refused s ≡ false
live_refused Refused h = absurd (false≢true h)
live_refused s h = refl

pub some_of : (a : Option ℕ) → false ≡ not (is_some a) → is_some a ≡ true
some_of None h = absurd (false≢true h)
some_of (Some c) h = refl

-- only what is accepted is live
pub live_accepted : (rows : List Row) (assigned : List (Option ℕ)) (d : Day) (j : ℕ) → RunFits rows assigned d → j < length rows → is_live (standing_at d j) ≡ true → is_accepted assigned j ≡ true
live_accepted rows assigned d j h lt live = some_of (slice_index_or assigned j None) (sym (live_refused (standing_at d j) live) ∙ (h.framed.0 j lt).accepted)

pub fits_at : (d : Day) (i : ℕ) → DayFits d → StandingFits d.moment (entry_at d.entries i) (standing_at d i)
fits_at d i h = all_at (EntryFits d.moment) tt d.entries i h.each

-- who holds a channel
pub held_by : (es : List Entry) (c : ℕ) → is_held es c ≡ true → (j : ℕ) × (j < length es) × (holds c (entry_at es j) ≡ true)
held_by [] c h = absurd (false≢true h)
held_by (e ∷ es) c h = elim (or_cases (holds c e) (is_held es c) h) [
  | inl here ↦ (0, omega arith, here)
  | inr more ↦ (let p = held_by es c more in (suc p.0, omega (arith, p.1), p.2))
]

pub held_at : (es : List Entry) (c j : ℕ) → holds c (entry_at es j) ≡ true → is_held es c ≡ true
held_at [] c j h = absurd (false≢true h)
held_at (e ∷ es) c zero h = ap (λ b. b || is_held es c) h
held_at (e ∷ es) c (suc j) h = more (holds c e) (is_held es c) (held_at es c j h)
  where
    more : (x y : Bool) → y ≡ true → (x || y) ≡ true
    more true y p = refl
    more false y p = p
