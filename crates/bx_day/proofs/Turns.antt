-- On a channel a second does something to three bookings at most: the live one, the first that waits, which may end, and
-- the one after that, which may start then.
use Rattle.std.proofs.Common.{◌≡◌, ◌≢◌, ℕ, ◌+◌, ◌≤◌, ◌<◌, Bool, true, false, List, map, length, Option, Some, None, arith, refl, sym, subst, ap, ◌∙◌, inl, inr, if◌then◌else◌}
use Rattle.std.proofs.lemmas.Bool.{true≢false, false≢true, cases_lt}
use Rattle.bx_q931.specs.Outgoing.{Outgoing}
use Rattle.bx_calls.specs.PlainCalls.{PlainNetCall}
use Rattle.bx_calls.specs.declared.transition.Next.{Next}
use Rattle.bx_calls.specs.declared.transition.Next.TheVariants.{Live}
use Rattle.bx_calls.specs.NetTable.{net_second, net_unlinked}
use Rattle.bx_day.specs.Day.{is_back, Day, is_live, is_unoffered, is_free, entry_at}
use Rattle.bx_day.specs.Ticks.{second_at, second_by, second_in, after_in, waits}
use Rattle.bx_day.specs.Moves.{stays, follow, over_at}
use Rattle.bx_day.specs.Invariant.{EntryFits, is_refused}
use Rattle.bx_day.specs.Quiet.{booking_due}
use Rattle.bx_day.specs.Reading.{IsExchange}
use Rattle.bx_day.specs.Slots.{waits_on, IsLiveOn, IsWaitingOn, IsLater, IsFollowing}
use Rattle.bx_day.specs.declared.entry.Activity.{Activity}
use Rattle.bx_day.specs.declared.entry.Activity.TheVariants.{Was}
use Rattle.bx_day.specs.declared.entry.Entry.{Entry}
use Rattle.bx_day.specs.declared.entry.Standing.{Standing}
use Rattle.bx_day.specs.declared.entry.Standing.TheVariants.{Unoffered, OnCall}
use Rattle.bx_day.proofs.Law.{at_map_in, in_same}
use Rattle.bx_day.proofs.Once.{decide, each_at}
use Rattle.bx_day.proofs.Passing.{map_size}
use Rattle.bx_day.proofs.Quiet.{booking_quiet}
use Rattle.bx_day.proofs.SlotLemmas.{holds_from, waits_parts, waits_from, ends_later}
use Rattle.bx_day.proofs.Seats.{SameSeats}
use Rattle.bx_day.specs.declared.entry.Link.{Link}
use Rattle.bx_day.specs.declared.entry.Link.TheVariants.{Up, Down}
use Rattle.bx_day.proofs.Tick.{with_standing, unlinked}
use Rattle.bx_day.proofs.Receive.{unoffered_accepted}

-- ---- a second, booking by booking

abbrev pub After : Link → Day → List Entry
After link d = map (after_in link d) d.entries

pub second_seats : (link : Link) (d : Day) → SameSeats d.entries (After link d)
second_seats link d = record {
  size = sym (map_size link d d.entries);
  booking = λ i. ap (λ (e : Entry). e.booking) (sym (at_map_in link d d.entries i));
  channel = λ i. ap (λ (e : Entry). e.channel) (sym (at_map_in link d d.entries i));
  refused = λ i. sym (ap (λ (e : Entry). is_refused e.standing) (at_map_in link d d.entries i) ∙ (let e = entry_at d.entries i in in_same link e (d.moment + 1) (is_back d) (is_free d e.channel) e.standing));
}

pub over_waits : (a : Activity) (t : ℕ) → is_unoffered (over_at a t) ≡ false
over_waits (Was from until) t = refl
over_waits a t = refl

pub follow_waits : (a : Activity) (t : ℕ) (said : Option Outgoing) (n : Next PlainNetCall) → is_unoffered (follow a t said n).standing ≡ false
follow_waits a t said (Live c) = refl
follow_waits a t said n = over_waits a t

-- one that waits after a second waited before it
pub second_waits : (t : ℕ) (back free : Bool) (e : Entry) (s : Standing) → is_unoffered (second_at e t back free s).standing ≡ true → is_unoffered s ≡ true
second_waits t back free e Unoffered h = refl
second_waits t back free e (OnCall c a) h = absurd (true≢false (sym h ∙ follow_waits a t (net_second c t e.booking.end).reply (net_second c t e.booking.end).next))
second_waits t back free e s h = h

pub in_waits : (link : Link) (t : ℕ) (back free : Bool) (e : Entry) (s : Standing) → is_unoffered (second_by link e t back free s).standing ≡ true → is_unoffered s ≡ true
in_waits Up t back free e s = second_waits t back free e s
in_waits (Down rules) t back free e s = unlinked rules e t s (λ m. is_unoffered m.standing ≡ true → is_unoffered s ≡ true) (λ c a p h. absurd (true≢false (sym h ∙ follow_waits a t (net_unlinked rules 1 c t e.booking.end).reply (net_unlinked rules 1 c t e.booking.end).next))) (second_waits t false false e s)

pub waited : (link : Link) (d : Day) (c i : ℕ) → waits_on c (entry_at (After link d) i) ≡ true → waits_on c (entry_at d.entries i) ≡ true
waited link d c i h =
    let e = entry_at d.entries i in
    let p = waits_parts c (entry_at (After link d) i) h in
    waits_from c e (in_waits link (d.moment + 1) (is_back d) (is_free d e.channel) e e.standing (ap (λ (x : Entry). is_unoffered x.standing) (sym (at_map_in link d d.entries i)) ∙ p.0)) (ap (λ (x : Entry). x.channel) (sym (at_map_in link d d.entries i)) ∙ p.1)

pub soon : (t start end : ℕ) (b : Bool) → t < start → start < end → t < (if b then end else start)
soon t start end true lt order = omega (arith, lt, order)
soon t start end false lt order = lt

pub waits_is : (s : Standing) → is_unoffered s ≡ true → s ≡ Unoffered
waits_is Unoffered h = refl
waits_is s h = absurd (false≢true h)

-- one that starts later goes on waiting
in_quiet : (link : Link) (moment t : ℕ) (back free : Bool) (e : Entry) (s : Standing) → is_unoffered s ≡ true → EntryFits moment (with_standing e s) → e.booking.start ≤ e.booking.end → t < booking_due e s → second_by link e t back free s ≡ stays s
in_quiet Up moment t back free e s waits h order lt = booking_quiet moment t back free e s h order lt
in_quiet (Down rules) moment t back free e s waits h order lt = unlinked rules e t s (λ m. m ≡ stays s) (λ c a p. absurd (true≢false (sym waits ∙ ap is_unoffered p))) (booking_quiet moment t false false e s h order lt)

pub ahead_waits : (link : Link) (d : Day) (i : ℕ) → IsExchange d → i < length d.entries → (entry_at d.entries i).booking.start < (entry_at d.entries i).booking.end → is_unoffered (entry_at d.entries i).standing ≡ true → d.moment + 1 < (entry_at d.entries i).booking.start → second_in link d (entry_at d.entries i) ≡ stays (entry_at d.entries i).standing
ahead_waits link d i h lt order waits early =
    let e = entry_at d.entries i in
    let t = d.moment + 1 in
    let due : t < booking_due e e.standing = subst (λ (s : Standing). t < booking_due e s) (sym (waits_is e.standing waits)) (soon t e.booking.start e.booking.end e.booking.inward early order) in
    in_quiet link d.moment t (is_back d) (is_free d e.channel) e e.standing waits (each_at (EntryFits d.moment) d.entries i lt h.day.each) (omega (arith, order)) due

-- ---- which bookings of a channel a second may touch

abbrev pub IsNone : Option ℕ → ℕ → Type 0
IsNone o i = o ≡ Some i → ⊥

pub idle_stays : (t : ℕ) (back free : Bool) (e : Entry) (s : Standing) → is_live s ≡ false → is_unoffered s ≡ false → second_at e t back free s ≡ stays s
idle_stays t back free e Unoffered live waits = absurd (true≢false waits)
idle_stays t back free e (OnCall c a) live waits = absurd (true≢false live)
idle_stays t back free e s live waits = refl

in_idle : (link : Link) (t : ℕ) (back free : Bool) (e : Entry) (s : Standing) → is_live s ≡ false → is_unoffered s ≡ false → second_by link e t back free s ≡ stays s
in_idle Up t back free e s live waits = idle_stays t back free e s live waits
in_idle (Down rules) t back free e s live waits = unlinked rules e t s (λ m. m ≡ stays s) (λ c a p. absurd (true≢false (sym (ap is_live p) ∙ live))) (idle_stays t false false e s live waits)

-- one that waits, and is not the first
pub after_first : (es : List Entry) (c i r : ℕ) → IsWaitingOn es c (Some r) → i < length es → waits_on c (entry_at es i) ≡ true → i ≢ r → IsLater es r i
after_first es c i r h lt waits other =
    let p = h.there r refl in
    let q = waits_parts c (entry_at es i) waits in
    record {
      inside = lt;
      accepted = unoffered_accepted (entry_at es i).standing q.0;
      channel = q.1 ∙ sym (waits_parts c (entry_at es r) p.1).1;
      later = elim (cases_lt (entry_at es i).booking.start (entry_at es r).booking.end) [ inl less ↦ absurd (other (h.first i r lt waits refl less)) | inr le ↦ le ];
    }

-- nor the one after that
pub after_second : (es : List Entry) (i r s : ℕ) → IsFollowing es r (Some s) → IsLater es r i → i ≢ s → IsLater es s i
after_second es i r s h later other =
    let p = h.there s refl in
    record {
      inside = later.inside;
      accepted = later.accepted;
      channel = later.channel ∙ sym p.channel;
      later = elim (cases_lt (entry_at es i).booking.start (entry_at es s).booking.end) [ inl less ↦ absurd (other (h.first i s later refl less)) | inr le ↦ le ];
    }

-- the second after the first starts after the next tick
pub far_ahead : (d : Day) (i r s : ℕ) → IsExchange d → ((k : ℕ) → k < length d.entries → (entry_at d.entries k).booking.start < (entry_at d.entries k).booking.end) → r < length d.entries → is_unoffered (entry_at d.entries r).standing ≡ true → IsLater d.entries r s → IsLater d.entries s i → d.moment + 1 < (entry_at d.entries i).booking.start
far_ahead d i r s h order lt waits one two =
    let a : d.moment < (entry_at d.entries r).booking.end = ends_later d r h lt waits in
    let b : (entry_at d.entries r).booking.end ≤ (entry_at d.entries s).booking.start = one.later in
    let c : (entry_at d.entries s).booking.start < (entry_at d.entries s).booking.end = order s one.inside in
    let e : (entry_at d.entries s).booking.end ≤ (entry_at d.entries i).booking.start = two.later in
    omega (arith, a, b, c, e)

-- what follows is said of a channel with a live booking a, a first w that waits, and s after that
pub record IsTurn (d : Day) (c : ℕ) (a w s u : Option ℕ) : Type 0 where
  pub exchange : IsExchange d
  pub ordered : (k : ℕ) → k < length d.entries → (entry_at d.entries k).booking.start < (entry_at d.entries k).booking.end
  pub ahead : (i : ℕ) → i < length d.entries → is_refused (entry_at d.entries i).standing ≡ false → d.moment < (entry_at d.entries i).booking.start → is_unoffered (entry_at d.entries i).standing ≡ true
  pub live : IsLiveOn d.entries c a
  pub waiting : IsWaitingOn d.entries c w
  pub second : (r : ℕ) → w ≡ Some r → IsFollowing d.entries r s
  pub third : (r : ℕ) → s ≡ Some r → IsFollowing d.entries r u
  pub no_second : w ≡ None → s ≡ None
  pub no_third : s ≡ None → u ≡ None

pub waits_alone : (link : Link) (d : Day) (c i : ℕ) (a w s u : Option ℕ) → IsTurn d c a w s u → i < length d.entries → waits_on c (entry_at d.entries i) ≡ true → IsNone w i → IsNone s i → second_in link d (entry_at d.entries i) ≡ stays (entry_at d.entries i).standing
waits_alone link d c i a None s u t lt waits nw ns = absurd (false≢true (t.waiting.each i lt waits))
waits_alone link d c i a (Some r) None u t lt waits nw ns =
    let later = after_first d.entries c i r t.waiting lt waits (λ q. nw (ap (λ k. Some k) (sym q))) in
    absurd (false≢true ((t.second r refl).each i later))
waits_alone link d c i a (Some r) (Some s) u t lt waits nw ns =
    let later = after_first d.entries c i r t.waiting lt waits (λ q. nw (ap (λ k. Some k) (sym q))) in
    let b = t.second r refl in
    let last = after_second d.entries i r s b later (λ q. ns (ap (λ k. Some k) (sym q))) in
    let p = t.waiting.there r refl in
    ahead_waits link d i t.exchange lt (t.ordered i lt) (waits_parts c (entry_at d.entries i) waits).0
    (far_ahead d i r s t.exchange t.ordered p.0 (waits_parts c (entry_at d.entries r) p.1).0 (b.there s refl) last)

-- a second does nothing to the others of the channel
pub others_stay : (link : Link) (d : Day) (c i : ℕ) (a w s u : Option ℕ) → IsTurn d c a w s u → i < length d.entries → (entry_at d.entries i).channel ≡ c → IsNone a i → IsNone w i → IsNone s i → second_in link d (entry_at d.entries i) ≡ stays (entry_at d.entries i).standing
others_stay link d c i a w s u t lt on na nw ns =
    let e = entry_at d.entries i in
    decide (is_live e.standing)
    (λ live. absurd (na (t.live.each i lt (holds_from c e live on))))
    (λ idle. decide (is_unoffered e.standing)
    (λ waits. waits_alone link d c i a w s u t lt (waits_from c e waits on) nw ns)
    (λ done. in_idle link (d.moment + 1) (is_back d) (is_free d e.channel) e e.standing idle done))
