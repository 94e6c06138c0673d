-- A tick of the exchange, and a message that comes to it, keep what is true of calls that the far end began.
use Rattle.bx_events.specs.declared.rules.Rules.TheVariants.{Three}
use Rattle.bx_events.specs.declared.rules.Rules.{Rules}
use Rattle.std.proofs.Common.{◌≡◌, ◌⊎◌, inl, inr, ℕ, zero, suc, ◌+◌, ◌<◌, ◌==◌, ◌&&◌, not, Bool, true, false, List, [], ◌∷◌, ◌++◌, map, length, Option, Some, None, refl, sym, ap, subst, ◌∙◌, arith, nat_le, slice_set, length-set}
use Rattle.std.specs.List.{AllByRecursion, list_any, position}
use Rattle.std.proofs.lemmas.Bool.{false≢true, true≢false, and_parts, and_from, eq-eqb, eqb-true, or_left, or_right, or_cases, not-true}
use Rattle.bx_base.specs.Bookings.{is_running}
use Rattle.bx_channels.specs.ChannelNumbers.{IsChannel}
use Rattle.bx_q931.specs.declared.kind.Kind.{Kind}
use Rattle.bx_q931.specs.declared.kind.Kind.TheVariants.{Setup}
use Rattle.bx_q931.specs.Outgoing.{Outgoing}
use Rattle.bx_q931.specs.Parts.{channel_part}
use Rattle.bx_calls.specs.PlainCalls.{PlainNetCall}
use Rattle.bx_calls.specs.NetTable.{net_flag, net_second, net_unlinked, net_message}
use Rattle.bx_calls.specs.UnknownTable.{unknown_row, refusal_of}
use Rattle.bx_calls.specs.declared.transition.Transition.{Transition}
use Rattle.bx_calls.specs.declared.transition.Next.{Next}
use Rattle.bx_calls.specs.declared.transition.Next.TheVariants.{Live, Over, Broken}
use Rattle.bx_calls.specs.declared.unknown_reference.Side.TheVariants.{Network}
use Rattle.bx_day.specs.declared.entry.Activity.{Activity}
use Rattle.bx_day.specs.declared.entry.Activity.TheVariants.{Never}
use Rattle.bx_day.specs.declared.entry.Entry.{Entry}
use Rattle.bx_day.specs.declared.entry.Moved.{Moved}
use Rattle.bx_day.specs.declared.entry.Link.{Link}
use Rattle.bx_day.specs.declared.entry.Link.TheVariants.{Up, Down}
use Rattle.bx_day.specs.declared.entry.Standing.{Standing}
use Rattle.bx_day.specs.declared.entry.Standing.TheVariants.{Refused, Unoffered, OnCall, Carried, Unanswered, Missed}
use Rattle.bx_calls.specs.Shared.{bool_eq}
use Rattle.bx_channels.specs.Marks.{is_marked}
use Rattle.bx_day.specs.Day.{is_back, Day, entry_at, is_free, is_unoffered, every_channel}
use Rattle.bx_day.specs.Ticks.{waits, second_at, unlinked_at, second_by, second_in, after_in, breaks_in, maintained_in, passed_in}
use Rattle.bx_day.specs.Receipts.{is_open, opens, names, names_call, hears, takes_call, takes_or, called_on, called, stray, received_at, receive, with_moved}
use Rattle.bx_day.specs.Moves.{follow, over_at}
use Rattle.bx_calls.specs.Sending.{Answered, reply_list}
use Rattle.bx_day.specs.Law.{standing_at}
use Rattle.bx_day.specs.Invariant.{is_refused}
use Rattle.bx_day.proofs.Receive.{all_set, all_at, Passes, index_passes, open_parts}
use Rattle.bx_day.proofs.Said.{OfSaid, all_over}
use Rattle.bx_day.proofs.Tick.{by_cases, offers, with_standing}
use Rattle.bx_two_ends.specs.TwoEndsInward.{answered_as, exchange_holds, is_connect_kind}
use Rattle.bx_two_ends.proofs.Delivery.{said_from}
use Rattle.bx_two_ends.proofs.NetworkRows.{Speaks, second_speaks, unlinked_says, OfCall, heard_says, clears_as}
use Rattle.bx_two_ends.proofs.History.{from_beginner, clears, IsIn, is_from_beginner, all_joined, all_map, said_map, listed, implied_false, or_first}
use Rattle.bx_two_ends.proofs.ExchangeTicks.{all_from, follow_said}
use Rattle.bx_two_ends.proofs.ExchangeHears.{Unknown, unknown_says}
use Rattle.bx_two_ends.proofs.FarHears.{set_now, set_stays}
use Rattle.bx_two_ends.proofs.InwardRows.{is_presented, NetMoves, net_heard_moves, net_second_moves, net_unlinked_moves}
use Rattle.bx_two_ends.proofs.Inward.{InwardSent, KeptInward, Holds, Maintained, Cleared, InwardReply, InwardReplies, TakenStanding, TakenEntries}

-- a live call is on the channel of its booking
abbrev pub PlacedAt : Entry → Standing → Type 0
PlacedAt e (OnCall call activity) = call.channel ≡ e.channel
PlacedAt e _ = Unit {0}

-- what is needed of the exchange
pub record TakenBefore (named : ℕ → ℕ) (next : ℕ) (sent far_sent : List Outgoing) (d : Day) : Type 0 where
  pub replies : InwardReplies named next far_sent d sent
  pub entries : TakenEntries named next d.entries
  pub size : length d.maintenance ≡ 32
  pub placed : (i : ℕ) → PlacedAt (entry_at d.entries i) (standing_at d i)
  pub in_service : (i : ℕ) → is_refused (standing_at d i) ≡ false → IsChannel (entry_at d.entries i).channel

-- and what a step leaves of it, at which more was sent
pub record TakenAfter (named : ℕ → ℕ) (next : ℕ) (sent far_sent more : List Outgoing) (d : Day) : Type 0 where
  pub replies : InwardReplies named next far_sent d (sent ++ more)
  pub entries : TakenEntries named next d.entries
  pub size : length d.maintenance ≡ 32

replies_grow : (named : ℕ → ℕ) (next : ℕ) (sent far_sent more : List Outgoing) (d d' : Day) → ((r : ℕ) → KeptInward named far_sent d r → KeptInward named far_sent d' r) → InwardReplies named next far_sent d sent → InwardReplies named next far_sent d' more → InwardReplies named next far_sent d' (sent ++ more)
replies_grow named next sent far_sent more d d' kept h k = all_joined (λ o. o.flag ≡ true → InwardReply named next far_sent d' o) sent more
    (all_map (λ o. o.flag ≡ true → InwardReply named next far_sent d o) (λ o. o.flag ≡ true → InwardReply named next far_sent d' o) (λ o p q. record { given = (p q).given; kept = λ c. kept o.reference ((p q).kept c) }) sent h) k

-- ---- one booking: of which this became, where it stands on channel ch

pub record StandingMoves (named : ℕ → ℕ) (next : ℕ) (far_sent : List Outgoing) (ch : ℕ) (s : Standing) (m : Moved) : Type 0 where
  pub taken : TakenStanding named next m.standing
  pub said : OfSaid (λ o. o.flag ≡ true → (o.reference < next) × (is_connect_kind o.kind ≡ true → answered_as o.reference (named o.reference) s ≡ true)) m.said
  pub kept : (r : ℕ) → answered_as r (named r) s ≡ true → (answered_as r (named r) m.standing ≡ true) ⊎ (((m.broken ≡ true) × (ch ≡ named r)) ⊎ (list_any (clears r) far_sent ≡ true))

over_taken : (named : ℕ → ℕ) (next : ℕ) (a : Activity) (t : ℕ) → TakenStanding named next (over_at a t)
over_taken named next Never t = tt
over_taken named next a t = tt

taken_after : (named : ℕ → ℕ) (next : ℕ) (c : PlainNetCall) (a : Activity) (t : ℕ) (cleared ticks : Bool) (reply : Option Outgoing) (n : Next PlainNetCall) → TakenStanding named next (OnCall c a) → NetMoves c.reference c.channel c.origin c.state cleared ticks n → TakenStanding named next (follow a t reply n).standing
taken_after named next c a t cleared ticks reply (Live c') h g = λ f.
    let old = h (ap net_flag (sym g.origin) ∙ f) in
    record {
      given = subst (λ r. r < next) (sym g.reference) old.given;
      channel = g.channel ∙ old.channel ∙ ap named (sym g.reference);
      taken = implied_false (is_presented c'.state) (is_presented c.state) g.presented old.taken;
    }
taken_after named next c a t cleared ticks reply Over h g = over_taken named next a t
taken_after named next c a t cleared ticks reply Broken h g = over_taken named next a t

-- the parts of what is held
record Held (r ch : ℕ) (c : PlainNetCall) : Type 0 where
  pub reference : c.reference ≡ r
  pub inward : net_flag c.origin ≡ true
  pub channel : c.channel ≡ ch

held_parts : (r ch : ℕ) (c : PlainNetCall) → ((c.reference == r) && net_flag c.origin && (c.channel == ch)) ≡ true → Held r ch c
held_parts r ch c h =
    let p = and_parts ((c.reference == r) && net_flag c.origin) (c.channel == ch) h in
    let q = and_parts (c.reference == r) (net_flag c.origin) p.0 in
    record { reference = eqb-true c.reference r q.0; inward = q.1; channel = eqb-true c.channel ch p.1 }

is_held : (r ch : ℕ) (c : PlainNetCall) → Held r ch c → ((c.reference == r) && net_flag c.origin && (c.channel == ch)) ≡ true
is_held r ch c h = and_from ((c.reference == r) && net_flag c.origin) (c.channel == ch) (and_from (c.reference == r) (net_flag c.origin) (eq-eqb c.reference r h.reference) h.inward) (eq-eqb c.channel ch h.channel)

kept_after : (named : ℕ → ℕ) (next : ℕ) (far_sent : List Outgoing) (ch : ℕ) (c : PlainNetCall) (a : Activity) (t : ℕ) (cleared ticks : Bool) (reply : Option Outgoing) (n : Next PlainNetCall) → TakenStanding named next (OnCall c a) → c.channel ≡ ch → NetMoves c.reference c.channel c.origin c.state cleared ticks n
    → (net_flag c.origin ≡ true → cleared ≡ true → list_any (clears c.reference) far_sent ≡ true) → (r : ℕ) → Held r (named r) c
    → (answered_as r (named r) (follow a t reply n).standing ≡ true) ⊎ ((((follow a t reply n).broken ≡ true) × (ch ≡ named r)) ⊎ (list_any (clears r) far_sent ≡ true))
kept_after named next far_sent ch c a t cleared ticks reply (Live c') h on g clear r k =
    inl (is_held r (named r) c' (record { reference = g.reference ∙ k.reference; inward = ap net_flag g.origin ∙ k.inward; channel = g.channel ∙ k.channel }))
kept_after named next far_sent ch c a t cleared ticks reply Over h on g clear r k =
    inr (inr (subst (λ x. list_any (clears x) far_sent ≡ true) k.reference (clear k.inward (or_first cleared (is_presented c.state) g (h k.inward).taken))))
kept_after named next far_sent ch c a t cleared ticks reply Broken h on g clear r k = inr (inl (refl, sym on ∙ k.channel))

call_moves : (named : ℕ → ℕ) (next : ℕ) (far_sent : List Outgoing) (ch : ℕ) (c : PlainNetCall) (a : Activity) (t : ℕ) (cleared ticks : Bool) (reply : Option Outgoing) (n : Next PlainNetCall) → TakenStanding named next (OnCall c a) → c.channel ≡ ch → NetMoves c.reference c.channel c.origin c.state cleared ticks n
    → (net_flag c.origin ≡ true → cleared ≡ true → list_any (clears c.reference) far_sent ≡ true) → OfSaid (OfCall c.reference c.origin) reply → StandingMoves named next far_sent ch (OnCall c a) (follow a t reply n)
call_moves named next far_sent ch c a t cleared ticks reply n h on g clear says =
    let P : Outgoing → Type 0 = λ o. o.flag ≡ true → (o.reference < next) × (is_connect_kind o.kind ≡ true → answered_as o.reference (named o.reference) (OnCall c a) ≡ true) in
    record {
      taken = taken_after named next c a t cleared ticks reply n h g;
      said = follow_said P a t reply n (said_map (OfCall c.reference c.origin) P
          (λ o p f. let old = h (sym p.1 ∙ f) in
          (subst (λ r. r < next) (sym p.0) old.given, λ q. is_held o.reference (named o.reference) c (record { reference = sym p.0; inward = sym p.1 ∙ f; channel = old.channel ∙ ap named (sym p.0) }))) reply says);
      kept = λ r k. kept_after named next far_sent ch c a t cleared ticks reply n h on g clear r (held_parts r (named r) c k);
    }

-- ---- a tick

waits_moves : (named : ℕ → ℕ) (next : ℕ) (far_sent : List Outgoing) (e : Entry) (t : ℕ) (back free : Bool) → StandingMoves named next far_sent e.channel Unoffered (waits e t back free)
waits_moves named next far_sent e t back free =
    let M : Moved → Type 0 = StandingMoves named next far_sent e.channel Unoffered in
    by_cases (offers e t free) _ _ M (λ _. record { taken = λ f. absurd (false≢true f); said = λ f. absurd (false≢true f); kept = λ r h. absurd (false≢true h) })
    (λ _. by_cases (nat_le e.booking.end t) _ _ M (λ _. record { taken = tt; said = tt; kept = λ r h. absurd (false≢true h) }) (λ _. record { taken = tt; said = tt; kept = λ r h. absurd (false≢true h) }))

second_moved : (named : ℕ → ℕ) (next : ℕ) (far_sent : List Outgoing) (e : Entry) (t : ℕ) (back free : Bool) (s : Standing) → TakenStanding named next s → PlacedAt e s → StandingMoves named next far_sent e.channel s (second_at e t back free s)
second_moved named next far_sent e t back free Unoffered h on = waits_moves named next far_sent e t back free
second_moved named next far_sent e t back free (OnCall c a) h on =
    let step : Transition PlainNetCall = net_second c t e.booking.end in
    call_moves named next far_sent e.channel c a t false true step.reply step.next h on (net_second_moves c.reference c.channel c.origin t e.booking.end c.state) (λ _ k. absurd (false≢true k))
    (said_map (Speaks c.reference c.channel c.origin) (OfCall c.reference c.origin) (λ o s. (s.reference, s.flag)) step.reply (second_speaks c.reference c.channel c.origin t e.booking.end c.state))
second_moved named next far_sent e t back free s h on = record { taken = tt; said = tt; kept = λ r k. absurd (false≢true k) }

-- the booking of an index is among all
any_entry : (p : Entry → Bool) (es : List Entry) (i : ℕ) → p (entry_at [] i) ≡ false → p (entry_at es i) ≡ true → list_any p es ≡ true
any_entry p [] i n h = absurd (false≢true (sym n ∙ h))
any_entry p (e ∷ es) zero n h = or_left (p e) (list_any p es) h
any_entry p (e ∷ es) (suc i) n h = or_right (p e) (list_any p es) (any_entry p es i n h)

-- ---- maintenance over a second

maintained_stays : (link : Link) (d : Day) (k : ℕ) (ms : List Bool) (c : ℕ) → is_marked ms c ≡ true → is_marked (maintained_in link d k ms) c ≡ true
maintained_stays link d k [] c h = h
maintained_stays link d k (b ∷ bs) zero h = or_left b (list_any (breaks_in link d k) d.entries) h
maintained_stays link d k (b ∷ bs) (suc c) h = maintained_stays link d (k + 1) bs c h

maintained_now : (link : Link) (d : Day) (k : ℕ) (ms : List Bool) (c n : ℕ) → c < length ms → k + c ≡ n → list_any (breaks_in link d n) d.entries ≡ true → is_marked (maintained_in link d k ms) c ≡ true
maintained_now link d k [] c n lt q h = absurd (omega (arith, lt))
maintained_now link d k (b ∷ bs) zero n lt q h = or_right b (list_any (breaks_in link d k) d.entries) (subst (λ x. list_any (breaks_in link d x) d.entries ≡ true) (sym (same k n q)) h)
  where
    same : (x y : ℕ) → x + 0 ≡ y → x ≡ y
    same x y e = omega (arith, e)
maintained_now link d k (b ∷ bs) (suc c) n lt q h = maintained_now link d (k + 1) bs c n (omega (arith, lt)) (omega (arith, q)) h

maintained_size : (link : Link) (d : Day) (k : ℕ) (ms : List Bool) → length (maintained_in link d k ms) ≡ length ms
maintained_size link d k [] = refl
maintained_size link d k (b ∷ bs) = ap suc (maintained_size link d (k + 1) bs)

-- what a booking of an index does in the second
abbrev Moves : Link → (ℕ → ℕ) → ℕ → List Outgoing → Day → Entry → Type 0
Moves link named next far_sent d e = StandingMoves named next far_sent e.channel e.standing (second_in link d e)

-- one that breaks leaves its channel in maintenance
abbrev Breaks : Link → Day → Entry → Type 0
Breaks link d e = is_refused e.standing ≡ false → (second_in link d e).broken ≡ true → is_marked (maintained_in link d 0 d.maintenance) e.channel ≡ true

nothing_more : (n : ℕ) → 0 + n ≡ n
nothing_more n = omega arith

none_breaks : (link : Link) (d : Day) (c i : ℕ) → breaks_in link d c (entry_at [] i) ≡ false
none_breaks Up d c i = refl
none_breaks (Down rules) d c i = refl

breaks_at : (link : Link) (named : ℕ → ℕ) (next : ℕ) (sent far_sent : List Outgoing) (d : Day) → TakenBefore named next sent far_sent d → (i : ℕ) → Breaks link d (entry_at d.entries i)
breaks_at link named next sent far_sent d b i accepted broken =
    let e = entry_at d.entries i in
    let on : IsChannel e.channel = b.in_service i accepted in
    maintained_now link d 0 d.maintenance e.channel e.channel (omega (arith, b.size, on.1)) (nothing_more e.channel)
    (any_entry (breaks_in link d e.channel) d.entries i (none_breaks link d e.channel i) (and_from (second_in link d e).broken (e.channel == e.channel) broken (eq-eqb e.channel e.channel refl)))

live_accepted : (r ch : ℕ) (s : Standing) → answered_as r ch s ≡ true → is_refused s ≡ false
live_accepted r ch (OnCall c a) h = refl
live_accepted r ch s h = absurd (false≢true h)

-- what is held stays, or goes into maintenance, or was cleared
tick_held : (link : Link) (named : ℕ → ℕ) (next : ℕ) (far_sent : List Outgoing) (d : Day) (r : ℕ) (es : List Entry) → AllByRecursion (Moves link named next far_sent d) es → AllByRecursion (Breaks link d) es → exchange_holds es r (named r) ≡ true
    → (exchange_holds (map (after_in link d) es) r (named r) ≡ true) ⊎ KeptInward named far_sent (passed_in link d).day r
tick_held link named next far_sent d r [] moves broken h = absurd (false≢true h)
tick_held link named next far_sent d r (e ∷ es) moves broken h =
    elim (or_cases (answered_as r (named r) e.standing) (exchange_holds es r (named r)) h) [
      | inl k ↦ elim (moves.0.kept r k) [
        | inl p ↦ inl (or_left (answered_as r (named r) (second_in link d e).standing) (exchange_holds (map (after_in link d) es) r (named r)) p)
        | inr p ↦ elim p [
          | inl q ↦ inr (Maintained (subst (λ c. is_marked (maintained_in link d 0 d.maintenance) c ≡ true) q.1 (broken.0 (live_accepted r (named r) e.standing k) q.0)))
          | inr q ↦ inr (Cleared q)
        ]
      ]
      | inr k ↦ elim (tick_held link named next far_sent d r es moves.1 broken.1 k) [
        | inl p ↦ inl (or_right (answered_as r (named r) (second_in link d e).standing) (exchange_holds (map (after_in link d) es) r (named r)) p)
        | inr p ↦ inr p
      ]
    ]

tick_taken : (link : Link) (named : ℕ → ℕ) (next : ℕ) (far_sent : List Outgoing) (d : Day) (es : List Entry) → AllByRecursion (Moves link named next far_sent d) es → TakenEntries named next (map (after_in link d) es)
tick_taken link named next far_sent d [] h = tt
tick_taken link named next far_sent d (e ∷ es) h = (h.0.taken, tick_taken link named next far_sent d es h.1)

keep_held : (link : Link) (named : ℕ → ℕ) (next : ℕ) (sent far_sent : List Outgoing) (d : Day) → TakenBefore named next sent far_sent d → AllByRecursion (Moves link named next far_sent d) d.entries → (r : ℕ) → KeptInward named far_sent d r → KeptInward named far_sent (passed_in link d).day r
keep_held link named next sent far_sent d b all r (Maintained h) = Maintained (maintained_stays link d 0 d.maintenance (named r) h)
keep_held link named next sent far_sent d b all r (Cleared h) = Cleared h
keep_held link named next sent far_sent d b all r (Holds h) = elim (tick_held link named next far_sent d r d.entries all (all_from (Breaks link d) d.entries (breaks_at link named next sent far_sent d b)) h) [
  | inl k ↦ Holds k
  | inr k ↦ k
]

pub ticked_takes : (named : ℕ → ℕ) (next : ℕ) (sent far_sent : List Outgoing) (d : Day) → TakenBefore named next sent far_sent d → TakenAfter named next sent far_sent (passed_in Up d).sent (passed_in Up d).day
ticked_takes named next sent far_sent d b =
    let d' : Day = (passed_in Up d).day in
    let moves : (i : ℕ) → Moves Up named next far_sent d (entry_at d.entries i) = λ i.
    let e = entry_at d.entries i in
    second_moved named next far_sent e (d.moment + 1) (is_back d) (is_free d e.channel) e.standing (all_at (λ x. TakenStanding named next x.standing) tt d.entries i b.entries) (b.placed i) in
    let all : AllByRecursion (Moves Up named next far_sent d) d.entries = all_from (Moves Up named next far_sent d) d.entries moves in
    let kept : (r : ℕ) → KeptInward named far_sent d r → KeptInward named far_sent d' r = λ r k. keep_held Up named next sent far_sent d b all r k in
    let P : Outgoing → Type 0 = λ o. o.flag ≡ true → InwardReply named next far_sent d' o in
    record {
      replies = replies_grow named next sent far_sent (passed_in Up d).sent d d' kept b.replies
          (all_over P d every_channel (all_from (λ e. OfSaid P (second_in Up d e).said) d.entries (λ i.
          let e = entry_at d.entries i in
          said_map (λ o. o.flag ≡ true → (o.reference < next) × (is_connect_kind o.kind ≡ true → answered_as o.reference (named o.reference) e.standing ≡ true)) P
          (λ o p f. record {
            given = (p f).0;
            kept = λ q. kept o.reference (Holds (any_entry (λ x. answered_as o.reference (named o.reference) x.standing) d.entries i refl ((p f).1 q)));
          }) (second_in Up d e).said (moves i).said)));
      entries = tick_taken Up named next far_sent d d.entries all;
      size = maintained_size Up d 0 d.maintenance ∙ b.size;
    }

-- and a second without a link, in which nothing is sent
unlinked_moved : (rules : Rules) (named : ℕ → ℕ) (next : ℕ) (far_sent : List Outgoing) (e : Entry) (t : ℕ) (s : Standing) → TakenStanding named next s → PlacedAt e s → StandingMoves named next far_sent e.channel s (unlinked_at rules e t s)
unlinked_moved rules named next far_sent e t (OnCall c a) h on =
    let step : Transition PlainNetCall = net_unlinked rules 1 c t e.booking.end in
    call_moves named next far_sent e.channel c a t false true step.reply step.next h on (net_unlinked_moves rules c.reference c.channel c.origin t e.booking.end c.state) (λ _ k. absurd (false≢true k)) (unlinked_says rules (OfCall c.reference c.origin) c t e.booking.end)
unlinked_moved rules named next far_sent e t Refused h on = second_moved named next far_sent e t false false Refused h on
unlinked_moved rules named next far_sent e t Unoffered h on = second_moved named next far_sent e t false false Unoffered h on
unlinked_moved rules named next far_sent e t (Carried from until) h on = second_moved named next far_sent e t false false (Carried from until) h on
unlinked_moved rules named next far_sent e t Unanswered h on = second_moved named next far_sent e t false false Unanswered h on
unlinked_moved rules named next far_sent e t Missed h on = second_moved named next far_sent e t false false Missed h on

moved_in : (link : Link) (named : ℕ → ℕ) (next : ℕ) (far_sent : List Outgoing) (e : Entry) (t : ℕ) (back free : Bool) (s : Standing) → TakenStanding named next s → PlacedAt e s → StandingMoves named next far_sent e.channel s (second_by link e t back free s)
moved_in Up named next far_sent e t back free s h on = second_moved named next far_sent e t back free s h on
moved_in (Down rules) named next far_sent e t back free s h on = unlinked_moved rules named next far_sent e t s h on

pub without_takes : (named : ℕ → ℕ) (next : ℕ) (sent far_sent : List Outgoing) (d : Day) → TakenBefore named next sent far_sent d → TakenAfter named next sent far_sent [] (passed_in (Down Three) d).day
without_takes named next sent far_sent d b =
    let all : AllByRecursion (Moves (Down Three) named next far_sent d) d.entries = all_from (Moves (Down Three) named next far_sent d) d.entries (λ i.
    let e = entry_at d.entries i in
    moved_in (Down Three) named next far_sent e (d.moment + 1) (is_back d) (is_free d e.channel) e.standing (all_at (λ x. TakenStanding named next x.standing) tt d.entries i b.entries) (b.placed i)) in
    record {
      replies = replies_grow named next sent far_sent [] d (passed_in (Down Three) d).day (λ r k. keep_held (Down Three) named next sent far_sent d b all r k) b.replies tt;
      entries = tick_taken (Down Three) named next far_sent d d.entries all;
      size = maintained_size (Down Three) d 0 d.maintenance ∙ b.size;
    }

-- ---- a message

-- where one booking stands otherwise, the rest stays
set_any : (R : Type 0) (p : Standing → Bool) (es : List Entry) (i : ℕ) (y : Entry) → (p (entry_at es i).standing ≡ true → (p y.standing ≡ true) ⊎ R) → list_any (λ (e : Entry). p e.standing) es ≡ true → (list_any (λ (e : Entry). p e.standing) (slice_set es i y) ≡ true) ⊎ R
set_any R p [] i y f h = absurd (false≢true h)
set_any R p (e ∷ es) zero y f h = elim (or_cases (p e.standing) (list_any (λ (x : Entry). p x.standing) es) h) [
  | inl k ↦ elim (f k) [
    | inl q ↦ inl (or_left (p y.standing) (list_any (λ (x : Entry). p x.standing) es) q)
    | inr q ↦ inr q
  ]
  | inr k ↦ inl (or_right (p y.standing) (list_any (λ (x : Entry). p x.standing) es) k)
]
set_any R p (e ∷ es) (suc i) y f h = elim (or_cases (p e.standing) (list_any (λ (x : Entry). p x.standing) es) h) [
  | inl k ↦ inl (or_left (p e.standing) (list_any (λ (x : Entry). p x.standing) (slice_set es i y)) k)
  | inr k ↦ elim (set_any R p es i y f k) [
    | inl q ↦ inl (or_right (p e.standing) (list_any (λ (x : Entry). p x.standing) (slice_set es i y)) q)
    | inr q ↦ inr q
  ]
]

moved_takes : (named : ℕ → ℕ) (next : ℕ) (sent far_sent : List Outgoing) (d : Day) (i : ℕ) (m : Moved) → TakenBefore named next sent far_sent d → IsChannel (entry_at d.entries i).channel → StandingMoves named next far_sent (entry_at d.entries i).channel (standing_at d i) m
    → TakenAfter named next sent far_sent (reply_list m.said) (with_moved d i m).day
moved_takes named next sent far_sent d i m b on moves =
    let d' : Day = (with_moved d i m).day in
    let P : Outgoing → Type 0 = λ o. o.flag ≡ true → InwardReply named next far_sent d' o in
    record {
      replies = replies_grow named next sent far_sent (reply_list m.said) d d' keep b.replies (listed P m.said (said_map (λ o. o.flag ≡ true → (o.reference < next) × (is_connect_kind o.kind ≡ true → answered_as o.reference (named o.reference) (standing_at d i) ≡ true)) P
          (λ o p f. record {
            given = (p f).0;
            kept = λ q. keep o.reference (Holds (any_entry (λ x. answered_as o.reference (named o.reference) x.standing) d.entries i refl ((p f).1 q)));
          }) m.said moves.said));
      entries = all_set (λ e. TakenStanding named next e.standing) d.entries i (with_standing (entry_at d.entries i) m.standing) moves.taken b.entries;
      size = by_cases m.broken _ _ (λ (ms : List Bool). length ms ≡ 32) (λ _. length-set d.maintenance (entry_at d.entries i).channel true ∙ b.size) (λ _. b.size);
    }
  where
    breaks : (r : ℕ) → m.broken ≡ true → (entry_at d.entries i).channel ≡ named r → is_marked (with_moved d i m).day.maintenance (named r) ≡ true
    breaks r broken q = subst (λ c. is_marked (with_moved d i m).day.maintenance c ≡ true) q
        (by_cases m.broken _ _ (λ (ms : List Bool). is_marked ms (entry_at d.entries i).channel ≡ true) (λ _. set_now d.maintenance (entry_at d.entries i).channel (omega (arith, b.size, on.1))) (λ n. absurd (true≢false (sym broken ∙ n))))

    keep : (r : ℕ) → KeptInward named far_sent d r → KeptInward named far_sent (with_moved d i m).day r
    keep r (Maintained h) = Maintained (by_cases m.broken _ _ (λ (ms : List Bool). is_marked ms (named r) ≡ true) (λ _. set_stays d.maintenance (entry_at d.entries i).channel (named r) h) (λ _. h))
    keep r (Cleared h) = Cleared h
    keep r (Holds h) = elim (set_any (KeptInward named far_sent (with_moved d i m).day r) (answered_as r (named r)) d.entries i (with_standing (entry_at d.entries i) m.standing)
        (λ k. elim (moves.kept r k) [
          | inl p ↦ inl p
          | inr p ↦ elim p [
            | inl q ↦ inr (Maintained (breaks r q.0 q.1))
            | inr q ↦ inr (Cleared q)
          ]
        ]) h) [
          | inl k ↦ Holds k
          | inr k ↦ k
        ]

flags_meet : (a f : Bool) → bool_eq a (not f) ≡ true → a ≡ true → f ≡ false
flags_meet true true h q = absurd (false≢true h)
flags_meet true false h q = refl
flags_meet false f h q = absurd (false≢true q)

heard_moves : (named : ℕ → ℕ) (next : ℕ) (far_sent : List Outgoing) (t : ℕ) (o : Outgoing) (e : Entry) (s : Standing) → names_call (said_from o) s ≡ true → IsIn far_sent o → TakenStanding named next s → PlacedAt e s → StandingMoves named next far_sent e.channel s (hears (said_from o) t s)
heard_moves named next far_sent t o e (OnCall c a) named_by is_in h on =
    let step : Transition PlainNetCall = net_message c (said_from o).heard t in
    let p = and_parts (c.reference == o.reference) (bool_eq (net_flag c.origin) (not o.flag)) named_by in
    call_moves named next far_sent e.channel c a t (clears_as o.kind o.state) false step.reply step.next h on (net_heard_moves c.reference c.channel c.origin t (said_from o).heard c.state o.kind)
    (λ f k. is_in (clears c.reference) (and_from (from_beginner c.reference o) (clears_as o.kind o.state) (is_from_beginner c.reference o (sym (eqb-true c.reference o.reference p.0)) (flags_meet (net_flag c.origin) o.flag p.1 f)) k))
    (heard_says c.reference c.channel c.origin t (said_from o).heard c.state o.kind)
heard_moves named next far_sent t o e Refused named_by is_in h on = absurd (false≢true named_by)
heard_moves named next far_sent t o e s named_by is_in h on = absurd (false≢true named_by)

named_accepted : (o : Outgoing) (s : Standing) → names_call (said_from o) s ≡ true → is_refused s ≡ false
named_accepted o (OnCall c a) h = refl
named_accepted o s h = absurd (false≢true h)

-- an answer that changes nothing, and is no CONNECT
abbrev Plain : ℕ → Outgoing → Type 0
Plain next o = o.flag ≡ true → (o.reference < next) × (is_connect_kind o.kind ≡ false)

pub unchanged_takes : (named : ℕ → ℕ) (next : ℕ) (sent far_sent : List Outgoing) (d : Day) (reply : Option Outgoing) → TakenBefore named next sent far_sent d → OfSaid (Plain next) reply → TakenAfter named next sent far_sent (reply_list reply) d
unchanged_takes named next sent far_sent d reply b h = record {
  replies = replies_grow named next sent far_sent (reply_list reply) d d (λ r k. k) b.replies
      (listed (λ o. o.flag ≡ true → InwardReply named next far_sent d o) reply (said_map (Plain next) (λ o. o.flag ≡ true → InwardReply named next far_sent d o) (λ o p f. record { given = (p f).0; kept = λ q. absurd (false≢true (sym (p f).1 ∙ q)) }) reply h));
  entries = b.entries;
  size = b.size;
}

abbrev Takes : (ℕ → ℕ) → ℕ → List Outgoing → List Outgoing → Answered Day → Type 0
Takes named next sent far_sent x = TakenAfter named next sent far_sent (reply_list x.reply) x.day

unoffered_free : (r ch : ℕ) (s : Standing) → is_unoffered s ≡ true → answered_as r ch s ≡ true → ⊥
unoffered_free r ch Unoffered h k = false≢true k
unoffered_free r ch s h k = false≢true h

-- a SETUP for the channel of its reference alone
called_takes : (named : ℕ → ℕ) (next : ℕ) (sent far_sent : List Outgoing) (d : Day) (o : Outgoing) (x : Option ℕ) → TakenBefore named next sent far_sent d → o.reference < next → Passes (opens d (named o.reference)) d.entries x → Takes named next sent far_sent (takes_or d (said_from o) 44 x)
called_takes named next sent far_sent d o None b given passes = unchanged_takes named next sent far_sent d (Some (refusal_of Network o.reference true 44)) b (λ _. (given, refl))
called_takes named next sent far_sent d o (Some i) b given passes =
    let e = entry_at d.entries i in
    let p = and_parts (is_open d e) (e.channel == named o.reference) passes in
    let q = open_parts d e p.0 in
    moved_takes named next sent far_sent d i (takes_call (said_from o) e) b (b.in_service i q.accepted) (record {
      taken = λ _. record { given = given; channel = eqb-true e.channel (named o.reference) p.1; taken = refl };
      said = λ _. (given, λ k. absurd (false≢true k));
      kept = λ r k. absurd (unoffered_free r (named r) e.standing (first_part p.0) k);
    })
  where
    first_part : is_open d (entry_at d.entries i) ≡ true → is_unoffered (entry_at d.entries i).standing ≡ true
    first_part h =
        let e = entry_at d.entries i in
        let p = and_parts (is_unoffered e.standing && e.booking.inward && is_running e.booking d.moment) (is_free d e.channel) h in
        let q = and_parts (is_unoffered e.standing && e.booking.inward) (is_running e.booking d.moment) p.0 in
        (and_parts (is_unoffered e.standing) e.booking.inward q.0).0

stray_takes : (named : ℕ → ℕ) (next : ℕ) (sent far_sent : List Outgoing) (d : Day) (o : Outgoing) (k : Kind) → o.kind ≡ k → TakenBefore named next sent far_sent d → (o.flag ≡ false → InwardSent named next o) → Takes named next sent far_sent (stray d (said_from o) k)
stray_takes named next sent far_sent d o Setup kind b own = by_cases o.flag _ _ (Takes named next sent far_sent) (λ _. unchanged_takes named next sent far_sent d None b tt) (λ flag. asked flag (said_from o).refused)
  where
    asked : o.flag ≡ false → (cause : Option ℕ) → Takes named next sent far_sent (called d (said_from o) cause)
    asked flag (Some cause) = unchanged_takes named next sent far_sent d (Some (refusal_of Network o.reference true cause)) b (λ _. ((own flag).given, refl))
    asked flag None = subst (λ ch. Takes named next sent far_sent (called_on d (said_from o) (channel_part ch))) (sym ((own flag).channel kind))
        (called_takes named next sent far_sent d o (position (opens d (named o.reference)) d.entries) b (own flag).given (index_passes (opens d (named o.reference)) d.entries))
stray_takes named next sent far_sent d o k kind b own = unchanged_takes named next sent far_sent d (unknown_row Network o.reference (not o.flag) (said_from o).heard k) b
    (said_map (Unknown o.reference (not o.flag)) (Plain next) (λ x u f. (subst (λ r. r < next) (sym u.reference) (own (not-true o.flag (sym u.flag ∙ f))).given, u.no_connect)) (unknown_row Network o.reference (not o.flag) (said_from o).heard k) (unknown_says Network o.reference (not o.flag) (said_from o).heard k))

received_takes : (named : ℕ → ℕ) (next : ℕ) (sent far_sent : List Outgoing) (d : Day) (o : Outgoing) (x : Option ℕ) → TakenBefore named next sent far_sent d → Passes (names (said_from o)) d.entries x → (o.flag ≡ false → InwardSent named next o) → IsIn far_sent o → Takes named next sent far_sent (received_at d (said_from o) x)
received_takes named next sent far_sent d o None b passes own is_in = stray_takes named next sent far_sent d o o.kind refl b own
received_takes named next sent far_sent d o (Some i) b passes own is_in =
    let e = entry_at d.entries i in
    moved_takes named next sent far_sent d i (hears (said_from o) d.moment e.standing) b (b.in_service i (named_accepted o e.standing passes))
    (heard_moves named next far_sent d.moment o e e.standing passes is_in (all_at (λ x. TakenStanding named next x.standing) tt d.entries i b.entries) (b.placed i))

pub receive_takes : (named : ℕ → ℕ) (next : ℕ) (sent far_sent : List Outgoing) (d : Day) (o : Outgoing) → TakenBefore named next sent far_sent d → (o.flag ≡ false → InwardSent named next o) → IsIn far_sent o → Takes named next sent far_sent (receive d (said_from o))
receive_takes named next sent far_sent d o b own is_in = received_takes named next sent far_sent d o (position (names (said_from o)) d.entries) b (index_passes (names (said_from o)) d.entries) own is_in
