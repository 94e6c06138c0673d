-- A message that comes to the exchange keeps what is true of calls that it began.
use Rattle.std.proofs.Common.{◌≡◌, ◌≢◌, ◌⊎◌, inl, inr, ℕ, zero, suc, ◌==◌, not, Bool, true, false, List, [], ◌∷◌, ◌++◌, Option, Some, None, refl, sym, ap, subst, ◌∙◌, arith, if◌then◌else◌, slice_set, is_some}
use Rattle.std.specs.List.{AllByRecursion, list_any, position}
use Rattle.std.specs.Option.{option_map}
use Rattle.std.proofs.lemmas.Bool.{false≢true, true≢false, and_parts, and_from, eq-eqb, eqb-true, not-false}
use Rattle.bx_q931.specs.declared.kind.Kind.{Kind}
use Rattle.bx_q931.specs.declared.kind.Kind.TheVariants.{Setup, CallProceeding, ReleaseComplete, StatusEnquiry, Status}
use Rattle.bx_q931.specs.declared.channel_field.ChannelField.{ChannelField}
use Rattle.bx_q931.specs.declared.channel_field.ChannelField.TheVariants.{Absent, Named, AnyChannel, Unread}
use Rattle.bx_q931.specs.Outgoing.{Outgoing}
use Rattle.bx_calls.specs.Said.{Said}
use Rattle.bx_calls.specs.Hearing.{Heard}
use Rattle.bx_calls.specs.declared.transition.Transition.{Transition}
use Rattle.bx_calls.specs.declared.transition.Next.{Next}
use Rattle.bx_calls.specs.declared.transition.Next.TheVariants.{Live}
use Rattle.bx_calls.specs.declared.unknown_reference.Side.{Side}
use Rattle.bx_calls.specs.PlainCalls.{PlainNetCall}
use Rattle.bx_calls.specs.NetTable.{net_flag, net_message}
use Rattle.bx_calls.specs.UnknownTable.{unknown_row, unknown_status}
use Rattle.bx_calls.specs.declared.unknown_reference.Side.TheVariants.{Network}
use Rattle.bx_day.specs.declared.entry.Activity.{Activity}
use Rattle.bx_day.specs.declared.entry.Entry.{Entry}
use Rattle.bx_day.specs.declared.entry.Moved.{Moved}
use Rattle.bx_day.specs.declared.entry.Standing.{Standing}
use Rattle.bx_day.specs.declared.entry.Standing.TheVariants.{Refused, OnCall}
use Rattle.bx_calls.specs.Shared.{bool_eq}
use Rattle.bx_day.specs.Day.{Day, entry_at, no_entry, every_channel}
use Rattle.bx_day.specs.Receipts.{names, names_call, hears, takes_call, takes_or, takes_preferred, called_on, called, stray, received_at, receive, with_moved, opens, lowest_open}
use Rattle.bx_day.specs.Moves.{follow}
use Rattle.bx_calls.specs.Sending.{Answered, unchanged, reply_list}
use Rattle.bx_day.specs.Invariant.{EntryFits, DayFits, is_refused}
use Rattle.bx_day.specs.Law.{standing_at}
use Rattle.bx_day.proofs.Indices.{position_next}
use Rattle.bx_day.proofs.Receive.{all_at, Passes, index_passes, OpenAt, open_parts, open_index, open_lowest}
use Rattle.bx_day.proofs.Said.{OfSaid}
use Rattle.bx_day.proofs.Sent.{heard_plain, is_plain}
use Rattle.bx_day.proofs.Tick.{by_cases, with_standing}
use Rattle.bx_two_ends.proofs.Delivery.{said_from}
use Rattle.bx_two_ends.proofs.NetworkRows.{shows_connected, heard_goes, heard_says, OfCall, Mild, clears_as}
use Rattle.bx_two_ends.proofs.History.{shows, from_beginner, from_other, is_setup_kind, sets_up, clears, has_more, has_none, none_all, IsIn, beginner_parts, is_from_other, not_both, listed, said_map, said_both}
use Rattle.bx_two_ends.proofs.Outward.{is_started, Seat, Seats, OutwardSent, OutwardSents, OutwardStanding, OutwardStandings}
use Rattle.bx_two_ends.proofs.ExchangeTicks.{sents_grow, goes_outward, follow_calm, follow_started, outward_own}
use Rattle.bx_two_ends.specs.TwoEndsInward.{is_connect_kind}

-- what an answer of the exchange leaves true
pub record ExchangeKeeps (assigned : List (Option ℕ)) (sent far_sent : List Outgoing) (x : Answered Day) : Type 0 where
  pub seats : Seats assigned x.day.entries
  pub sents : OutwardSents assigned x.day (sent ++ reply_list x.reply) (sent ++ reply_list x.reply)
  pub standings : OutwardStandings (sent ++ reply_list x.reply) far_sent x.day

-- a live outward call stands here
abbrev pub IsOutwardCall : Standing → Type 0
IsOutwardCall (OnCall call activity) = net_flag call.origin ≡ false
IsOutwardCall _ = ⊥

pub standing_grows : (r : ℕ) (sent more far_sent : List Outgoing) (s : Standing) → OutwardStanding r sent far_sent s → (IsOutwardCall s → list_any (clears r) more ≡ false) → OutwardStanding r (sent ++ more) far_sent s
standing_grows r sent more far_sent (OnCall c a) h calm = λ f. record {
  known = has_more (sets_up r) sent more (h f).known;
  calm = λ q. has_none (clears r) sent more ((h f).calm q) (calm f);
  active = (h f).active;
  proceeding = (h f).proceeding;
}
standing_grows r sent more far_sent s h calm = tt

-- a reply that is no SETUP, and is of a call of which a SETUP was sent
pub record Known (sent : List Outgoing) (o : Outgoing) : Type 0 where
  pub known : list_any (sets_up o.reference) sent ≡ true
  pub other : is_setup_kind o.kind ≡ false

known_sent : (assigned : List (Option ℕ)) (sent : List Outgoing) (after : Day) (reply : Option Outgoing) → OfSaid (λ o. o.flag ≡ false → Known sent o) reply → AllByRecursion (λ o. o.flag ≡ false → OutwardSent assigned after (sent ++ reply_list reply) o) (reply_list reply)
known_sent assigned sent after None h = tt
known_sent assigned sent after (Some o) h = (
  (λ f. record {
    known = has_more (sets_up o.reference) sent (o ∷ []) (h f).known;
    channel = λ k. absurd (false≢true (sym (h f).other ∙ ap is_setup_kind k));
    started = λ k. absurd (false≢true (sym (h f).other ∙ ap is_setup_kind k));
    in_service = λ k. absurd (false≢true (sym (h f).other ∙ ap is_setup_kind k));
  }),
  tt,
)

none_said : (r : ℕ) (reply : Option Outgoing) → OfSaid (λ o. clears r o ≡ false) reply → list_any (clears r) (reply_list reply) ≡ false
none_said r reply h = none_all (clears r) (reply_list reply) (listed (λ o. clears r o ≡ false) reply h)

-- ---- an answer that changes nothing

abbrev pub Stray : List Outgoing → Day → Outgoing → Type 0
Stray sent d o = o.flag ≡ false → Known sent o × ((i : ℕ) → o.reference ≡ suc i → IsOutwardCall (standing_at d i) → ⊥)

pub unchanged_keeps : (assigned : List (Option ℕ)) (sent far_sent : List Outgoing) (d : Day) (reply : Option Outgoing) → OfSaid (Stray sent d) reply → Seats assigned d.entries → OutwardSents assigned d sent sent → OutwardStandings sent far_sent d → ExchangeKeeps assigned sent far_sent (unchanged d reply)
unchanged_keeps assigned sent far_sent d reply stray seats sents standings = record {
  seats = seats;
  sents = sents_grow assigned sent (reply_list reply) d d (λ i h. h) sents (known_sent assigned sent d reply (said_map (Stray sent d) (λ o. o.flag ≡ false → Known sent o) (λ o p f. (p f).0) reply stray));
  standings = λ i. standing_grows (suc i) sent (reply_list reply) far_sent (standing_at d i) (standings i) (λ live.
      none_said (suc i) reply (said_map (Stray sent d) (λ o. clears (suc i) o ≡ false) (λ o p. not_both (from_beginner (suc i) o) (clears_as o.kind o.state) (λ n c.
      let q = beginner_parts (suc i) o n in (p q.1).1 i q.0 live)) reply stray));
}

-- ---- an answer that changes one booking

same_suc : (x y : ℕ) → suc x ≡ suc y → x ≡ y
same_suc x y h = omega (arith, h)

pub set_at : (P : Entry → Type 0) (es : List Entry) (i k : ℕ) (y : Entry) → (k ≡ i → P y) → P (entry_at es k) → P (entry_at (slice_set es i y) k)
set_at P (e ∷ es) zero zero y f p = f refl
set_at P (e ∷ es) (suc i) (suc k) y f p = set_at P es i k y (λ q. f (ap suc q)) p
set_at P es i k y f p = p

pub record OneMoved (sent far_sent : List Outgoing) (i : ℕ) (s : Standing) (m : Moved) : Type 0 where
  pub refused : is_refused m.standing ≡ false → is_refused s ≡ false
  pub started : is_started s ≡ true → is_started m.standing ≡ true
  pub said : OfSaid (λ o. o.flag ≡ false → (o.reference ≡ suc i) × Known sent o) m.said
  pub outward : OutwardStanding (suc i) (sent ++ reply_list m.said) far_sent m.standing

pub moved_keeps : (assigned : List (Option ℕ)) (sent far_sent : List Outgoing) (d : Day) (i : ℕ) (m : Moved) → OneMoved sent far_sent i (standing_at d i) m → Seats assigned d.entries → OutwardSents assigned d sent sent → OutwardStandings sent far_sent d → ExchangeKeeps assigned sent far_sent (with_moved d i m)
moved_keeps assigned sent far_sent d i m one seats sents standings =
    let y : Entry = with_standing (entry_at d.entries i) m.standing in
    record {
      seats = λ k. set_at (λ e. is_refused e.standing ≡ false → Seat assigned k e) d.entries i k y
          (λ q r. let p : Seat assigned k (entry_at d.entries i) = subst (λ n. Seat assigned n (entry_at d.entries i)) (sym q) (seats i (one.refused r)) in
          record { reference = p.reference; few = p.few; channel = p.channel; in_service = p.in_service; number = p.number }) (seats k);
      sents = sents_grow assigned sent (reply_list m.said) d (with_moved d i m).day
          (λ k h. set_at (λ e. is_started e.standing ≡ true) d.entries i k y (λ q. one.started (subst (λ n. is_started (standing_at d n) ≡ true) q h)) h) sents
          (known_sent assigned sent (with_moved d i m).day m.said (said_map (λ o. o.flag ≡ false → (o.reference ≡ suc i) × Known sent o) (λ o. o.flag ≡ false → Known sent o) (λ o p f. (p f).1) m.said one.said));
      standings = λ k. others k (eq k);
    }
  where
    eq : (k : ℕ) → (k ≡ i) ⊎ (k ≢ i)
    eq k = decide (k == i) refl
      where
        decide : (b : Bool) → (k == i) ≡ b → (k ≡ i) ⊎ (k ≢ i)
        decide true q = inl (eqb-true k i q)
        decide false q = inr (λ e. false≢true (sym q ∙ eq-eqb k i e))

    others : (k : ℕ) → (k ≡ i) ⊎ (k ≢ i) → OutwardStanding (suc k) (sent ++ reply_list m.said) far_sent (entry_at (slice_set d.entries i (with_standing (entry_at d.entries i) m.standing)) k).standing
    others k (inl q) = stay k q
      where
        stay : (k : ℕ) → k ≡ i → OutwardStanding (suc k) (sent ++ reply_list m.said) far_sent (entry_at (slice_set d.entries i (with_standing (entry_at d.entries i) m.standing)) k).standing
        stay k q = beyond d.entries i k q
          where
            beyond : (es : List Entry) (j n : ℕ) → n ≡ j → OutwardStanding (suc k) (sent ++ reply_list m.said) far_sent (entry_at (slice_set es j (with_standing (entry_at d.entries i) m.standing)) n).standing
            beyond [] j n e = tt
            beyond (e' ∷ es) zero zero e = subst (λ x. OutwardStanding (suc x) (sent ++ reply_list m.said) far_sent m.standing) (sym q) one.outward
            beyond (e' ∷ es) zero (suc n) e = absurd (omega (arith, e))
            beyond (e' ∷ es) (suc j) zero e = absurd (omega (arith, e))
            beyond (e' ∷ es) (suc j) (suc n) e = beyond es j n (same_suc n j e)
    others k (inr ne) = set_at (λ e. OutwardStanding (suc k) (sent ++ reply_list m.said) far_sent e.standing) d.entries i k (with_standing (entry_at d.entries i) m.standing) (λ q. absurd (ne q))
        (standing_grows (suc k) sent (reply_list m.said) far_sent (standing_at d k) (standings k) (λ live.
        none_said (suc k) m.said (said_map (λ o. o.flag ≡ false → (o.reference ≡ suc i) × Known sent o) (λ o. clears (suc k) o ≡ false) (λ o p. not_both (from_beginner (suc k) o) (clears_as o.kind o.state) (λ n c.
        let q = beginner_parts (suc k) o n in ne (same_suc k i (sym q.0 ∙ (p q.1).0)))) m.said one.said)))

-- ---- a live booking hears a message

flags_meet : (a f : Bool) → bool_eq a (not f) ≡ true → a ≡ false → f ≡ true
flags_meet true f h q = absurd (true≢false q)
flags_meet false true h q = refl
flags_meet false false h q = absurd (false≢true h)

not_setup : (k : Kind) → is_plain k ≡ true → is_setup_kind k ≡ false
not_setup Setup h = absurd (false≢true h)
not_setup CallProceeding h = refl
not_setup k h = refl

follow_eq : (a : Activity) (t : ℕ) (said : Option Outgoing) (n : Next PlainNetCall) → (follow a t said n).said ≡ said
follow_eq a t said (Live c) = refl
follow_eq a t said n = refl

heard_one : (assigned : List (Option ℕ)) (sent far_sent : List Outgoing) (t i : ℕ) (o : Outgoing) (e : Entry) (s : Standing) → names_call (said_from o) s ≡ true → (is_refused s ≡ false → Seat assigned i e) → EntryFits t (with_standing e s) → OutwardStanding (suc i) sent far_sent s → IsIn far_sent o
    → OneMoved sent far_sent i s (hears (said_from o) t s)
heard_one assigned sent far_sent t i o e (OnCall c a) named seat fits outward is_in =
    let step : Transition PlainNetCall = net_message c (said_from o).heard t in
    let p = and_parts (c.reference == o.reference) (bool_eq (net_flag c.origin) (not o.flag)) named in
    let row : net_flag c.origin ≡ false → c.reference ≡ suc i = λ f. outward_own e.reference e.booking c.reference c.origin fits.origin f ∙ (seat refl).reference in
    let said : OfSaid (λ x. x.flag ≡ false → (x.reference ≡ suc i) × Known sent x) step.reply = said_both (OfCall c.reference c.origin) (λ x. is_plain x.kind ≡ true) (λ x. x.flag ≡ false → (x.reference ≡ suc i) × Known sent x)
    (λ x k q f. let g : net_flag c.origin ≡ false = sym k.1 ∙ f in let r : x.reference ≡ suc i = k.0 ∙ row g in
    (r, record { known = subst (λ n. list_any (sets_up n) sent ≡ true) (sym r) (outward g).known; other = not_setup x.kind q }))
    step.reply
    (heard_says c.reference c.channel c.origin t (said_from o).heard c.state o.kind)
    (heard_plain c.reference c.channel c.origin t (said_from o).heard c.state o.kind) in
    record {
      refused = λ _. refl;
      started = λ _. follow_started a t step.reply step.next;
      said = subst (OfSaid (λ x. x.flag ≡ false → (x.reference ≡ suc i) × Known sent x)) (sym (follow_eq a t step.reply step.next)) said;
      outward = goes_outward i sent (reply_list (follow a t step.reply step.next).said) far_sent c (shows_connected o.kind o.state) a t step.reply step.reply step.next
          (heard_goes c.reference c.channel c.origin t (said_from o).heard c.state o.kind) outward
          (λ f k. is_in (shows (suc i)) (and_from (from_other (suc i) o) (shows_connected o.kind o.state) (is_from_other (suc i) o (sym (eqb-true c.reference o.reference p.0) ∙ row f) (flags_meet (net_flag c.origin) o.flag p.1 f)) k))
          (λ q f. none_said (suc i) (follow a t step.reply step.next).said (subst (OfSaid (λ x. clears (suc i) x ≡ false)) (sym (follow_eq a t step.reply step.next))
          (said_map Mild (λ x. clears (suc i) x ≡ false) (λ x mild. not_both (from_beginner (suc i) x) (clears_as x.kind x.state) (λ n c'. false≢true (sym mild ∙ c'))) step.reply
          (follow_calm c.reference c.channel c.origin c.state (shows_connected o.kind o.state) a t step.reply step.reply step.next (heard_goes c.reference c.channel c.origin t (said_from o).heard c.state o.kind) q))));
    }
heard_one assigned sent far_sent t i o e Refused named seat fits outward is_in = absurd (false≢true named)
heard_one assigned sent far_sent t i o e s named seat fits outward is_in = absurd (false≢true named)

-- ---- a message that names no live booking

-- the reply to it has its reference and the other flag
pub record Unknown (r : ℕ) (f : Bool) (o : Outgoing) : Type 0 where
  pub reference : o.reference ≡ r
  pub flag : o.flag ≡ f
  pub other : is_setup_kind o.kind ≡ false
  pub no_connect : is_connect_kind o.kind ≡ false
  pub unshown : shows_connected o.kind o.state ≡ false

status_says : (side : Side) (r : ℕ) (f : Bool) (state : Option ℕ) → OfSaid (Unknown r f) (unknown_status side r f state)
status_says side r f None = tt
status_says side r f (Some state) = by_cases (state == 0) _ _ (λ (o : Option Outgoing). OfSaid (Unknown r f) o) (λ _. tt) (λ _. record { reference = refl; flag = refl; other = refl; no_connect = refl; unshown = refl })

pub unknown_says : (side : Side) (r : ℕ) (f : Bool) (m : Heard) (k : Kind) → OfSaid (Unknown r f) (unknown_row side r f m k)
unknown_says side r f m ReleaseComplete = tt
unknown_says side r f m Status = status_says side r f m.state
unknown_says side r f m Setup = tt
unknown_says side r f m StatusEnquiry = record { reference = refl; flag = refl; other = refl; no_connect = refl; unshown = refl }
unknown_says side r f m k = record { reference = refl; flag = refl; other = refl; no_connect = refl; unshown = refl }

index_none : (test : Entry → Bool) → test no_entry ≡ false → (es : List Entry) → position test es ≡ None → (j : ℕ) → test (entry_at es j) ≡ false
index_none test n [] q j = n
index_none test n (e ∷ es) q j = decide (test e) refl (sym (position_next test e es) ∙ q) j (λ h k. index_none test n es h k)
  where
    more : (o : Option ℕ) → option_map suc o ≡ None → o ≡ None
    more None h = refl
    more (Some x) h = absurd (true≢false (ap is_some h))

    decide : (b : Bool) → test e ≡ b → (if b then Some 0 else option_map suc (position test es)) ≡ None → (j : ℕ) → (position test es ≡ None → (k : ℕ) → test (entry_at es k) ≡ false) → test (entry_at (e ∷ es) j) ≡ false
    decide true p h j f = absurd (true≢false (ap is_some h))
    decide false p h zero f = p
    decide false p h (suc k) f = f (more (position test es) h) k

-- a live outward call is named by its row
outward_named : (assigned : List (Option ℕ)) (t i : ℕ) (m : Said) (e : Entry) (s : Standing) → IsOutwardCall s → (is_refused s ≡ false → Seat assigned i e) → EntryFits t (with_standing e s) → m.reference ≡ suc i → m.flag ≡ true → names_call m s ≡ true
outward_named assigned t i m e (OnCall c a) live seat fits r f =
    and_from (c.reference == m.reference) (bool_eq (net_flag c.origin) (not m.flag)) (eq-eqb c.reference m.reference (outward_own e.reference e.booking c.reference c.origin fits.origin live ∙ (seat refl).reference ∙ sym r))
    (meet (net_flag c.origin) m.flag live f)
  where
    meet : (a b : Bool) → a ≡ false → b ≡ true → bool_eq a (not b) ≡ true
    meet false true p q = refl
    meet false false p q = absurd (false≢true q)
    meet true b p q = absurd (true≢false p)
outward_named assigned t i m e Refused live seat fits r f = absurd live
outward_named assigned t i m e s live seat fits r f = absurd live

-- what is needed of the world
pub record Before (assigned : List (Option ℕ)) (sent far_sent : List Outgoing) (d : Day) : Type 0 where
  pub fits : DayFits d
  pub seats : Seats assigned d.entries
  pub sents : OutwardSents assigned d sent sent
  pub standings : OutwardStandings sent far_sent d

unknown_stray : (assigned : List (Option ℕ)) (sent far_sent : List Outgoing) (d : Day) (o : Outgoing) (k : Kind) → Before assigned sent far_sent d → position (names (said_from o)) d.entries ≡ None → (o.flag ≡ true → list_any (sets_up o.reference) sent ≡ true)
    → OfSaid (Stray sent d) (unknown_row Network o.reference (not o.flag) (said_from o).heard k)
unknown_stray assigned sent far_sent d o k b none known =
    said_map (Unknown o.reference (not o.flag)) (Stray sent d) (λ x u f.
    let flag : o.flag ≡ true = not-false o.flag (sym u.flag ∙ f) in (
      record { known = subst (λ n. list_any (sets_up n) sent ≡ true) (sym u.reference) (known flag); other = u.other },
      (λ i r live. false≢true (sym (index_none (names (said_from o)) refl d.entries none i)
          ∙ outward_named assigned d.moment i (said_from o) (entry_at d.entries i) (standing_at d i) live (b.seats i) (all_at (EntryFits d.moment) tt d.entries i b.fits.each) (sym u.reference ∙ r) flag)),
    ))
    (unknown_row Network o.reference (not o.flag) (said_from o).heard k) (unknown_says Network o.reference (not o.flag) (said_from o).heard k)

silent_keeps : (assigned : List (Option ℕ)) (sent far_sent : List Outgoing) (d : Day) (reply : Option Outgoing) → Before assigned sent far_sent d → OfSaid (λ o. o.flag ≡ true) reply → ExchangeKeeps assigned sent far_sent (unchanged d reply)
silent_keeps assigned sent far_sent d reply b h = unchanged_keeps assigned sent far_sent d reply (said_map (λ o. o.flag ≡ true) (Stray sent d) (λ o p f. absurd (true≢false (sym p ∙ f))) reply h) b.seats b.sents b.standings

takes_keeps : (assigned : List (Option ℕ)) (sent far_sent : List Outgoing) (d : Day) (m : Said) (cause : ℕ) (x : Option ℕ) → Before assigned sent far_sent d → OpenAt d x → ExchangeKeeps assigned sent far_sent (takes_or d m cause x)
takes_keeps assigned sent far_sent d m cause None b opened = silent_keeps assigned sent far_sent d _ b refl
takes_keeps assigned sent far_sent d m cause (Some i) b opened = moved_keeps assigned sent far_sent d i (takes_call m (entry_at d.entries i)) (record {
  refused = λ _. (open_parts d (entry_at d.entries i) opened).accepted;
  started = λ _. refl;
  said = λ f. absurd (true≢false f);
  outward = λ f. absurd (true≢false f);
}) b.seats b.sents b.standings

on_keeps : (assigned : List (Option ℕ)) (sent far_sent : List Outgoing) (d : Day) (m : Said) (f : ChannelField) → Before assigned sent far_sent d → ExchangeKeeps assigned sent far_sent (called_on d m f)
on_keeps assigned sent far_sent d m Absent b = takes_keeps assigned sent far_sent d m 34 (lowest_open d every_channel) b (open_lowest d every_channel)
on_keeps assigned sent far_sent d m AnyChannel b = takes_keeps assigned sent far_sent d m 34 (lowest_open d every_channel) b (open_lowest d every_channel)
on_keeps assigned sent far_sent d m Unread b = silent_keeps assigned sent far_sent d _ b refl
on_keeps assigned sent far_sent d m (Named c true) b = takes_keeps assigned sent far_sent d m 44 (position (opens d c) d.entries) b (open_index d c)
on_keeps assigned sent far_sent d m (Named c false) b = preferred (position (opens d c) d.entries) (open_index d c)
  where
    preferred : (x : Option ℕ) → OpenAt d x → ExchangeKeeps assigned sent far_sent (takes_preferred d m x)
    preferred None opened = takes_keeps assigned sent far_sent d m 34 (lowest_open d every_channel) b (open_lowest d every_channel)
    preferred (Some i) opened = takes_keeps assigned sent far_sent d m 34 (Some i) b opened

called_keeps : (assigned : List (Option ℕ)) (sent far_sent : List Outgoing) (d : Day) (m : Said) (cause : Option ℕ) → Before assigned sent far_sent d → ExchangeKeeps assigned sent far_sent (called d m cause)
called_keeps assigned sent far_sent d m (Some cause) b = silent_keeps assigned sent far_sent d _ b refl
called_keeps assigned sent far_sent d m None b = on_keeps assigned sent far_sent d m m.heard.channel b

stray_keeps : (assigned : List (Option ℕ)) (sent far_sent : List Outgoing) (d : Day) (o : Outgoing) (k : Kind) → Before assigned sent far_sent d → position (names (said_from o)) d.entries ≡ None → (o.flag ≡ true → list_any (sets_up o.reference) sent ≡ true) → ExchangeKeeps assigned sent far_sent (stray d (said_from o) k)
stray_keeps assigned sent far_sent d o Setup b none known = by_cases o.flag _ _ (ExchangeKeeps assigned sent far_sent) (λ _. silent_keeps assigned sent far_sent d None b tt) (λ _. called_keeps assigned sent far_sent d (said_from o) (said_from o).refused b)
stray_keeps assigned sent far_sent d o k b none known = unchanged_keeps assigned sent far_sent d _ (unknown_stray assigned sent far_sent d o k b none known) b.seats b.sents b.standings

received_keeps : (assigned : List (Option ℕ)) (sent far_sent : List Outgoing) (d : Day) (o : Outgoing) (x : Option ℕ) → Before assigned sent far_sent d → position (names (said_from o)) d.entries ≡ x → (o.flag ≡ true → list_any (sets_up o.reference) sent ≡ true) → IsIn far_sent o → ExchangeKeeps assigned sent far_sent (received_at d (said_from o) x)
received_keeps assigned sent far_sent d o None b q known is_in = stray_keeps assigned sent far_sent d o o.kind b q known
received_keeps assigned sent far_sent d o (Some i) b q known is_in =
    let e = entry_at d.entries i in
    let named : names_call (said_from o) e.standing ≡ true = subst (Passes (names (said_from o)) d.entries) q (index_passes (names (said_from o)) d.entries) in
    moved_keeps assigned sent far_sent d i (hears (said_from o) d.moment e.standing)
    (heard_one assigned sent far_sent d.moment i o e e.standing named (b.seats i) (all_at (EntryFits d.moment) tt d.entries i b.fits.each) (b.standings i) is_in)
    b.seats b.sents b.standings

pub receive_keeps : (assigned : List (Option ℕ)) (sent far_sent : List Outgoing) (d : Day) (o : Outgoing) → Before assigned sent far_sent d → (o.flag ≡ true → list_any (sets_up o.reference) sent ≡ true) → IsIn far_sent o → ExchangeKeeps assigned sent far_sent (receive d (said_from o))
receive_keeps assigned sent far_sent d o b known is_in = received_keeps assigned sent far_sent d o (position (names (said_from o)) d.entries) b refl known is_in
