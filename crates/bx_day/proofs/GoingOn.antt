-- A booking that goes on in the next day: what becomes of it there.
use Rattle.bx_events.specs.declared.rules.Rules.TheVariants.{Three}
use Rattle.bx_events.specs.declared.rules.Rules.{Rules}
use Rattle.std.proofs.Common.{◌≡◌, ℕ, ◌+◌, ◌-◌, ◌≤◌, ◌<◌, ◌&&◌, ◌⊎◌, not, Bool, true, false, List, Option, Some, None, arith, refl, sym, subst, ap, ap₂, ◌∙◌, inl, inr, nat_le, nat_lt, is_some, unwrap_or, min, if◌then◌else◌}
use Rattle.std.proofs.lemmas.Bool.{leb-true, le-leb, ltb-true, lt-ltb, false≢true}
use Rattle.bx_q931.specs.Outgoing.{Outgoing}
use Rattle.bx_calls.specs.PlainCalls.{PlainNetCall}
use Rattle.bx_calls.specs.Said.{Said}
use Rattle.bx_calls.specs.Saying.{setup_of}
use Rattle.bx_calls.specs.Hearing.{Heard, reports_null}
use Rattle.bx_calls.specs.declared.times.Times.{Times}
use Rattle.bx_calls.specs.declared.times.Times.TheVariants.{NotYet, Once, Twice}
use Rattle.bx_q931.specs.declared.kind.Kind.{Kind}
use Rattle.bx_q931.specs.declared.kind.Kind.TheVariants.{Setup, Disconnect, Release, ReleaseComplete, StatusEnquiry, Status}
use Rattle.bx_day.proofs.Tick.{by_cases, offers}
use Rattle.bx_calls.specs.NetTable.{net_second, net_unlinked, net_message, net_offered, net_is_clearing, first_offer, net_timer, net_release_due, net_lost, net_later, net_row, net_heard, net_disconnects, net_to}
use Rattle.bx_calls.specs.Shifting.{state_earlier, earlier_by, state_later, step_later, IsDueFrom}
use Rattle.bx_calls.specs.declared.transition.Transition.{Transition}
use Rattle.bx_calls.specs.declared.transition.Next.{Next}
use Rattle.bx_calls.specs.declared.transition.Next.TheVariants.{Live, Over, Broken}
use Rattle.bx_calls.specs.declared.net_state.NetState.{NetState}
use Rattle.bx_calls.specs.declared.net_state.NetState.TheVariants.{OutgoingCallProceeding, CallPresent, IncomingCallProceeding, CallReceived, Active, Enquiring, DisconnectIndication, ReleaseRequest}
use Rattle.bx_calls.proofs.Shifted.{le_later, told_back, second_later, unlinked_later, message_later, end_unasked}
use Rattle.bx_day.specs.declared.entry.Activity.{Activity}
use Rattle.bx_day.specs.declared.entry.Activity.TheVariants.{Never, Since, Was}
use Rattle.bx_day.specs.declared.entry.Entry.{Entry}
use Rattle.bx_day.specs.declared.entry.Link.{Link}
use Rattle.bx_day.specs.declared.entry.Link.TheVariants.{Up, Down}
use Rattle.bx_day.specs.declared.entry.Moved.{Moved}
use Rattle.bx_day.specs.declared.entry.Standing.{Standing}
use Rattle.bx_day.specs.declared.entry.Standing.TheVariants.{Refused, Unoffered, OnCall, Carried, Unanswered, Missed}
use Rattle.bx_day.specs.Handing.{activity_over, standing_over, moved_over, is_cleared, IsTimedFrom, LivesOn}
use Rattle.bx_day.specs.Moves.{becomes, stays, is_active, activity_after, over_at, follow, follows}
use Rattle.bx_day.specs.Receipts.{hears, names_call}
use Rattle.bx_day.specs.Ticks.{waits, second_by}

back_to : (m t : ℕ) → (m + t) - t ≡ m
back_to m t = omega arith

is_same : (a b : Bool) → (a ≡ true → b ≡ true) → (b ≡ true → a ≡ true) → a ≡ b
is_same true b f g = sym (f refl)
is_same false true f g = g refl
is_same false false f g = refl

-- ---- a call, told later and earlier

state_there : (t : ℕ) (s : NetState) → state_earlier t (state_later t s) ≡ s
state_there t OutgoingCallProceeding = refl
state_there t (CallPresent offer due) = ap (λ x. CallPresent offer x) (back_to due t)
state_there t (IncomingCallProceeding due) = ap (λ x. IncomingCallProceeding x) (back_to due t)
state_there t (CallReceived due) = ap (λ x. CallReceived x) (back_to due t)
state_there t Active = refl
state_there t (Enquiring asked due) = ap (λ x. Enquiring asked x) (back_to due t)
state_there t (DisconnectIndication cause due) = ap (λ x. DisconnectIndication cause x) (back_to due t)
state_there t (ReleaseRequest sent cause due) = ap (λ x. ReleaseRequest sent cause x) (back_to due t)

active_later : (t : ℕ) (s : NetState) → is_active (state_later t s) ≡ is_active s
active_later t OutgoingCallProceeding = refl
active_later t (CallPresent offer due) = refl
active_later t (IncomingCallProceeding due) = refl
active_later t (CallReceived due) = refl
active_later t Active = refl
active_later t (Enquiring asked due) = refl
active_later t (DisconnectIndication cause due) = refl
active_later t (ReleaseRequest sent cause due) = refl

clearing_earlier : (t : ℕ) (s : NetState) → net_is_clearing (state_earlier t s) ≡ net_is_clearing s
clearing_earlier t OutgoingCallProceeding = refl
clearing_earlier t (CallPresent offer due) = refl
clearing_earlier t (IncomingCallProceeding due) = refl
clearing_earlier t (CallReceived due) = refl
clearing_earlier t Active = refl
clearing_earlier t (Enquiring asked due) = refl
clearing_earlier t (DisconnectIndication cause due) = refl
clearing_earlier t (ReleaseRequest sent cause due) = refl

activity_goes : (t m : ℕ) (a : Activity) (b : Bool) → activity_over t (activity_after a b (m + t)) ≡ activity_after (activity_over t a) b m
activity_goes t m Never true = ap (λ x. Since x) (back_to m t)
activity_goes t m Never false = refl
activity_goes t m (Since from) true = refl
activity_goes t m (Since from) false = ap (λ x. Was (from - t) x) (back_to m t)
activity_goes t m (Was from until) b = refl

over_goes : (t m : ℕ) (a : Activity) → standing_over t (over_at a (m + t)) ≡ over_at (activity_over t a) m
over_goes t m Never = refl
over_goes t m (Since from) = ap (λ x. Carried (from - t) x) (back_to m t)
over_goes t m (Was from until) = refl

-- a step of the call, which is told later in the day before
next_goes : (t m : ℕ) (a : Activity) (said : Option Outgoing) (x : Next PlainNetCall) → follow (activity_over t a) m said x ≡ moved_over t (follow a (m + t) said (step_later t (record { next = x; reply = said })).next)
next_goes t m a said (Live c) =
    sym (ap₂ (λ (k : PlainNetCall) y. becomes (OnCall k y) said) (ap (λ s. record c { state = s }) (state_there t c.state)) (ap (λ b. activity_over t (activity_after a b (m + t))) (active_later t c.state) ∙ activity_goes t m a (is_active c.state)))
next_goes t m a said Over = sym (ap (λ s. becomes s said) (over_goes t m a))
next_goes t m a said Broken = sym (ap (λ s. record { standing = s; said = said; broken = true }) (over_goes t m a))

step_goes : (t m : ℕ) (a : Activity) (old new : Transition PlainNetCall) → old ≡ step_later t new → follows (activity_over t a) m new ≡ moved_over t (follows a (m + t) old)
step_goes t m a old new is = next_goes t m a new.reply new.next ∙ sym (ap (λ x. moved_over t (follows a (m + t) x)) is)

-- ---- a call of both days

second_is : (t m end end' : ℕ) (c : PlainNetCall) → IsDueFrom t c.state → (net_is_clearing c.state ≡ true) ⊎ (end ≡ end' + t) → net_second c (m + t) end ≡ step_later t (net_second (earlier_by t c) m end')
second_is t m end end' c due h =
    elim h [
      | inl clears ↦ (end_unasked Three 1 (m + t) end (end' + t) c clears).0
      | inr same ↦ ap (net_second c (m + t)) same
    ]
    ∙ ap (λ k. net_second k (m + t) (end' + t)) (sym (told_back t c due)) ∙ second_later t m end' (earlier_by t c)

unlinked_is : (rules : Rules) (t m end end' : ℕ) (c : PlainNetCall) → IsDueFrom t c.state → (net_is_clearing c.state ≡ true) ⊎ (end ≡ end' + t) → net_unlinked rules 1 c (m + t) end ≡ step_later t (net_unlinked rules 1 (earlier_by t c) m end')
unlinked_is rules t m end end' c due h =
    elim h [
      | inl clears ↦ (end_unasked rules 1 (m + t) end (end' + t) c clears).1
      | inr same ↦ ap (net_unlinked rules 1 c (m + t)) same
    ]
    ∙ ap (λ k. net_unlinked rules 1 k (m + t) (end' + t)) (sym (told_back t c due)) ∙ unlinked_later rules t 1 m end' (earlier_by t c)

-- ---- a booking that waits

start_goes : (t m start : ℕ) → nat_le (start - t) m ≡ nat_le start (m + t)
start_goes t m start = is_same (nat_le (start - t) m) (nat_le start (m + t))
    (λ h. (let le : start - t ≤ m = leb-true (start - t) m h in le-leb start (m + t) (omega (arith, le))))
    (λ h. (let le : start ≤ m + t = leb-true start (m + t) h in le-leb (start - t) m (omega (arith, le))))

end_goes : (t m end : ℕ) → nat_lt m end ≡ nat_lt (m + t) (end + t)
end_goes t m end = is_same (nat_lt m end) (nat_lt (m + t) (end + t))
    (λ h. (let lt : m < end = ltb-true m end h in lt-ltb (m + t) (end + t) (omega (arith, lt))))
    (λ h. (let lt : m + t < end + t = ltb-true (m + t) (end + t) h in lt-ltb m end (omega (arith, lt))))

either : (t : ℕ) (b : Bool) (x y x' y' : Moved) → x ≡ moved_over t x' → y ≡ moved_over t y' → (if b then x else y) ≡ moved_over t (if b then x' else y')
either t true x y x' y' p q = p
either t false x y x' y' p q = q

offered_goes : (t m r c : ℕ) (number : List ℕ) (back : Bool) → becomes (OnCall (net_offered r c number back m) Never) (Some (setup_of r c number)) ≡ moved_over t (becomes (OnCall (net_offered r c number back (m + t)) Never) (Some (setup_of r c number)))
offered_goes t m r c number back = ap (λ (s : NetState). becomes (OnCall (record (net_offered r c number back m) { state = s }) Never) (Some (setup_of r c number))) (sym (first_goes t m back))
  where
    first_goes : (t m : ℕ) (back : Bool) → state_earlier t (net_offered r c number back (m + t)).state ≡ (net_offered r c number back m).state
    first_goes t m back = ap (λ x. CallPresent (first_offer back) x) (let q : (m + t + 4) - t ≡ m + 4 = omega arith in q)

abbrev waits_parts : ℕ → ℕ → ℕ → Bool → List ℕ → ℕ → ℕ → Bool → Bool → Moved
waits_parts start end r inward number channel t back free =
    if (nat_le start t && nat_lt t end) && not inward && free
    then becomes (OnCall (net_offered r channel number back t) Never) (Some (setup_of r channel number))
    else if nat_le end t then stays Missed else stays Unoffered

parts_go : (t m start' start end r : ℕ) (inward : Bool) (number : List ℕ) (channel : ℕ) (back free : Bool) → nat_le start' m ≡ nat_le start (m + t) → waits_parts start' end r inward number channel m back free ≡ moved_over t (waits_parts start (end + t) r inward number channel (m + t) back free)
parts_go t m start' start end r inward number channel back free same =
    ap₂ (λ a b. if (a && b) && not inward && free then becomes (OnCall (net_offered r channel number back m) Never) (Some (setup_of r channel number)) else if nat_le end m then stays Missed else stays Unoffered) same (end_goes t m end)
    ∙ ap (λ b. if (nat_le start (m + t) && nat_lt (m + t) (end + t)) && not inward && free then becomes (OnCall (net_offered r channel number back m) Never) (Some (setup_of r channel number)) else if b then stays Missed else stays Unoffered) (sym (le_later end m t))
    ∙ either t ((nat_le start (m + t) && nat_lt (m + t) (end + t)) && not inward && free) _ _ (becomes (OnCall (net_offered r channel number back (m + t)) Never) (Some (setup_of r channel number))) (if nat_le (end + t) (m + t) then stays Missed else stays Unoffered)
    (offered_goes t m r channel number back) (either t (nat_le (end + t) (m + t)) _ _ (stays Missed) (stays Unoffered) refl refl)

starts_go : (t m start' start : ℕ) → 1 ≤ m → (start' ≡ start - t) ⊎ ((start' ≡ 1) × (start ≤ t)) → nat_le start' m ≡ nat_le start (m + t)
starts_go t m start' start one (inl whole) = ap (λ x. nat_le x m) whole ∙ start_goes t m start
starts_go t m start' start one (inr later) = (let a = later.0 in let b = later.1 in le-leb start' m (omega (arith, a, one)) ∙ sym (le-leb start (m + t) (omega (arith, b))))

waits_go : (t m : ℕ) (e n : Entry) (back free : Bool) → 1 ≤ m → LivesOn t e n Unoffered → waits n m back free ≡ moved_over t (waits e (m + t) back free)
waits_go t m e n back free one h =
    let ends : e.booking.end ≡ n.booking.end + t = elim h.end [ inl never ↦ absurd (false≢true never) | inr same ↦ same ] in
    ap (λ x. waits_parts n.booking.start n.booking.end x n.booking.inward n.booking.number n.channel m back free) h.reference
    ∙ ap (λ x. waits_parts n.booking.start n.booking.end e.reference x n.booking.number n.channel m back free) h.inward
    ∙ ap (λ x. waits_parts n.booking.start n.booking.end e.reference e.booking.inward x n.channel m back free) h.number
    ∙ ap (λ x. waits_parts n.booking.start n.booking.end e.reference e.booking.inward e.booking.number x m back free) h.channel
    ∙ parts_go t m n.booking.start e.booking.start n.booking.end e.reference e.booking.inward e.booking.number e.channel back free (starts_go t m n.booking.start e.booking.start one h.start)
    ∙ ap (λ x. moved_over t (waits_parts e.booking.start x e.reference e.booking.inward e.booking.number e.channel (m + t) back free)) (sym ends)

-- ---- what becomes of it

pub seconds_go : (t m : ℕ) (e n : Entry) (s : Standing) (link : Link) (back free : Bool) → 1 ≤ m → LivesOn t e n s → second_by link n m back free (standing_over t s) ≡ moved_over t (second_by link e (m + t) back free s)
seconds_go t m e n (OnCall c a) Up back free one h = step_goes t m a (net_second c (m + t) e.booking.end) (net_second (earlier_by t c) m n.booking.end) (second_is t m e.booking.end n.booking.end c h.timed h.end)
seconds_go t m e n (OnCall c a) (Down rules) back free one h = step_goes t m a (net_unlinked rules 1 c (m + t) e.booking.end) (net_unlinked rules 1 (earlier_by t c) m n.booking.end) (unlinked_is rules t m e.booking.end n.booking.end c h.timed h.end)
seconds_go t m e n Unoffered Up back free one h = waits_go t m e n back free one h
seconds_go t m e n Unoffered (Down rules) back free one h = waits_go t m e n false false one h
seconds_go t m e n s Up back free one h = refl
seconds_go t m e n s (Down rules) back free one h = refl

pub messages_go : (t m : ℕ) (e n : Entry) (s : Standing) (said : Said) → LivesOn t e n s → (hears said m (standing_over t s) ≡ moved_over t (hears said (m + t) s)) × (names_call said (standing_over t s) ≡ names_call said s)
messages_go t m e n (OnCall c a) said h = (step_goes t m a (net_message c said.heard (m + t)) (net_message (earlier_by t c) said.heard m) (ap (λ k. net_message k said.heard (m + t)) (sym (told_back t c h.timed)) ∙ message_later t m (earlier_by t c) said.heard), refl)
messages_go t m e n s said h = (refl, refl)

-- ---- it goes on as such

some_same : (x y : ℕ) → Some x ≡ Some y → x ≡ y
some_same x y is = ap (λ (o : Option ℕ). unwrap_or o 0) is

from_some : (t d due : ℕ) → Some (d + t) ≡ Some due → t ≤ due
from_some t d due is = let q : d + t ≡ due = some_same (d + t) due is in omega (arith, q)

later_due : (t : ℕ) (s : NetState) → IsDueFrom t (state_later t s)
later_due t OutgoingCallProceeding due is = absurd (false≢true (ap is_some is))
later_due t (CallPresent offer d) due is = from_some t d due is
later_due t (IncomingCallProceeding d) due is = from_some t d due is
later_due t (CallReceived d) due is = from_some t d due is
later_due t Active due is = absurd (false≢true (ap is_some is))
later_due t (Enquiring asked d) due is = from_some t d due is
later_due t (DisconnectIndication cause d) due is = from_some t d due is
later_due t (ReleaseRequest sent cause d) due is = from_some t d due is

step_timed : (t u : ℕ) (a : Activity) (said : Option Outgoing) (x : Next PlainNetCall) → IsTimedFrom t (follow a u said (step_later t (record { next = x; reply = said })).next).standing
step_timed t u a said (Live c) = later_due t c.state
step_timed t u Never said Over = tt
step_timed t u (Since from) said Over = tt
step_timed t u (Was from until) said Over = tt
step_timed t u Never said Broken = tt
step_timed t u (Since from) said Broken = tt
step_timed t u (Was from until) said Broken = tt

-- a step of a call after which it is being cleared, or is over
abbrev ClearsOn : Next PlainNetCall → Type 0
ClearsOn (Live c) = net_is_clearing c.state ≡ true
ClearsOn _ = Unit {0}

either_clears : (b : Bool) (x y : Transition PlainNetCall) → ClearsOn x.next → ClearsOn y.next → ClearsOn (if b then x else y).next
either_clears true x y p q = p
either_clears false x y p q = q

due_clears : (c : PlainNetCall) (t : ℕ) (sent : Times) (cause : Option ℕ) → ClearsOn (net_release_due c t sent cause).next
due_clears c t NotYet cause = refl
due_clears c t Once cause = refl
due_clears c t Twice cause = tt

timer_clears : (c : PlainNetCall) (t : ℕ) (s : NetState) → net_is_clearing c.state ≡ true → net_is_clearing s ≡ true → ClearsOn (net_timer c t s).next
timer_clears c t (DisconnectIndication cause due) h k = either_clears (nat_le due t) _ _ refl h
timer_clears c t (ReleaseRequest sent cause due) h k = either_clears (nat_le due t) _ _ (due_clears c t sent cause) h
timer_clears c t s h k = absurd (false≢true k)

second_clears : (c : PlainNetCall) (t end : ℕ) → net_is_clearing c.state ≡ true → ClearsOn (net_second c t end).next
second_clears c t end h = subst (λ b. ClearsOn (if not b && nat_le end t then net_disconnects c 16 t else net_timer c t c.state).next) (sym h) (timer_clears c t c.state h h)

lost_clears : (rules : Rules) (k t : ℕ) (s : NetState) → net_is_clearing s ≡ true → net_is_clearing (net_lost rules k t s) ≡ true
lost_clears rules k t (DisconnectIndication cause due) h = refl
lost_clears rules k t (ReleaseRequest sent cause due) h = refl
lost_clears rules k t s h = absurd (false≢true h)

unlinked_clears : (rules : Rules) (c : PlainNetCall) (t end : ℕ) → net_is_clearing c.state ≡ true → ClearsOn (net_unlinked rules 1 c t end).next
unlinked_clears rules c t end h = subst (λ b. ClearsOn (if not b && nat_le end t then net_to c None (DisconnectIndication 16 (t + 1)) else net_to c None (net_later rules 1 t c.state)).next) (sym h) (lost_clears rules 1 t c.state h)

row_clears : (c : PlainNetCall) (m : Heard) (t : ℕ) (s : NetState) (k : Kind) → net_is_clearing s ≡ true → ClearsOn (net_row (record c { state = s }) m t s k).next
row_clears c m t (DisconnectIndication cause due) ReleaseComplete h = tt
row_clears c m t (DisconnectIndication cause due) StatusEnquiry h = refl
row_clears c m t (DisconnectIndication cause due) Status h = either_clears (reports_null m.state) _ _ tt refl
row_clears c m t (DisconnectIndication cause due) Setup h = refl
row_clears c m t (DisconnectIndication cause due) Release h = tt
row_clears c m t (DisconnectIndication cause due) Disconnect h = refl
row_clears c m t (DisconnectIndication cause due) k h = refl
row_clears c m t (ReleaseRequest sent cause due) ReleaseComplete h = tt
row_clears c m t (ReleaseRequest sent cause due) StatusEnquiry h = refl
row_clears c m t (ReleaseRequest sent cause due) Status h = either_clears (reports_null m.state) _ _ tt refl
row_clears c m t (ReleaseRequest sent cause due) Setup h = refl
row_clears c m t (ReleaseRequest sent cause due) Release h = tt
row_clears c m t (ReleaseRequest sent cause due) k h = refl
row_clears c m t s k h = absurd (false≢true h)

heard_clears : (c : PlainNetCall) (m : Heard) (t : ℕ) (s : NetState) (k : Kind) → net_is_clearing s ≡ true → ClearsOn (net_heard c m t s k).next
heard_clears c m t (DisconnectIndication cause due) k h = row_clears c m t (DisconnectIndication cause due) k h
heard_clears c m t (ReleaseRequest sent cause due) k h = row_clears c m t (ReleaseRequest sent cause due) k h
heard_clears c m t s k h = absurd (false≢true h)

over_cleared : (a : Activity) (u : ℕ) → is_cleared (over_at a u) ≡ true
over_cleared Never u = refl
over_cleared (Since from) u = refl
over_cleared (Was from until) u = refl

step_cleared : (u : ℕ) (a : Activity) (said : Option Outgoing) (x : Next PlainNetCall) → ClearsOn x → is_cleared (follow a u said x).standing ≡ true
step_cleared u a said (Live c) h = h
step_cleared u a said Over h = over_cleared a u
step_cleared u a said Broken h = over_cleared a u

same_booking : (t : ℕ) (e n : Entry) (s s' : Standing) → LivesOn t e n s → (is_cleared s ≡ true → is_cleared s' ≡ true) → IsTimedFrom t s' → LivesOn t e n s'
same_booking t e n s s' h clears timed = record {
  reference = h.reference;
  channel = h.channel;
  number = h.number;
  inward = h.inward;
  start = h.start;
  end = elim h.end [ inl cleared ↦ inl (clears cleared) | inr same ↦ inr same ];
  timed = timed;
}

waits_timed : (t m : ℕ) (e : Entry) (back free : Bool) → IsTimedFrom t (waits e (m + t) back free).standing
waits_timed t m e back free = by_cases (offers e (m + t) free) _ _ (λ (x : Moved). IsTimedFrom t x.standing)
    (λ _ due is. (let q : m + t + 4 ≡ due = some_same (m + t + 4) due is in omega (arith, q)))
    (λ _. by_cases (nat_le e.booking.end (m + t)) _ _ (λ (x : Moved). IsTimedFrom t x.standing) (λ _. tt) (λ _. tt))

second_still : (t m : ℕ) (e n : Entry) (s : Standing) (link : Link) (back free : Bool) → LivesOn t e n s → LivesOn t e n (second_by link e (m + t) back free s).standing
second_still t m e n (OnCall c a) Up back free h =
    let x = net_second c (m + t) e.booking.end in
    let new = net_second (earlier_by t c) m n.booking.end in
    same_booking t e n (OnCall c a) _ h (λ clears. step_cleared (m + t) a x.reply x.next (second_clears c (m + t) e.booking.end clears))
    (subst (λ (y : Transition PlainNetCall). IsTimedFrom t (follows a (m + t) y).standing) (sym (second_is t m e.booking.end n.booking.end c h.timed h.end)) (step_timed t (m + t) a new.reply new.next))
second_still t m e n (OnCall c a) (Down rules) back free h =
    let x = net_unlinked rules 1 c (m + t) e.booking.end in
    let new = net_unlinked rules 1 (earlier_by t c) m n.booking.end in
    same_booking t e n (OnCall c a) _ h (λ clears. step_cleared (m + t) a x.reply x.next (unlinked_clears rules c (m + t) e.booking.end clears))
    (subst (λ (y : Transition PlainNetCall). IsTimedFrom t (follows a (m + t) y).standing) (sym (unlinked_is rules t m e.booking.end n.booking.end c h.timed h.end)) (step_timed t (m + t) a new.reply new.next))
second_still t m e n Unoffered Up back free h = same_booking t e n Unoffered _ h (λ clears. absurd (false≢true clears)) (waits_timed t m e back free)
second_still t m e n Unoffered (Down rules) back free h = same_booking t e n Unoffered _ h (λ clears. absurd (false≢true clears)) (waits_timed t m e false false)
second_still t m e n Refused Up back free h = h
second_still t m e n Refused (Down rules) back free h = h
second_still t m e n (Carried from until) Up back free h = h
second_still t m e n (Carried from until) (Down rules) back free h = h
second_still t m e n Unanswered Up back free h = h
second_still t m e n Unanswered (Down rules) back free h = h
second_still t m e n Missed Up back free h = h
second_still t m e n Missed (Down rules) back free h = h

hears_still : (t m : ℕ) (e n : Entry) (s : Standing) (said : Said) → LivesOn t e n s → LivesOn t e n (hears said (m + t) s).standing
hears_still t m e n (OnCall c a) said h =
    let x = net_message c said.heard (m + t) in
    let new = net_message (earlier_by t c) said.heard m in
    same_booking t e n (OnCall c a) _ h (λ clears. step_cleared (m + t) a x.reply x.next (heard_clears c said.heard (m + t) c.state said.heard.kind clears))
    (subst (λ (y : Transition PlainNetCall). IsTimedFrom t (follows a (m + t) y).standing) (sym (ap (λ k. net_message k said.heard (m + t)) (sym (told_back t c h.timed)) ∙ message_later t m (earlier_by t c) said.heard)) (step_timed t (m + t) a new.reply new.next))
hears_still t m e n Unoffered said h = h
hears_still t m e n Refused said h = h
hears_still t m e n (Carried from until) said h = h
hears_still t m e n Unanswered said h = h
hears_still t m e n Missed said h = h

pub still_goes : (t m : ℕ) (e n : Entry) (s : Standing) (link : Link) (back free : Bool) (said : Said) → LivesOn t e n s → LivesOn t e n (second_by link e (m + t) back free s).standing × LivesOn t e n (hears said (m + t) s).standing
still_goes t m e n s link back free said h = (second_still t m e n s link back free h, hears_still t m e n s said h)

-- ---- what is told of it

pub told_once : (t from until : ℕ) → from ≤ until → until - from ≡ (min until t - from) + ((until - t) - (from - t))
told_once t from until le = omega (arith, le)
