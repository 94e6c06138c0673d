-- A message names one live call at most: those that the exchange began by their references, which are their rows, and those that the far end began because
-- a SETUP with the reference of one goes to it.
use Rattle.bx_events.specs.declared.rules.Rules.TheVariants.{Two, Three}
use Rattle.bx_events.specs.declared.rules.Rules.{Rules}
use Rattle.std.proofs.Common.{◌≡◌, ℕ, zero, suc, ◌+◌, ◌<◌, ◌==◌, ◌&&◌, not, Bool, true, false, List, [], ◌∷◌, length, Option, Some, None, arith, refl, sym, subst, ap, ◌∙◌, slice_set, nat_le, inl, inr, ◌⊎◌, if◌then◌else◌}
use Rattle.std.specs.Option.{option_map}
use Rattle.std.specs.List.{position}
use Rattle.std.proofs.lemmas.Bool.{false≢true, true≢false, and_parts, and_from, eqb-true, eq-eqb, false_from_ne_true}
use Rattle.std.proofs.lemmas.List.Quantifiers.{position-Some}
use Rattle.bx_base.specs.Bookings.{Row}
use Rattle.bx_q931.specs.declared.kind.Kind.{Kind}
use Rattle.bx_q931.specs.declared.kind.Kind.TheVariants.{Alerting, CallProceeding, Setup, Connect, ConnectAcknowledge, Disconnect, Release, ReleaseComplete, StatusEnquiry, Status}
use Rattle.bx_calls.specs.Hearing.{Heard, names_channel, reports_null}
use Rattle.bx_calls.specs.NetTable.{net_row, net_awake_state, net_second, net_unlinked, net_flag}
use Rattle.bx_calls.specs.PlainCalls.{PlainNetCall}
use Rattle.bx_calls.specs.Said.{Said}
use Rattle.bx_calls.specs.Shared.{bool_eq}
use Rattle.bx_calls.specs.declared.times.Times.TheVariants.{NotYet, Once, Twice}
use Rattle.bx_calls.specs.declared.net_state.Offer.TheVariants.{Second}
use Rattle.bx_calls.specs.declared.net_state.NetOrigin.{NetOrigin}
use Rattle.bx_calls.specs.declared.net_state.NetOrigin.TheVariants.{Outward, Inward}
use Rattle.bx_calls.specs.declared.net_state.NetState.{NetState}
use Rattle.bx_calls.specs.declared.net_state.NetState.TheVariants.{OutgoingCallProceeding, CallPresent, IncomingCallProceeding, CallReceived, Active, Enquiring, DisconnectIndication, ReleaseRequest}
use Rattle.bx_calls.specs.declared.transition.Transition.{Transition}
use Rattle.bx_day.specs.Day.{is_back, Day, entry_at, is_live, is_free, no_entry}
use Rattle.bx_day.specs.Changed.{AreReferredByRow}
use Rattle.bx_day.specs.Invariant.{EntryFits, OriginFits, StandingFits}
use Rattle.bx_day.specs.Moves.{follows, over_at}
use Rattle.bx_day.specs.Reading.{IsExchange}
use Rattle.bx_day.specs.Receipts.{names, names_call, hears, takes_call, with_moved}
use Rattle.bx_day.specs.Ticks.{second_by, waits, passed_in}
use Rattle.bx_day.specs.declared.entry.Activity.{Activity}
use Rattle.bx_day.specs.declared.entry.Activity.TheVariants.{Never}
use Rattle.bx_day.specs.declared.entry.Entry.{Entry}
use Rattle.bx_day.specs.declared.entry.Link.{Link}
use Rattle.bx_day.specs.declared.entry.Link.TheVariants.{Up, Down}
use Rattle.bx_day.specs.declared.entry.Moved.{Moved}
use Rattle.bx_day.specs.declared.entry.Standing.{Standing}
use Rattle.bx_day.specs.declared.entry.Standing.TheVariants.{Refused, Unoffered, OnCall}
use Rattle.bx_day.proofs.Hear.{heard_by}
use Rattle.bx_day.proofs.Indices.{index_found, index_none, position_next}
use Rattle.bx_day.proofs.Law.{RunFits, at_map_in, referred_by_row}
use Rattle.bx_day.proofs.Once.{decide, each_at}
use Rattle.bx_day.proofs.Second.{call_of}
use Rattle.bx_day.proofs.Tick.{by_cases, offers, with_standing}

-- ---- references of a day from an opening: they are the rows

pub own_at : (rows : List Row) (assigned : List (Option ℕ)) (d : Day) (i : ℕ) → RunFits rows assigned d → IsExchange d → i < length d.entries → (entry_at d.entries i).reference ≡ suc i
own_at rows assigned d i fits h lt =
    let row : (entry_at d.entries i).row ≡ i + 1 = h.numbered i lt in
    let own = referred_by_row rows assigned d fits i lt in
    omega (arith, row, own)

origin_own : (e : Entry) (c : PlainNetCall) (o : NetOrigin) → OriginFits e.reference e.booking c.reference o → bool_eq (net_flag o) false ≡ true → c.reference ≡ e.reference
origin_own e c (Outward called) fits h = fits.1
origin_own e c Inward fits h = absurd (false≢true h)

standing_own : (t : ℕ) (m : Said) (e : Entry) (s : Standing) → m.flag ≡ true → StandingFits t e s → names_call m s ≡ true → e.reference ≡ m.reference
standing_own t m e (OnCall c a) flag fits h =
    let p = and_parts (c.reference == m.reference) (bool_eq (net_flag c.origin) (not m.flag)) h in
    let outward : bool_eq (net_flag c.origin) false ≡ true = subst (λ (b : Bool). bool_eq (net_flag c.origin) (not b) ≡ true) flag p.1 in
    sym (origin_own e c c.origin fits.origin outward) ∙ eqb-true c.reference m.reference p.0
standing_own t m e s flag fits h = absurd (false≢true h)

named_place : (d : Day) (m : Said) (k : ℕ) → IsExchange d → AreReferredByRow d.entries → m.flag ≡ true → k < length d.entries → names m (entry_at d.entries k) ≡ true → k + 1 ≡ m.reference
named_place d m k h own flag lt named =
    let e = entry_at d.entries k in
    sym (h.numbered k lt) ∙ sym (own k lt) ∙ standing_own d.moment m e e.standing flag (each_at (EntryFits d.moment) d.entries k lt h.day.each) named

outward_found : (d : Day) (m : Said) (i : ℕ) → IsExchange d → AreReferredByRow d.entries → m.flag ≡ true → i < length d.entries → names m (entry_at d.entries i) ≡ true → position (names m) d.entries ≡ Some i
outward_found d m i h own flag lt named =
    let here = named_place d m i h own flag lt named in
    index_found (names m) d.entries i lt named (λ k less. false_from_ne_true (names m (entry_at d.entries k)) (λ other.
    let there = named_place d m k h own flag (omega (arith, less, lt)) other in omega (arith, here, there, less)))

pub outward_none : (d : Day) (m : Said) (i : ℕ) → IsExchange d → AreReferredByRow d.entries → m.flag ≡ true → m.reference ≡ i + 1 → (i < length d.entries → names m (entry_at d.entries i) ≡ false) → position (names m) d.entries ≡ None
outward_none d m i h own flag place unnamed = index_none (names m) d.entries (λ k lt. false_from_ne_true (names m (entry_at d.entries k)) (λ other.
    let there : k + 1 ≡ m.reference = named_place d m k h own flag lt other in
    let same : k ≡ i = omega (arith, there, place) in
    true≢false (sym other ∙ subst (λ (n : ℕ). names m (entry_at d.entries n) ≡ false) (sym same) (unnamed (subst (λ (n : ℕ). n < length d.entries) same lt)))))

-- ---- who is named

pub names_live : (m : Said) (s : Standing) → names_call m s ≡ true → is_live s ≡ true
names_live m (OnCall c a) h = refl
names_live m s h = absurd (false≢true h)

pub live_inside : (es : List Entry) (i : ℕ) → is_live (entry_at es i).standing ≡ true → i < length es
live_inside [] i h = absurd (false≢true h)
live_inside (e ∷ es) zero h = omega arith
live_inside (e ∷ es) (suc i) h = let lt = live_inside es i h in omega (arith, lt)

pub none_named : (p : Entry → Bool) (es : List Entry) → position p es ≡ None → (k : ℕ) → k < length es → p (entry_at es k) ≡ false
none_named p [] h k lt = absurd (omega (arith, lt))
none_named p (e ∷ es) h k lt = at (p e) refl k lt (none_named p es)
  where
    mapped : (o : Option ℕ) → option_map suc o ≡ None → o ≡ None
    mapped None q = refl
    mapped (Some x) q = absurd (no_some (suc x) q)
      where
        no_some : (n : ℕ) → Some n ≡ None → ⊥
        no_some n q = true≢false (ap some q)
          where
            some : Option ℕ → Bool
            some (Some x) = true
            some None = false

    at : (b : Bool) → p e ≡ b → (k : ℕ) → k < length (e ∷ es) → (position p es ≡ None → (j : ℕ) → j < length es → p (entry_at es j) ≡ false) → p (entry_at (e ∷ es) k) ≡ false
    at true is k lt rest = absurd (found 0 (sym (position_next p e es ∙ ap (λ b. if b then Some 0 else option_map suc (position p es)) is) ∙ h))
      where
        some : Option ℕ → Bool
        some (Some x) = true
        some None = false

        found : (n : ℕ) → Some n ≡ None → ⊥
        found n q = true≢false (ap some q)
    at false is zero lt rest = is
    at false is (suc j) lt rest = rest (mapped (position p es) (sym (position_next p e es ∙ ap (λ b. if b then Some 0 else option_map suc (position p es)) is) ∙ h)) j (omega (arith, lt))

-- a message to a call that the far end began names one
abbrev pub IsNamedOnce : Day → Type 0
IsNamedOnce d = (m : Said) (i j : ℕ) → m.flag ≡ false → names m (entry_at d.entries i) ≡ true → names m (entry_at d.entries j) ≡ true → i ≡ j

-- any message
pub named_found : (d : Day) (i : ℕ) (m : Said) → IsExchange d → AreReferredByRow d.entries → IsNamedOnce d → names m (entry_at d.entries i) ≡ true → position (names m) d.entries ≡ Some i
named_found d i m h own once named = decide m.flag
    (λ flag. outward_found d m i h own flag lt named)
    (λ flag. at flag (position (names m) d.entries) refl)
  where
    lt : i < length d.entries
    lt = live_inside d.entries i (names_live m (entry_at d.entries i).standing named)

    at : m.flag ≡ false → (o : Option ℕ) → position (names m) d.entries ≡ o → o ≡ Some i
    at flag None is = absurd (true≢false (sym named ∙ none_named (names m) d.entries is i lt))
    at flag (Some j) is = ap (λ k. Some k) (once m j i flag (position-Some (names m) d.entries j no_entry is).1 named)

-- ---- a step keeps who is named

abbrev Named : Said → ℕ → NetOrigin → Type 0
Named m r o = ((r == m.reference) && bool_eq (net_flag o) (not m.flag)) ≡ true

abbrev Keeps : Said → ℕ → NetOrigin → Standing → Type 0
Keeps m r o s = names_call m s ≡ true → Named m r o

by_step : (b : Bool) (m : Said) (r : ℕ) (o : NetOrigin) (a : Activity) (t : ℕ) (x y : Transition PlainNetCall) → Keeps m r o (follows a t x).standing → Keeps m r o (follows a t y).standing → Keeps m r o (follows a t (if b then x else y)).standing
by_step true m r o a t x y f g = f
by_step false m r o a t x y f g = g

over_keeps : (m : Said) (r : ℕ) (o : NetOrigin) (a : Activity) (t : ℕ) → Keeps m r o (over_at a t)
over_keeps m r o Never t h = absurd (false≢true h)
over_keeps m r o a t h = absurd (false≢true h)

second_keeps : (m : Said) (t end r ch : ℕ) (o : NetOrigin) (s : NetState) (a : Activity) → Keeps m r o (follows a t (net_second (call_of r ch o s) t end)).standing
second_keeps m t end r ch o OutgoingCallProceeding a = by_step (nat_le end t) m r o a t _ _ (λ h. h) (λ h. h)
second_keeps m t end r ch o (CallPresent Second due) a = by_step (nat_le end t) m r o a t _ _ (λ h. h) (by_step (nat_le due t) m r o a t _ _ (over_keeps m r o a t) (λ h. h))
second_keeps m t end r ch o (CallPresent offer due) a = by_step (nat_le end t) m r o a t _ _ (λ h. h) (by_step (nat_le due t) m r o a t _ _ (λ h. h) (λ h. h))
second_keeps m t end r ch o (IncomingCallProceeding due) a = by_step (nat_le end t) m r o a t _ _ (λ h. h) (by_step (nat_le due t) m r o a t _ _ (λ h. h) (λ h. h))
second_keeps m t end r ch o (CallReceived due) a = by_step (nat_le end t) m r o a t _ _ (λ h. h) (by_step (nat_le due t) m r o a t _ _ (λ h. h) (λ h. h))
second_keeps m t end r ch o Active a = by_step (nat_le end t) m r o a t _ _ (λ h. h) (λ h. h)
second_keeps m t end r ch o (Enquiring NotYet due) a = by_step (nat_le end t) m r o a t _ _ (λ h. h) (by_step (nat_le due t) m r o a t _ _ (λ h. h) (λ h. h))
second_keeps m t end r ch o (Enquiring Once due) a = by_step (nat_le end t) m r o a t _ _ (λ h. h) (by_step (nat_le due t) m r o a t _ _ (λ h. h) (λ h. h))
second_keeps m t end r ch o (Enquiring Twice due) a = by_step (nat_le end t) m r o a t _ _ (λ h. h) (by_step (nat_le due t) m r o a t _ _ (λ h. h) (λ h. h))
second_keeps m t end r ch o (DisconnectIndication cause due) a = by_step (nat_le due t) m r o a t _ _ (λ h. h) (λ h. h)
second_keeps m t end r ch o (ReleaseRequest Twice cause due) a = by_step (nat_le due t) m r o a t _ _ (over_keeps m r o a t) (λ h. h)
second_keeps m t end r ch o (ReleaseRequest sent cause due) a = by_step (nat_le due t) m r o a t _ _ (λ h. h) (λ h. h)

still_keeps : (rules : Rules) (m : Said) (t end r ch : ℕ) (o : NetOrigin) (s : NetState) (a : Activity) → Keeps m r o (follows a t (net_unlinked rules 1 (call_of r ch o s) t end)).standing
still_keeps rules m t end r ch o (DisconnectIndication cause due) a = λ h. h
still_keeps rules m t end r ch o (ReleaseRequest again cause due) a = λ h. h
still_keeps Two m t end r ch o (IncomingCallProceeding due) a = by_step (nat_le end t) m r o a t _ _ (λ h. h) (λ h. h)
still_keeps Three m t end r ch o (IncomingCallProceeding due) a = by_step (nat_le end t) m r o a t _ _ (λ h. h) (λ h. h)
still_keeps Two m t end r ch o (CallReceived due) a = by_step (nat_le end t) m r o a t _ _ (λ h. h) (λ h. h)
still_keeps Three m t end r ch o (CallReceived due) a = by_step (nat_le end t) m r o a t _ _ (λ h. h) (λ h. h)
still_keeps rules m t end r ch o s a = by_step (nat_le end t) m r o a t _ _ (λ h. h) (λ h. h)

row_keeps : (m : Said) (x : Heard) (t r ch : ℕ) (o : NetOrigin) (s : NetState) (a : Activity) (k : Kind) → Keeps m r o (follows a t (net_row (call_of r ch o s) x t s k)).standing
row_keeps m x t r ch o s a ReleaseComplete = over_keeps m r o a t
row_keeps m x t r ch o s a StatusEnquiry = λ h. h
row_keeps m x t r ch o s a Status = by_step (reports_null x.state) m r o a t _ _ (over_keeps m r o a t) (λ h. h)
row_keeps m x t r ch o s a Setup = λ h. h
row_keeps m x t r ch o (ReleaseRequest again cause due) a Release = over_keeps m r o a t
row_keeps m x t r ch o s a Release = over_keeps m r o a t
row_keeps m x t r ch o (ReleaseRequest again cause due) a k = λ h. h
row_keeps m x t r ch o s a Disconnect = λ h. h
row_keeps m x t r ch o (DisconnectIndication cause due) a k = λ h. h
row_keeps m x t r ch o (CallPresent again due) a CallProceeding = by_step (names_channel x.channel ch) m r o a t _ _ (λ h. h) (λ h. h)
row_keeps m x t r ch o (CallPresent again due) a Alerting = by_step (names_channel x.channel ch) m r o a t _ _ (λ h. h) (λ h. h)
row_keeps m x t r ch o (CallPresent again due) a Connect = by_step (names_channel x.channel ch) m r o a t _ _ (λ h. h) (λ h. h)
row_keeps m x t r ch o (IncomingCallProceeding due) a Alerting = λ h. h
row_keeps m x t r ch o (IncomingCallProceeding due) a Connect = λ h. h
row_keeps m x t r ch o (CallReceived due) a Connect = λ h. h
row_keeps m x t r ch (Outward called) Active a ConnectAcknowledge = λ h. h
row_keeps m x t r ch Inward Active a ConnectAcknowledge = λ h. h
row_keeps m x t r ch o s a k = λ h. h

pub hears_names : (m x : Said) (t : ℕ) (s : Standing) → names_call m (hears x t s).standing ≡ true → names_call m s ≡ true
hears_names m x t (OnCall c a) h = heard_by (λ (y : Transition PlainNetCall). Keeps m c.reference c.origin (follows a t y).standing) c x.heard t c.state x.heard.kind
    (record { contradicted = λ asked due is q k. k; unacknowledged = λ asked due is q k. k; connected = λ due is q k. k; put_off = λ offer due is q k. k; unconnected = λ asked due is q k. k; ringing = λ due is q k. k }) (row_keeps m x.heard t c.reference c.channel c.origin (net_awake_state c.state) a x.heard.kind) h
hears_names m x t s h = h

flag_false : (x : Bool) (f : Bool) → f ≡ false → (x && bool_eq false (not f)) ≡ false
flag_false true f is = ap (λ b. bool_eq false (not b)) is
flag_false false f is = refl

waits_names : (m : Said) (e : Entry) (t : ℕ) (back free : Bool) → m.flag ≡ false → names_call m (waits e t back free).standing ≡ false
waits_names m e t back free flag = by_cases (offers e t free) _ _ (λ (x : Moved). names_call m x.standing ≡ false) (λ _. flag_false (e.reference == m.reference) m.flag flag) (λ _. by_cases (nat_le e.booking.end t) _ _ (λ (x : Moved). names_call m x.standing ≡ false) (λ _. refl) (λ _. refl))

second_names : (link : Link) (m : Said) (e : Entry) (t : ℕ) (back free : Bool) (s : Standing) → m.flag ≡ false → names_call m (second_by link e t back free s).standing ≡ true → names_call m s ≡ true
second_names Up m e t back free (OnCall c a) flag h = second_keeps m t e.booking.end c.reference c.channel c.origin c.state a h
second_names (Down rules) m e t back free (OnCall c a) flag h = still_keeps rules m t e.booking.end c.reference c.channel c.origin c.state a h
second_names Up m e t back free Unoffered flag h = absurd (true≢false (sym h ∙ waits_names m e t back free flag))
second_names (Down rules) m e t back free Unoffered flag h = absurd (true≢false (sym h ∙ waits_names m e t false false flag))
second_names link m e t back free s flag h = h

-- a second keeps that each is named once
pub once_second : (link : Link) (d : Day) → IsNamedOnce d → IsNamedOnce (passed_in link d).day
once_second link d once m i j flag hi hj = once m i j flag (was i hi) (was j hj)
  where
    was : (k : ℕ) → names m (entry_at (passed_in link d).day.entries k) ≡ true → names m (entry_at d.entries k) ≡ true
    was k h = second_names link m (entry_at d.entries k) (d.moment + 1) (is_back d) (is_free d (entry_at d.entries k).channel) (entry_at d.entries k).standing flag (sym (ap (names m) (at_map_in link d d.entries k)) ∙ h)

-- ---- a message does

-- what stands at an index after a change at another, or at the same one
pub set_at : (P : Entry → Type 0) (es : List Entry) (k i : ℕ) (y : Entry) → (k ≡ i → i < length es → P y) → P (entry_at es i) → P (entry_at (slice_set es k y) i)
set_at P (e ∷ es) zero zero y f p = f refl (omega arith)
set_at P (e ∷ es) (suc k) (suc i) y f p = set_at P es k i y (λ is lt. f (ap suc is) (omega (arith, lt))) p
set_at P es k i y f p = p

-- a call that heard it
pub once_heard : (d : Day) (x : Said) (k : ℕ) → IsNamedOnce d → IsNamedOnce (with_moved d k (hears x d.moment (entry_at d.entries k).standing)).day
once_heard d x k once m i j flag hi hj = once m i j flag (was i hi) (was j hj)
  where
    y : Entry
    y = with_standing (entry_at d.entries k) (hears x d.moment (entry_at d.entries k).standing).standing

    was : (n : ℕ) → names m (entry_at (slice_set d.entries k y) n) ≡ true → names m (entry_at d.entries n) ≡ true
    was n = set_at (λ e. names m e ≡ true → names m (entry_at d.entries n) ≡ true) d.entries k n y (λ is lt h. subst (λ z. names m (entry_at d.entries z) ≡ true) is (hears_names m x d.moment (entry_at d.entries k).standing h)) (λ h. h)

-- a call that it began, where no call has its reference
pub once_taken : (d : Day) (x : Said) (k : ℕ) → x.flag ≡ false → position (names x) d.entries ≡ None → IsNamedOnce d → IsNamedOnce (with_moved d k (takes_call x (entry_at d.entries k))).day
once_taken d x k bare none once m i j flag hi hj = join (which i hi) (which j hj)
  where
    y : Entry
    y = with_standing (entry_at d.entries k) (takes_call x (entry_at d.entries k)).standing

    -- named before, or the new one, by its reference
    which : (n : ℕ) → names m (entry_at (slice_set d.entries k y) n) ≡ true → (names m (entry_at d.entries n) ≡ true) ⊎ ((k ≡ n) × ((x.reference == m.reference) ≡ true))
    which n = set_at (λ e. names m e ≡ true → (names m (entry_at d.entries n) ≡ true) ⊎ ((k ≡ n) × ((x.reference == m.reference) ≡ true))) d.entries k n y (λ is lt h. inr (is, (and_parts (x.reference == m.reference) (bool_eq true (not m.flag)) h).0)) (λ h. inl h)

    -- one that was named before has not the new reference
    old : (n : ℕ) → names m (entry_at d.entries n) ≡ true → (x.reference == m.reference) ≡ true → ⊥
    old n h same = true≢false (sym (renamed (entry_at d.entries n).standing h) ∙ none_named (names x) d.entries none n (live_inside d.entries n (names_live m (entry_at d.entries n).standing h)))
      where
        renamed : (s : Standing) → names_call m s ≡ true → names_call x s ≡ true
        renamed (OnCall c a) q =
            let p = and_parts (c.reference == m.reference) (bool_eq (net_flag c.origin) (not m.flag)) q in
            and_from (c.reference == x.reference) (bool_eq (net_flag c.origin) (not x.flag)) (eq-eqb c.reference x.reference (eqb-true c.reference m.reference p.0 ∙ sym (eqb-true x.reference m.reference same))) (ap (λ f. bool_eq (net_flag c.origin) (not f)) (bare ∙ sym flag) ∙ p.1)
        renamed Refused q = absurd (false≢true q)
        renamed s q = absurd (false≢true q)

    join : (names m (entry_at d.entries i) ≡ true) ⊎ ((k ≡ i) × ((x.reference == m.reference) ≡ true)) → (names m (entry_at d.entries j) ≡ true) ⊎ ((k ≡ j) × ((x.reference == m.reference) ≡ true)) → i ≡ j
    join (inl a) (inl b) = once m i j flag a b
    join (inl a) (inr b) = absurd (old i a b.1)
    join (inr a) (inl b) = absurd (old j b a.1)
    join (inr a) (inr b) = sym a.0 ∙ b.0
