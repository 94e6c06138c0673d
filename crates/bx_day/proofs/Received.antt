-- What a message does to a day is what the definition says, and a day stays one that an exchange may be in.
use Rattle.bx_events.specs.declared.rules.Rules.TheVariants.{Three}
use Rattle.std.proofs.Common.{◌≡◌, ℕ, zero, suc, ◌+◌, ◌≤◌, ◌<◌, ◌==◌, ◌&&◌, ◌||◌, not, Bool, true, false, List, [], ◌∷◌, length, Option, Some, None, arith, refl, sym, subst, ap, ◌∙◌, slice_set, nat_le, nat_lt, ◌≢◌, inl, inr, if◌then◌else◌}
use Rattle.std.specs.Prelude.{is_some, IfSome}
use Rattle.std.specs.List.{position}
use Rattle.std.specs.Option.{option_map}
use Rattle.std.proofs.lemmas.Bool.{and_parts, true≢false, false≢true, eqb-true, eqb-false, leb-true, ltb-true, not-true, or_cases, cases_eq, false_from_ne_true}
use Rattle.bx_q931.specs.declared.kind.Kind.{Kind}
use Rattle.bx_q931.specs.declared.kind.Kind.TheVariants.{Alerting, CallProceeding, Setup, Connect, ConnectAcknowledge, Status}
use Rattle.bx_q931.specs.declared.channel_field.ChannelField.TheVariants.{Absent}
use Rattle.bx_calls.specs.PlainCalls.{PlainNetCall}
use Rattle.bx_calls.specs.declared.transition.Transition.{Transition}
use Rattle.bx_calls.specs.declared.net_state.NetOrigin.{NetOrigin}
use Rattle.bx_calls.specs.declared.net_state.NetOrigin.TheVariants.{Outward, Inward}
use Rattle.bx_calls.specs.declared.net_state.NetState.{NetState}
use Rattle.bx_calls.specs.declared.net_state.NetState.TheVariants.{CallPresent, Active, ReleaseRequest}
use Rattle.bx_calls.specs.Hearing.{Heard, names_channel, reports_null}
use Rattle.bx_calls.specs.Expected.{net_awake}
use Rattle.bx_calls.specs.NetTable.{net_awake_state, net_row, net_answered}
use Rattle.bx_base.specs.Bookings.{is_running}
use Rattle.bx_channels.specs.ChannelNumbers.{IsChannel}
use Rattle.bx_calls.specs.Said.{Said}
use Rattle.bx_channels.specs.Marks.{is_marked}
use Rattle.bx_day.specs.Day.{Day, holds, is_held, is_free, is_unoffered, every_channel, entry_at}
use Rattle.bx_day.specs.Receipts.{is_open, opens, or_else, lowest_open, hears, takes_call, takes_or, takes_preferred, with_moved, received_at}
use Rattle.bx_day.specs.Moves.{becomes, follows}
use Rattle.bx_day.specs.declared.entry.Activity.{Activity}
use Rattle.bx_day.specs.declared.entry.Activity.TheVariants.{Never}
use Rattle.bx_day.specs.declared.entry.Entry.{Entry}
use Rattle.bx_day.specs.declared.entry.Moved.{Moved}
use Rattle.bx_day.specs.declared.entry.Standing.{Standing}
use Rattle.bx_day.specs.declared.entry.Standing.TheVariants.{OnCall}
use Rattle.bx_day.specs.Invariant.{DayFits, is_refused}
use Rattle.bx_day.specs.Reading.{IsExchange, Seated}
use Rattle.bx_day.specs.Calling.{awaits}
use Rattle.bx_day.proofs.Hear.{heard_by}
use Rattle.bx_day.proofs.Indices.{index_none, position_next}
use Rattle.bx_day.proofs.Receive.{OpenAt, open_parts, open_index, open_lowest, open_or, takes_fits, received_fits, hears_refused}
use Rattle.bx_day.proofs.Tick.{with_standing}
use Rattle.bx_day.proofs.Law.{all_update}

-- ---- a message breaks no channel

abbrev Whole : Activity → ℕ → Transition PlainNetCall → Type 0
Whole a t step = (follows a t step).broken ≡ false

whole_either : (b : Bool) (a : Activity) (t : ℕ) (x y : Transition PlainNetCall) → Whole a t x → Whole a t y → Whole a t (if b then x else y)
whole_either true a t x y f g = f
whole_either false a t x y f g = g

row_whole : (c : PlainNetCall) (m : Heard) (t : ℕ) (a : Activity) (o : NetOrigin) (s : NetState) (k : Kind) → c.origin ≡ o → Whole a t (net_row c m t s k)
row_whole c m t a o s Status e = whole_either (reports_null m.state) a t _ _ refl refl
row_whole c m t a o (ReleaseRequest again cause due) k e = refl
row_whole c m t a o (CallPresent again due) CallProceeding e = whole_either (names_channel m.channel c.channel) a t _ _ refl refl
row_whole c m t a o (CallPresent again due) Alerting e = whole_either (names_channel m.channel c.channel) a t _ _ refl refl
row_whole c m t a o (CallPresent again due) Connect e = whole_either (names_channel m.channel c.channel) a t _ _ refl refl
row_whole c m t a (Outward called) Active ConnectAcknowledge e = rw e refl
row_whole c m t a Inward Active ConnectAcknowledge e = rw e refl
row_whole c m t a o s k e = refl

pub hears_whole : (m : Said) (t : ℕ) (s : Standing) → (hears m t s).broken ≡ false
hears_whole m t (OnCall c a) = heard_by (Whole a t) c m.heard t c.state m.heard.kind (record { contradicted = λ asked due is q. refl; unacknowledged = λ asked due is q. refl; connected = λ due is q. refl; put_off = λ offer due is q. refl; unconnected = λ asked due is q. refl; ringing = λ due is q. refl }) (row_whole (net_awake c) m.heard t a c.origin (net_awake_state c.state) m.heard.kind refl)
hears_whole m t s = refl

-- ---- who may be called

pub held_index : (c : ℕ) (es : List Entry) → is_held es c ≡ is_some (position (holds c) es)
held_index c [] = refl
held_index c (e ∷ es) = step (holds c e) (is_held es c) (position (holds c) es) (held_index c es) ∙ ap is_some (sym (position_next (holds c) e es))
  where
    more : (o : Option ℕ) → is_some o ≡ is_some (option_map suc o)
    more None = refl
    more (Some i) = refl

    step : (b r : Bool) (o : Option ℕ) → r ≡ is_some o → (b || r) ≡ is_some (if b then Some 0 else option_map suc o)
    step true r o h = refl
    step false r o h = h ∙ more o

pub free_unheld : (d : Day) (c : ℕ) (o : Option ℕ) → o ≡ position (holds c) d.entries → is_some o ≡ false → not (is_marked d.maintenance c) ≡ is_free d c
free_unheld d c o e none = ap (λ (b : Bool). not b && not (is_marked d.maintenance c)) (sym (held_index c d.entries ∙ ap is_some (sym e) ∙ none))

pub free_held : (d : Day) (c : ℕ) (o : Option ℕ) → o ≡ position (holds c) d.entries → is_some o ≡ true → false ≡ is_free d c
free_held d c o e some = ap (λ (b : Bool). not b && not (is_marked d.maintenance c)) (sym (held_index c d.entries ∙ ap is_some (sym e) ∙ some))

pub opens_free : (d : Day) (c : ℕ) (e : Entry) → is_free d c ≡ true → opens d c e ≡ awaits d.moment c e
opens_free d c e free = step (is_unoffered e.standing && e.booking.inward && is_running e.booking d.moment) (is_free d e.channel) (e.channel == c) (λ same. subst (λ (n : ℕ). is_free d n ≡ true) (sym (eqb-true e.channel c same)) free)
  where
    step : (w f b : Bool) → (b ≡ true → f ≡ true) → (w && f && b) ≡ (w && b)
    step true true b h = refl
    step true false true h = absurd (false≢true (h refl))
    step true false false h = refl
    step false f b h = refl

pub opens_taken : (d : Day) (c : ℕ) (e : Entry) → is_free d c ≡ false → opens d c e ≡ false
opens_taken d c e taken = false_from_ne_true (opens d c e) (λ h.
    let p = and_parts (is_open d e) (e.channel == c) h in
    let free = (open_parts d e p.0).free in
    true≢false (sym free ∙ subst (λ (n : ℕ). is_free d n ≡ false) (sym (eqb-true e.channel c p.1)) taken))

pub opening_taken : (d : Day) (c : ℕ) → is_free d c ≡ false → position (opens d c) d.entries ≡ None
opening_taken d c taken = index_none (opens d c) d.entries (λ k lt. opens_taken d c (entry_at d.entries k) taken)

-- ---- the lowest open channel

-- the channel is among these, which rise to it
abbrev Reaches : ℕ → List ℕ → Type 0
Reaches c [] = ⊥
Reaches c (x ∷ xs) = IsChannel x × (c ≢ x → (x < c) × Reaches c xs)

abbrev is_channel : ℕ → Bool
is_channel n = nat_le 1 n && nat_le n 31 && not (n == 16)

-- no channel from x on is left out
abbrev covers : ℕ → List ℕ → Bool
covers x [] = nat_lt 31 x
covers x (y ∷ ys) = is_channel y && ((x == y) || ((x == 16) && (y == 17))) && covers (y + 1) ys

channel_is : (n : ℕ) → is_channel n ≡ true → IsChannel n
channel_is n h =
    let p = and_parts (nat_le 1 n && nat_le n 31) (not (n == 16)) h in
    let q = and_parts (nat_le 1 n) (nat_le n 31) p.0 in
    (leb-true 1 n q.0, leb-true n 31 q.1, eqb-false n 16 (not-true (n == 16) p.1))

reaches : (c x : ℕ) (cs : List ℕ) → IsChannel c → x ≤ c → covers x cs ≡ true → Reaches c cs
reaches c x [] h le cover = let late : 31 < x = ltb-true 31 x cover in absurd (omega (arith, h.1))
reaches c x (y ∷ ys) h le cover =
    let p = and_parts (is_channel y && ((x == y) || ((x == 16) && (y == 17)))) (covers (y + 1) ys) cover in
    let q = and_parts (is_channel y) ((x == y) || ((x == 16) && (y == 17))) p.0 in
    let next : y ≤ c = elim (or_cases (x == y) ((x == 16) && (y == 17)) q.1) [
      | inl same ↦ (let e : x ≡ y = eqb-true x y same in omega arith)
      | inr gap ↦ (let g = and_parts (x == 16) (y == 17) gap in let e : x ≡ 16 = eqb-true x 16 g.0 in let f : y ≡ 17 = eqb-true y 17 g.1 in omega (arith, h.2))
    ] in
    (channel_is y q.0, λ other. let less : y < c = omega (arith, next, other) in (less, reaches c (y + 1) ys h (omega arith) p.1))

lowest_at : (d : Day) (c i : ℕ) (cs : List ℕ) → Reaches c cs → ((n : ℕ) → n < c → IsChannel n → position (opens d n) d.entries ≡ None) → position (opens d c) d.entries ≡ Some i → lowest_open d cs ≡ Some i
lowest_at d c i [] r before here = absurd r
lowest_at d c i (x ∷ xs) r before here = elim (cases_eq c x) [
  | inl same ↦ ap (λ (o : Option ℕ). or_else o (lowest_open d xs)) (subst (λ (n : ℕ). position (opens d n) d.entries ≡ Some i) same here)
  | inr other ↦ ap (λ (o : Option ℕ). or_else o (lowest_open d xs)) (before x (r.1 other).0 r.0) ∙ lowest_at d c i xs (r.1 other).1 before here
]

pub lowest_found : (d : Day) (c i : ℕ) → IsChannel c → ((n : ℕ) → n < c → IsChannel n → position (opens d n) d.entries ≡ None) → position (opens d c) d.entries ≡ Some i → lowest_open d every_channel ≡ Some i
lowest_found d c i h before here = lowest_at d c i every_channel (reaches c 1 every_channel h h.0 refl) before here

none_at : (d : Day) (x : ℕ) (cs : List ℕ) → covers x cs ≡ true → ((n : ℕ) → IsChannel n → position (opens d n) d.entries ≡ None) → lowest_open d cs ≡ None
none_at d x [] cover before = refl
none_at d x (y ∷ ys) cover before =
    let p = and_parts (is_channel y && ((x == y) || ((x == 16) && (y == 17)))) (covers (y + 1) ys) cover in
    let q = and_parts (is_channel y) ((x == y) || ((x == 16) && (y == 17))) p.0 in
    ap (λ (o : Option ℕ). or_else o (lowest_open d ys)) (before y (channel_is y q.0)) ∙ none_at d (y + 1) ys p.1 before

-- ---- what is taken is open

abbrev IsOpenAt : Day → Option ℕ → Type 0
IsOpenAt d o = IfSome o (λ i. is_open d (entry_at d.entries i) ≡ true)

opened : (d : Day) (o : Option ℕ) → OpenAt d o → IsOpenAt d o
opened d None h = tt
opened d (Some i) h = h

pub opening_opens : (d : Day) (c : ℕ) (o : Option ℕ) → o ≡ position (opens d c) d.entries → IfSome o (λ i. is_open d (entry_at d.entries i) ≡ true)
opening_opens d c o e = subst (IsOpenAt d) (sym e) (opened d (position (opens d c) d.entries) (open_index d c))

pub lowest_opens : (d : Day) (o : Option ℕ) → o ≡ lowest_open d every_channel → IfSome o (λ i. is_open d (entry_at d.entries i) ≡ true)
lowest_opens d o e = subst (IsOpenAt d) (sym e) (opened d (lowest_open d every_channel) (open_lowest d every_channel))

pub preferred_opens : (d : Day) (c : ℕ) (o : Option ℕ) → o ≡ or_else (position (opens d c) d.entries) (lowest_open d every_channel) → IfSome o (λ i. is_open d (entry_at d.entries i) ≡ true)
preferred_opens d c o e = let p = or_else (position (opens d c) d.entries) (lowest_open d every_channel) in
    subst (IsOpenAt d) (sym e) (opened d p (open_or d (position (opens d c) d.entries) (lowest_open d every_channel) (open_index d c) (open_lowest d every_channel)))

-- a preferred channel, by one index
pub preferred_takes : (d : Day) (m : Said) (o : Option ℕ) → takes_or d m 34 (or_else o (lowest_open d every_channel)) ≡ takes_preferred d m o
preferred_takes d m None = refl
preferred_takes d m (Some i) = refl

-- ---- an exchange stays one

length_set : (es : List Entry) (i : ℕ) (y : Entry) → length (slice_set es i y) ≡ length es
length_set [] i y = refl
length_set (e ∷ es) zero y = refl
length_set (e ∷ es) (suc i) y = ap suc (length_set es i y)

row_set : (es : List Entry) (i k : ℕ) (s : Standing) → (entry_at (slice_set es i (with_standing (entry_at es i) s)) k).row ≡ (entry_at es k).row
row_set [] i k s = refl
row_set (e ∷ es) zero zero s = refl
row_set (e ∷ es) (suc i) (suc k) s = row_set es i k s
row_set (e ∷ es) i k s = refl

reseat : (e : Entry) (s : Standing) → (is_refused s ≡ false → is_refused e.standing ≡ false) → Seated e → Seated (with_standing e s)
reseat e s f h = record { row = h.row; reference = h.reference; channel = λ r. h.channel (f r) }

pub moved_exchange : (d : Day) (i : ℕ) (m : Moved) → DayFits (with_moved d i m).day → (is_refused m.standing ≡ false → is_refused (entry_at d.entries i).standing ≡ false) → IsExchange d → IsExchange (with_moved d i m).day
moved_exchange d i m fits f h =
    let e = entry_at d.entries i in
    let y = with_standing e m.standing in
    record {
      moment = h.moment;
      rows = omega (arith, h.rows, length_set d.entries i y);
      day = fits;
      seated = all_update Seated d.entries i y (reseat e m.standing f) h.seated;
      numbered = λ k lt. row_set d.entries i k m.standing ∙ h.numbered k (omega (arith, lt, length_set d.entries i y));
    }

pub heard_exchange : (d : Day) (m : Said) (i : ℕ) → IsExchange d → IsExchange (received_at d m (Some i)).day
heard_exchange d m i h = moved_exchange d i (hears m d.moment (entry_at d.entries i).standing) (received_fits d m (Some i) h.day) (hears_refused m d.moment (entry_at d.entries i).standing) h

-- an inward booking of this channel, called with this reference
pub takes_exchange : (d : Day) (reference i : ℕ) → is_open d (entry_at d.entries i) ≡ true → IsExchange d → IsExchange (with_moved d i (becomes (OnCall (net_answered reference (entry_at d.entries i).channel) Never) None)).day
takes_exchange d reference i opened h =
    let m : Said = record { reference = reference; flag = false; heard = record { kind = Setup; channel = Absent; cause = None; state = None; rules = Three }; refused = None } in
    moved_exchange d i (takes_call m (entry_at d.entries i)) (takes_fits d m 44 (Some i) opened h.day) (λ _. (open_parts d (entry_at d.entries i) opened).accepted) h
