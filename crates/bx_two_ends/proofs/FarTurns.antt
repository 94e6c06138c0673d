-- The far end in a turn, where its script answers at once: what it makes of each call that the exchange began.
use Rattle.std.proofs.Common.{◌≡◌, ◌≢◌, ◌⊎◌, inl, inr, ℕ, suc, ◌+◌, ◌≤◌, ◌<◌, ◌==◌, not, Bool, true, false, List, [], ◌∷◌, Option, Some, None, refl, sym, ap, subst, ◌∙◌, arith, is_some, if◌then◌else◌}
use Rattle.std.specs.List.{AllByRecursion}
use Rattle.std.proofs.lemmas.Bool.{true≢false, and_parts, and_from, eq-eqb, eqb-true, cases_eq, false_from_ne_true}
use Rattle.bx_channels.specs.ChannelNumbers.{IsChannel}
use Rattle.bx_channels.specs.Marks.{is_marked}
use Rattle.bx_calls.specs.PlainCalls.{PlainUserCall}
use Rattle.bx_calls.specs.Said.{Said}
use Rattle.bx_calls.specs.Shared.{bool_eq}
use Rattle.bx_calls.specs.UserTable.{user_flag}
use Rattle.bx_calls.specs.declared.transition.Next.{Next}
use Rattle.bx_calls.specs.declared.transition.Next.TheVariants.{Live, Over, Broken}
use Rattle.bx_calls.specs.declared.user_state.Policy.TheVariants.{Answer}
use Rattle.bx_calls.specs.declared.user_state.UserOrigin.{UserOrigin}
use Rattle.bx_calls.specs.declared.user_state.UserOrigin.TheVariants.{Offered, Calling}
use Rattle.bx_calls.specs.declared.user_state.UserState.{UserState}
use Rattle.bx_calls.specs.declared.user_state.UserState.TheVariants.{CallPresent, ConnectRequest, Active, ReleaseRequest}
use Rattle.bx_day.specs.Day.{Day, entry_at, is_live}
use Rattle.bx_day.specs.Law.{standing_at}
use Rattle.bx_day.proofs.Once.{decide}
use Rattle.bx_far.specs.FarDay.{FarDay, first_call, is_on, holder, insert_call, settle_calls, far_names}
use Rattle.bx_two_ends.specs.Lockstep.{AnswersAtOnce}
use Rattle.bx_two_ends.specs.TwoEnds.{AreOnTheirOwn}
use Rattle.bx_two_ends.proofs.FarCalls.{all_calls, insert_all, insert_apart, none_on, settle_all, settle_apart, OnLive, first_found}
use Rattle.bx_two_ends.proofs.Holders.{held_by, insert_same, insert_other, settle_live, settle_gone, settle_other}

-- ---- the day after the tick, which stays the same in a turn: its live calls are outward, each on a channel of its own

pub record IsCalledDay (c : Day) : Type 0 where
  pub apart : (i j : ℕ) → is_live (standing_at c i) ≡ true → is_live (standing_at c j) ≡ true → (entry_at c.entries i).channel ≡ (entry_at c.entries j).channel → i ≡ j
  pub few : (i : ℕ) → is_live (standing_at c i) ≡ true → i ≤ 15999
  pub in_service : (i : ℕ) → is_live (standing_at c i) ≡ true → IsChannel (entry_at c.entries i).channel

abbrev pub channel_of : Day → ℕ → ℕ
channel_of c i = (entry_at c.entries i).channel

-- ---- states of its calls

abbrev pub In6 : UserState → Type 0
In6 CallPresent = Unit {0}
In6 _ = ⊥

abbrev pub In8 : UserState → Type 0
In8 (ConnectRequest due) = Unit {0}
In8 _ = ⊥

abbrev pub In10 : UserState → Type 0
In10 (Active since) = Unit {0}
In10 _ = ⊥

-- T308 is due after the next tick
abbrev pub In19 : ℕ → UserState → Type 0
In19 m (ReleaseRequest again cause due) = m + 1 < due
In19 m _ = ⊥

abbrev pub Has : (UserState → Type 0) → Option PlainUserCall → Type 0
Has P None = ⊥
Has P (Some call) = P call.state

abbrev pub IsAnswering : UserOrigin → Type 0
IsAnswering (Offered (Answer n) at) = n ≡ 0
IsAnswering _ = ⊥

-- the call of the booking of index i, in a state that fits it
pub record IsFor (c : Day) (E : ℕ → UserState → Type 0) (call : PlainUserCall) : Type 0 where
  pub index : ℕ
  pub live : is_live (standing_at c index) ≡ true
  pub reference : call.reference ≡ suc index
  pub channel : call.channel ≡ channel_of c index
  pub origin : IsAnswering call.origin
  pub state : E index call.state

-- a far end in a turn
pub record FarIs (c : Day) (t : ℕ) (E : ℕ → UserState → Type 0) (Q : ℕ → Option PlainUserCall → Type 0) (f : FarDay) : Type 0 where
  pub moment : f.moment ≡ t
  pub script : AnswersAtOnce f.script
  pub clean : (k : ℕ) → is_marked f.maintenance k ≡ false
  pub own : AreOnTheirOwn f.calls
  pub each : AllByRecursion (IsFor c E) f.calls
  pub calls : (i : ℕ) → is_live (standing_at c i) ≡ true → Q i (holder f (channel_of c i))

-- ---- whom a message names

flag_true : (o : UserOrigin) → IsAnswering o → user_flag o ≡ true
flag_true (Offered policy at) h = refl
flag_true (Calling called) h = absurd h

first_same : (p q : PlainUserCall → Bool) (cs : List PlainUserCall) → AllByRecursion (λ (x : PlainUserCall). p x ≡ q x) cs → first_call p cs ≡ first_call q cs
first_same p q [] h = refl
first_same p q (x ∷ xs) h = ap (λ b. if b then Some x else first_call p xs) h.0 ∙ ap (λ r. if q x then Some x else r) (first_same p q xs h.1)

-- a message with the reference of a live booking names the call on its channel
named_one : (c : Day) (E : ℕ → UserState → Type 0) (i : ℕ) (m : Said) (x : PlainUserCall) → IsCalledDay c → is_live (standing_at c i) ≡ true → m.reference ≡ suc i → m.flag ≡ false → IsFor c E x → far_names m x ≡ is_on (channel_of c i) x
named_one c E i m x day live ref bare h = decide (x.channel == channel_of c i)
    (λ on.
    let same : h.index ≡ i = day.apart h.index i h.live live (sym h.channel ∙ eqb-true x.channel (channel_of c i) on) in
    and_from (x.reference == m.reference) (bool_eq (user_flag x.origin) (not m.flag)) (eq-eqb x.reference m.reference (h.reference ∙ ap suc same ∙ sym ref)) (ap (λ b. bool_eq b (not m.flag)) (flag_true x.origin h.origin) ∙ ap (λ b. bool_eq true (not b)) bare)
    ∙ sym on)
    (λ off.
    false_from_ne_true (far_names m x) (λ named.
    let p = and_parts (x.reference == m.reference) (bool_eq (user_flag x.origin) (not m.flag)) named in
    let q : suc h.index ≡ suc i = sym h.reference ∙ eqb-true x.reference m.reference p.0 ∙ ref in
    let same : h.index ≡ i = omega (arith, q) in
    true≢false (sym (eq-eqb x.channel (channel_of c i) (h.channel ∙ ap (channel_of c) same)) ∙ off))
    ∙ sym off)

pub named_holder : (c : Day) (t : ℕ) (E : ℕ → UserState → Type 0) (Q : ℕ → Option PlainUserCall → Type 0) (f : FarDay) (i : ℕ) (m : Said) → IsCalledDay c → FarIs c t E Q f → is_live (standing_at c i) ≡ true → m.reference ≡ suc i → m.flag ≡ false → first_call (far_names m) f.calls ≡ holder f (channel_of c i)
named_holder c t E Q f i m day h live ref bare = first_same (far_names m) (is_on (channel_of c i)) f.calls (all_calls (IsFor c E) (λ x. far_names m x ≡ is_on (channel_of c i) x) (λ x p. named_one c E i m x day live ref bare p) f.calls h.each)

-- the call that holds a channel is of its booking
pub holder_for : (c : Day) (t : ℕ) (E : ℕ → UserState → Type 0) (Q : ℕ → Option PlainUserCall → Type 0) (f : FarDay) (i : ℕ) (call : PlainUserCall) → IsCalledDay c → FarIs c t E Q f → is_live (standing_at c i) ≡ true → holder f (channel_of c i) ≡ Some call → (call.reference ≡ suc i) × ((call.channel ≡ channel_of c i) × (IsAnswering call.origin × E i call.state))
holder_for c t E Q f i call day h live is =
    let p = first_found (IsFor c E) (is_on (channel_of c i)) f.calls call is h.each in
    let on : call.channel ≡ channel_of c i = eqb-true call.channel (channel_of c i) p.0 in
    let same : p.1.index ≡ i = day.apart p.1.index i p.1.live live (sym p.1.channel ∙ on) in
    (p.1.reference ∙ ap suc same, (on, (p.1.origin, subst (λ k. E k call.state) same p.1.state)))

-- ---- a step of one call: E' and Q' say what stands after it

-- what becomes of the call of booking i
abbrev pub After : Day → ℕ → (ℕ → UserState → Type 0) → Next PlainUserCall → Type 0
After c i E (Live y) = (y.reference ≡ suc i) × ((y.channel ≡ channel_of c i) × (IsAnswering y.origin × E i y.state))
After c i E Over = Unit {0}
After c i E Broken = ⊥

abbrev pub option_of : Next PlainUserCall → Option PlainUserCall
option_of (Live y) = Some y
option_of _ = None

all_for : (c : Day) (E E' : ℕ → UserState → Type 0) → ((j : ℕ) (s : UserState) → E j s → E' j s) → (x : PlainUserCall) → IsFor c E x → IsFor c E' x
all_for c E E' g x h = record { index = h.index; live = h.live; reference = h.reference; channel = h.channel; origin = h.origin; state = g h.index x.state h.state }

pub follow_is : (c : Day) (t : ℕ) (E E' : ℕ → UserState → Type 0) (Q Q' : ℕ → Option PlainUserCall → Type 0) (f : FarDay) (i : ℕ) (x : PlainUserCall) (next : Next PlainUserCall) → IsCalledDay c → FarIs c t E Q f → is_live (standing_at c i) ≡ true → holder f (channel_of c i) ≡ Some x
    → ((j : ℕ) (s : UserState) → E j s → E' j s) → After c i E' next → Q' i (option_of next) → ((j : ℕ) (v : Option PlainUserCall) → j ≢ i → Q j v → Q' j v)
    → FarIs c t E' Q' (record f { calls = settle_calls (channel_of c i) next f.calls; maintenance = f.maintenance })
follow_is c t E E' Q Q' f i x next day h live is weaker after mine others = record {
  moment = h.moment;
  script = h.script;
  clean = h.clean;
  own = settle_apart (channel_of c i) next f.calls (on_channel next after) h.own;
  each = settle_all (IsFor c E') (channel_of c i) next f.calls (is_for next after) (all_calls (IsFor c E) (IsFor c E') (all_for c E E' weaker) f.calls h.each);
  calls = λ j lj. decide_at j lj (cases_eq j i);
}
  where
    on_channel : (n : Next PlainUserCall) → After c i E' n → OnLive (λ y. y.channel ≡ channel_of c i) n
    on_channel (Live y) p = p.1.0
    on_channel Over p = tt
    on_channel Broken p = tt

    is_for : (n : Next PlainUserCall) → After c i E' n → OnLive (IsFor c E') n
    is_for (Live y) p = record { index = i; live = live; reference = p.0; channel = p.1.0; origin = p.1.1.0; state = p.1.1.1 }
    is_for Over p = tt
    is_for Broken p = tt

    held : (n : Next PlainUserCall) → After c i E' n → held_by (channel_of c i) (settle_calls (channel_of c i) n f.calls) ≡ option_of n
    held (Live y) p = settle_live (channel_of c i) y x f.calls is p.1.0
    held Over p = settle_gone (channel_of c i) f.calls h.own
    held Broken p = absurd p

    decide_at : (j : ℕ) → is_live (standing_at c j) ≡ true → (j ≡ i) ⊎ (j ≢ i) → Q' j (held_by (channel_of c j) (settle_calls (channel_of c i) next f.calls))
    decide_at j lj (inl same) = subst (λ k. Q' k (held_by (channel_of c k) (settle_calls (channel_of c i) next f.calls))) (sym same) (subst (Q' i) (sym (held next after)) mine)
    decide_at j lj (inr other) = subst (Q' j) (sym (settle_other (channel_of c i) (channel_of c j) next f.calls (λ e. other (day.apart j i lj live e)) (on_channel next after))) (others j (holder f (channel_of c j)) other (h.calls j lj))

-- a call that is taken
pub takes_is : (c : Day) (t : ℕ) (E E' : ℕ → UserState → Type 0) (Q Q' : ℕ → Option PlainUserCall → Type 0) (f : FarDay) (i : ℕ) (y : PlainUserCall) → IsCalledDay c → FarIs c t E Q f → is_live (standing_at c i) ≡ true → holder f (channel_of c i) ≡ None
    → ((j : ℕ) (s : UserState) → E j s → E' j s) → After c i E' (Live y) → Q' i (Some y) → ((j : ℕ) (v : Option PlainUserCall) → j ≢ i → Q j v → Q' j v)
    → FarIs c t E' Q' (record f { calls = insert_call y f.calls })
takes_is c t E E' Q Q' f i y day h live free weaker after mine others = record {
  moment = h.moment;
  script = h.script;
  clean = h.clean;
  own = insert_apart y f.calls (subst (λ k. AllByRecursion (λ (x : PlainUserCall). x.channel ≢ k) f.calls) (sym after.1.0) (none_on (channel_of c i) f.calls (ap is_some free))) h.own;
  each = insert_all (IsFor c E') y f.calls (record { index = i; live = live; reference = after.0; channel = after.1.0; origin = after.1.1.0; state = after.1.1.1 }) (all_calls (IsFor c E) (IsFor c E') (all_for c E E' weaker) f.calls h.each);
  calls = λ j lj. decide_at j lj (cases_eq j i);
}
  where
    decide_at : (j : ℕ) → is_live (standing_at c j) ≡ true → (j ≡ i) ⊎ (j ≢ i) → Q' j (held_by (channel_of c j) (insert_call y f.calls))
    decide_at j lj (inl same) = subst (λ k. Q' k (held_by (channel_of c k) (insert_call y f.calls))) (sym same) (subst (Q' i) (sym (insert_same (channel_of c i) y f.calls after.1.0 free)) mine)
    decide_at j lj (inr other) = subst (Q' j) (sym (insert_other (channel_of c j) y f.calls (λ e. other (day.apart j i lj live (sym e ∙ after.1.0))))) (others j (holder f (channel_of c j)) other (h.calls j lj))

-- where nothing changes
pub still_is : (c : Day) (t : ℕ) (E : ℕ → UserState → Type 0) (Q Q' : ℕ → Option PlainUserCall → Type 0) (f : FarDay) → FarIs c t E Q f → ((j : ℕ) (v : Option PlainUserCall) → is_live (standing_at c j) ≡ true → Q j v → Q' j v) → FarIs c t E Q' f
still_is c t E Q Q' f h g = record { moment = h.moment; script = h.script; clean = h.clean; own = h.own; each = h.each; calls = λ j lj. g j (holder f (channel_of c j)) lj (h.calls j lj) }
