-- The far end's calls, channel by channel: who holds a channel after a step.
use Rattle.std.proofs.Common.{◌≡◌, ◌≢◌, ℕ, zero, suc, ◌<◌, ◌==◌, Bool, true, false, List, [], ◌∷◌, length, Option, Some, None, refl, sym, ap, subst, ◌∙◌, nat_lt, is_some, slice_set, slice_index_or, if◌then◌else◌}
use Rattle.std.specs.List.{AllByRecursion, list_any}
use Rattle.std.proofs.lemmas.Bool.{true≢false, eq-eqb, eqb-true, ne_eqb, or_left, or_right}
use Rattle.std.proofs.lemmas.List.{get_or-set_same, get_or-set_other}
use Rattle.bx_q931.specs.Outgoing.{Outgoing}
use Rattle.bx_calls.specs.PlainCalls.{PlainUserCall}
use Rattle.bx_calls.specs.Sending.{in_order}
use Rattle.bx_calls.specs.UserTable.{user_second}
use Rattle.bx_calls.specs.declared.transition.Next.{Next}
use Rattle.bx_calls.specs.declared.transition.Next.TheVariants.{Live, Over, Broken}
use Rattle.bx_day.proofs.Tick.{by_cases}
use Rattle.bx_far.specs.FarDay.{first_call, is_on, insert_call, next_then, settle_calls, second_calls, second_said}
use Rattle.bx_two_ends.specs.TwoEnds.{AreOnTheirOwn}
use Rattle.bx_two_ends.proofs.FarCalls.{OnLive}

abbrev pub held_by : ℕ → List PlainUserCall → Option PlainUserCall
held_by ch cs = first_call (is_on ch) cs

some_none : {A : Type 0} (x : A) → Some x ≡ None → ⊥
some_none x h = true≢false (ap is_some h)

-- ---- a new call

pub insert_same : (ch : ℕ) (new : PlainUserCall) (cs : List PlainUserCall) → new.channel ≡ ch → held_by ch cs ≡ None → held_by ch (insert_call new cs) ≡ Some new
insert_same ch new [] on none = ap (λ b. if b then Some new else None) (eq-eqb new.channel ch on)
insert_same ch new (x ∷ xs) on none = by_cases (nat_lt new.channel x.channel) _ _ (λ (ys : List PlainUserCall). held_by ch ys ≡ Some new)
    (λ _. ap (λ b. if b then Some new else held_by ch (x ∷ xs)) (eq-eqb new.channel ch on))
    (λ _. after (x.channel == ch) none (insert_same ch new xs on))
  where
    after : (b : Bool) → (if b then Some x else held_by ch xs) ≡ None → (held_by ch xs ≡ None → held_by ch (insert_call new xs) ≡ Some new) → (if b then Some x else held_by ch (insert_call new xs)) ≡ Some new
    after true n f = absurd (some_none x n)
    after false n f = f n

pub insert_other : (ch : ℕ) (new : PlainUserCall) (cs : List PlainUserCall) → new.channel ≢ ch → held_by ch (insert_call new cs) ≡ held_by ch cs
insert_other ch new [] off = ap (λ b. if b then Some new else None) (ne_eqb new.channel ch off)
insert_other ch new (x ∷ xs) off = by_cases (nat_lt new.channel x.channel) _ _ (λ (ys : List PlainUserCall). held_by ch ys ≡ held_by ch (x ∷ xs))
    (λ _. ap (λ b. if b then Some new else held_by ch (x ∷ xs)) (ne_eqb new.channel ch off))
    (λ _. ap (λ r. if x.channel == ch then Some x else r) (insert_other ch new xs off))

-- ---- what became of one

pub settle_live : (ch : ℕ) (y x : PlainUserCall) (cs : List PlainUserCall) → held_by ch cs ≡ Some x → y.channel ≡ ch → held_by ch (settle_calls ch (Live y) cs) ≡ Some y
settle_live ch y x [] h on = absurd (some_none x (sym h))
settle_live ch y x (z ∷ zs) h on = by_cases (z.channel == ch) _ _ (λ (ys : List PlainUserCall). held_by ch ys ≡ Some y)
    (λ _. ap (λ b. if b then Some y else held_by ch zs) (eq-eqb y.channel ch on))
    (λ off. ap (λ b. if b then Some z else held_by ch (settle_calls ch (Live y) zs)) off ∙ settle_live ch y x zs (sym (ap (λ b. if b then Some z else held_by ch zs) off) ∙ h) on)

none_following : (z : PlainUserCall) (zs : List PlainUserCall) (ch : ℕ) → z.channel ≡ ch → AllByRecursion (λ (x : PlainUserCall). z.channel ≢ x.channel) zs → held_by ch zs ≡ None
none_following z [] ch on h = refl
none_following z (x ∷ xs) ch on h = ap (λ b. if b then Some x else held_by ch xs) (ne_eqb x.channel ch (λ e. h.0 (on ∙ sym e))) ∙ none_following z xs ch on h.1

pub settle_gone : (ch : ℕ) (cs : List PlainUserCall) → AreOnTheirOwn cs → held_by ch (settle_calls ch Over cs) ≡ None
settle_gone ch [] own = refl
settle_gone ch (z ∷ zs) own = by_cases (z.channel == ch) _ _ (λ (ys : List PlainUserCall). held_by ch ys ≡ None)
    (λ on. none_following z zs ch (eqb-true z.channel ch on) own.0)
    (λ off. ap (λ b. if b then Some z else held_by ch (settle_calls ch Over zs)) off ∙ settle_gone ch zs own.1)

pub settle_other : (ch other : ℕ) (next : Next PlainUserCall) (cs : List PlainUserCall) → other ≢ ch → OnLive (λ x. x.channel ≡ ch) next → held_by other (settle_calls ch next cs) ≡ held_by other cs
settle_other ch other next [] ne on = refl
settle_other ch other next (z ∷ zs) ne on = by_cases (z.channel == ch) _ _ (λ (ys : List PlainUserCall). held_by other ys ≡ held_by other (z ∷ zs))
    (λ here. then_is next on ∙ sym (ap (λ b. if b then Some z else held_by other zs) (ne_eqb z.channel other (λ e. ne (sym e ∙ eqb-true z.channel ch here)))))
    (λ _. ap (λ r. if z.channel == other then Some z else r) (settle_other ch other next zs ne on))
  where
    then_is : (n : Next PlainUserCall) → OnLive (λ x. x.channel ≡ ch) n → held_by other (next_then n zs) ≡ held_by other zs
    then_is (Live y) p = ap (λ b. if b then Some y else held_by other zs) (ne_eqb y.channel other (λ e. ne (sym e ∙ p)))
    then_is Over p = refl
    then_is Broken p = refl

-- ---- a second, in which each goes on

abbrev pub GoesOnIn : ℕ → PlainUserCall → Type 0
GoesOnIn t x = (y : PlainUserCall) × ((user_second x t).next ≡ Live y) × (y.channel ≡ x.channel)

pub second_held : (t ch : ℕ) (x y : PlainUserCall) (cs : List PlainUserCall) → AllByRecursion (GoesOnIn t) cs → held_by ch cs ≡ Some x → (user_second x t).next ≡ Live y → held_by ch (second_calls t cs) ≡ Some y
second_held t ch x y [] all h is = absurd (some_none x (sym h))
second_held t ch x y (z ∷ zs) all h is =
    let w = all.0.0 in
    subst (λ (n : Next PlainUserCall). held_by ch (next_then n (second_calls t zs)) ≡ Some y) (sym all.0.1)
    (go (z.channel == ch) refl h (second_held t ch x y zs all.1))
  where
    w : PlainUserCall
    w = all.0.0

    OfIt : Option PlainUserCall → Type 0
    OfIt None = Unit {0}
    OfIt (Some v) = (user_second v t).next ≡ Live y → Live w ≡ Live y

    live_of : Next PlainUserCall → PlainUserCall → PlainUserCall
    live_of (Live v) other = v
    live_of n other = other

    go : (b : Bool) → (z.channel == ch) ≡ b → (if b then Some z else held_by ch zs) ≡ Some x → (held_by ch zs ≡ Some x → (user_second x t).next ≡ Live y → held_by ch (second_calls t zs) ≡ Some y) → (if w.channel == ch then Some w else held_by ch (second_calls t zs)) ≡ Some y
    go true on same rest =
        ap (λ b. if b then Some w else held_by ch (second_calls t zs)) (eq-eqb w.channel ch (all.0.2 ∙ eqb-true z.channel ch on))
        ∙ ap (λ n. Some (live_of n w)) (subst OfIt same (λ q. sym all.0.1 ∙ q) is)
    go false off same rest =
        ap (λ b. if b then Some w else held_by ch (second_calls t zs)) (ne_eqb w.channel ch (λ e. true≢false (sym (eq-eqb z.channel ch (sym all.0.2 ∙ e)) ∙ off))) ∙ rest same is

-- ---- what is said in it

slot : List (Option Outgoing) → ℕ → Option Outgoing
slot said ch = slice_index_or said ch None

said_size : (t : ℕ) (cs : List PlainUserCall) (said : List (Option Outgoing)) → length (second_said t cs said) ≡ length said
said_size t [] said = refl
said_size t (c ∷ cs) said = said_size t cs (slice_set said c.channel (user_second c t).reply) ∙ size said c.channel (user_second c t).reply
  where
    size : (xs : List (Option Outgoing)) (i : ℕ) (v : Option Outgoing) → length (slice_set xs i v) ≡ length xs
    size [] i v = refl
    size (x ∷ xs) zero v = refl
    size (x ∷ xs) (suc i) v = ap suc (size xs i v)

-- a slot on whose channel none of these is
slot_kept : (t ch : ℕ) (cs : List PlainUserCall) (said : List (Option Outgoing)) → AllByRecursion (λ (x : PlainUserCall). ch ≢ x.channel) cs → slice_index_or (second_said t cs said) ch None ≡ slice_index_or said ch None
slot_kept t ch [] said h = refl
slot_kept t ch (c ∷ cs) said h = slot_kept t ch cs (slice_set said c.channel (user_second c t).reply) h.1 ∙ get_or-set_other said c.channel ch (user_second c t).reply None h.0

set_size : (xs : List (Option Outgoing)) (i : ℕ) (v : Option Outgoing) → length (slice_set xs i v) ≡ length xs
set_size [] i v = refl
set_size (x ∷ xs) zero v = refl
set_size (x ∷ xs) (suc i) v = ap suc (set_size xs i v)

pub slot_said : (t ch : ℕ) (x : PlainUserCall) (cs : List PlainUserCall) (said : List (Option Outgoing)) → AreOnTheirOwn cs → held_by ch cs ≡ Some x → ch < length said → slice_index_or (second_said t cs said) ch None ≡ (user_second x t).reply
slot_said t ch x [] said own h lt = absurd (some_none x (sym h))
slot_said t ch x (z ∷ zs) said own h lt = go (z.channel == ch) refl h (slot_said t ch x zs (slice_set said z.channel (user_second z t).reply) own.1)
  where
    next : List (Option Outgoing)
    next = slice_set said z.channel (user_second z t).reply

    OfIt : Option PlainUserCall → Type 0
    OfIt None = Unit {0}
    OfIt (Some v) = slice_index_or (second_said t zs next) ch None ≡ (user_second v t).reply

    go : (b : Bool) → (z.channel == ch) ≡ b → (if b then Some z else held_by ch zs) ≡ Some x → (held_by ch zs ≡ Some x → ch < length next → slice_index_or (second_said t zs next) ch None ≡ (user_second x t).reply) → slice_index_or (second_said t zs next) ch None ≡ (user_second x t).reply
    go true on same rest =
        let is : z.channel ≡ ch = eqb-true z.channel ch on in
        subst OfIt same (slot_kept t ch zs next (subst (λ k. AllByRecursion (λ (y : PlainUserCall). k ≢ y.channel) zs) is own.0)
        ∙ subst (λ k. slice_index_or (slice_set said k (user_second z t).reply) ch None ≡ (user_second z t).reply) (sym is) (get_or-set_same said ch (user_second z t).reply None lt))
    go false off same rest = rest same (subst (λ n. ch < n) (sym (set_size said z.channel (user_second z t).reply)) lt)

-- a message in a slot is sent
pub order_has : (p : Outgoing → Bool) (said : List (Option Outgoing)) (ch : ℕ) (o : Outgoing) → slice_index_or said ch None ≡ Some o → p o ≡ true → list_any p (in_order said) ≡ true
order_has p [] ch o h q = absurd (some_none o (sym h))
order_has p (None ∷ said) zero o h q = absurd (some_none o (sym h))
order_has p (Some x ∷ said) zero o h q = or_left (p x) (list_any p (in_order said)) (subst OfIt (sym h) q)
  where
    OfIt : Option Outgoing → Type 0
    OfIt None = Unit {0}
    OfIt (Some v) = p v ≡ true
order_has p (None ∷ said) (suc ch) o h q = order_has p said ch o h q
order_has p (Some x ∷ said) (suc ch) o h q = or_right (p x) (list_any p (in_order said)) (order_has p said ch o h q)
