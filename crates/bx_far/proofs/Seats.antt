-- Calls in slots are the calls in rising order of channel.
use Rattle.std.proofs.Common.{◌≡◌, ◌≢◌, ℕ, zero, suc, ◌+◌, ◌≤◌, ◌<◌, ◌==◌, true, false, List, [], ◌∷◌, length, Option, Some, None, arith, refl, sym, subst, ap, slice_set, is_some, nat_lt}
use Rattle.std.proofs.lemmas.Bool.{false≢true, eq-eqb}
use Rattle.std.proofs.lemmas.Bool.Decides.{nat_tests}
use Rattle.bx_channels.specs.ChannelNumbers.{IsChannel}
use Rattle.bx_calls.specs.PlainCalls.{PlainUserCall}
use Rattle.bx_calls.specs.declared.transition.Next.{Next}
use Rattle.bx_calls.specs.declared.transition.Next.TheVariants.{Live, Over, Broken}
use Rattle.bx_far.specs.FarDay.{first_call, is_on, insert_call, settle_calls, next_then}
use Rattle.bx_far.specs.Seats.{live_calls, IsCallSeat, AreSeated}
use Rattle.bx_far.specs.Inside.{call_slot_at, live_call_of}

pub none≢some : {X : Type 0} (x : X) → None ≡ Some x → ⊥
none≢some x e = false≢true (ap is_some e)

eq_false : (a b : ℕ) → a ≢ b → (a == b) ≡ false
eq_false a b ne = grind (arith, nat_tests)

lt_true : (a b : ℕ) → a < b → nat_lt a b ≡ true
lt_true a b lt = grind (arith, nat_tests)

lt_false : (a b : ℕ) → b ≤ a → nat_lt a b ≡ false
lt_false a b le = grind (arith, nat_tests)

-- ---- who holds a channel

none_on : (j n : ℕ) (slots : List (Option PlainUserCall)) → n < j → AreSeated j slots → first_call (is_on n) (live_calls slots) ≡ None
none_on j n [] lt h = refl
none_on j n (None ∷ xs) lt h = none_on (suc j) n xs (omega (arith, lt)) h.1
none_on j n (Some call ∷ xs) lt h = rw (eq_false call.channel n (λ e. absurd (omega (arith, lt, e, h.0.0)))) (none_on (suc j) n xs (omega (arith, lt)) h.1)

pub holder_is : (j c n : ℕ) (slots : List (Option PlainUserCall)) → n ≡ j + c → AreSeated j slots → first_call (is_on n) (live_calls slots) ≡ call_slot_at slots c
holder_is j c n [] e h = refl
holder_is j zero n (None ∷ xs) e h = none_on (suc j) n xs (omega (arith, e)) h.1
holder_is j (suc c) n (None ∷ xs) e h = holder_is (suc j) c n xs (omega (arith, e)) h.1
holder_is j zero n (Some call ∷ xs) e h = rw (eq-eqb call.channel n (omega (arith, e, h.0.0))) refl
holder_is j (suc c) n (Some call ∷ xs) e h = rw (eq_false call.channel n (λ q. absurd (omega (arith, e, q, h.0.0)))) (holder_is (suc j) c n xs (omega (arith, e)) h.1)

-- ---- what became of a call

pub next_is : (next : Next PlainUserCall) (xs : List (Option PlainUserCall)) → live_calls (live_call_of next ∷ xs) ≡ next_then next (live_calls xs)
next_is (Live call) xs = refl
next_is Over xs = refl
next_is Broken xs = refl

pub settle_is : (j c n : ℕ) (next : Next PlainUserCall) (call : PlainUserCall) (slots : List (Option PlainUserCall)) → n ≡ j + c → AreSeated j slots → call_slot_at slots c ≡ Some call
    → live_calls (slice_set slots c (live_call_of next)) ≡ settle_calls n next (live_calls slots)
settle_is j c n next call [] e h at = absurd (none≢some call at)
settle_is j zero n next call (None ∷ xs) e h at = absurd (none≢some call at)
settle_is j (suc c) n next call (None ∷ xs) e h at = settle_is (suc j) c n next call xs (omega (arith, e)) h.1 at
settle_is j zero n next call (Some x ∷ xs) e h at = rw (eq-eqb x.channel n (omega (arith, e, h.0.0))) (next_is next xs)
settle_is j (suc c) n next call (Some x ∷ xs) e h at = rw (eq_false x.channel n (λ q. absurd (omega (arith, e, q, h.0.0)))) (ap (λ ys. x ∷ ys) (settle_is (suc j) c n next call xs (omega (arith, e)) h.1 at))

-- ---- a new call

insert_first : (j : ℕ) (new : PlainUserCall) (slots : List (Option PlainUserCall)) → new.channel < j → AreSeated j slots → insert_call new (live_calls slots) ≡ new ∷ live_calls slots
insert_first j new [] lt h = refl
insert_first j new (None ∷ xs) lt h = insert_first (suc j) new xs (omega (arith, lt)) h.1
insert_first j new (Some x ∷ xs) lt h = rw (lt_true new.channel x.channel (omega (arith, lt, h.0.0))) refl

pub insert_is : (j c : ℕ) (new : PlainUserCall) (slots : List (Option PlainUserCall)) → new.channel ≡ j + c → c < length slots → call_slot_at slots c ≡ None → AreSeated j slots
    → live_calls (slice_set slots c (Some new)) ≡ insert_call new (live_calls slots)
insert_is j c new [] e lt at h = absurd (omega (arith, lt))
insert_is j zero new (None ∷ xs) e lt at h = sym (insert_first (suc j) new xs (omega (arith, e)) h.1)
insert_is j (suc c) new (None ∷ xs) e lt at h = insert_is (suc j) c new xs (omega (arith, e)) (omega (arith, lt)) at h.1
insert_is j zero new (Some x ∷ xs) e lt at h = absurd (none≢some x (sym at))
insert_is j (suc c) new (Some x ∷ xs) e lt at h = rw (lt_false new.channel x.channel (omega (arith, e, h.0.0))) (ap (λ ys. x ∷ ys) (insert_is (suc j) c new xs (omega (arith, e)) (omega (arith, lt)) at h.1))

-- ---- seats

pub seated_set : (j c n : ℕ) (o : Option PlainUserCall) (slots : List (Option PlainUserCall)) → n ≡ j + c → IsCallSeat n o → AreSeated j slots → AreSeated j (slice_set slots c o)
seated_set j c n o [] e seat h = h
seated_set j zero n o (x ∷ xs) e seat h = (subst (λ k. IsCallSeat k o) (omega (arith, e)) seat, h.1)
seated_set j (suc c) n o (x ∷ xs) e seat h = (h.0, seated_set (suc j) c n o xs (omega (arith, e)) seat h.1)

pub seat_at : (j c n : ℕ) (call : PlainUserCall) (slots : List (Option PlainUserCall)) → n ≡ j + c → call_slot_at slots c ≡ Some call → AreSeated j slots → (call.channel ≡ n) × IsChannel n
seat_at j c n call [] e at h = absurd (none≢some call at)
seat_at j zero n call (x ∷ xs) e at h = subst (λ k. (call.channel ≡ k) × IsChannel k) (omega (arith, e)) (subst (IsCallSeat j) at h.0)
seat_at j (suc c) n call (x ∷ xs) e at h = seat_at (suc j) c n call xs (omega (arith, e)) at h.1
