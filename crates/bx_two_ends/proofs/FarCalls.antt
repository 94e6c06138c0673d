-- The calls of the far end, one by one: what a step leaves of them.
use Rattle.std.proofs.Common.{◌≡◌, ◌≢◌, ◌⊎◌, inl, inr, ℕ, ◌==◌, ◌||◌, Bool, true, false, List, [], ◌∷◌, Option, Some, None, refl, sym, ap, subst, ◌∙◌, if◌then◌else◌, nat_lt, is_some}
use Rattle.std.specs.List.{AllByRecursion, list_any}
use Rattle.std.proofs.lemmas.Bool.{false≢true, true≢false, eq-eqb, eqb-true, or_left, or_right}
use Rattle.bx_calls.specs.PlainCalls.{PlainUserCall}
use Rattle.bx_calls.specs.declared.transition.Next.{Next}
use Rattle.bx_calls.specs.declared.transition.Next.TheVariants.{Live, Over, Broken}
use Rattle.bx_far.specs.FarDay.{insert_call, next_then, settle_calls, first_call, is_on}
use Rattle.bx_two_ends.specs.TwoEnds.{AreOnTheirOwn}
use Rattle.bx_day.proofs.Tick.{by_cases}

pub all_calls : (P Q : PlainUserCall → Type 0) → ((c : PlainUserCall) → P c → Q c) → (cs : List PlainUserCall) → AllByRecursion P cs → AllByRecursion Q cs
all_calls P Q f [] h = tt
all_calls P Q f (c ∷ cs) h = (f c h.0, all_calls P Q f cs h.1)

-- ---- a new call

pub insert_all : (P : PlainUserCall → Type 0) (new : PlainUserCall) (cs : List PlainUserCall) → P new → AllByRecursion P cs → AllByRecursion P (insert_call new cs)
insert_all P new [] p h = (p, tt)
insert_all P new (c ∷ cs) p h = by_cases (nat_lt new.channel c.channel) _ _ (AllByRecursion P) (λ _. (p, h)) (λ _. (h.0, insert_all P new cs p h.1))

pub insert_apart : (new : PlainUserCall) (cs : List PlainUserCall) → AllByRecursion (λ (c : PlainUserCall). c.channel ≢ new.channel) cs → AreOnTheirOwn cs → AreOnTheirOwn (insert_call new cs)
insert_apart new [] h k = (tt, tt)
insert_apart new (c ∷ cs) h k = by_cases (nat_lt new.channel c.channel) _ _ AreOnTheirOwn
    (λ _. (all_calls (λ x. x.channel ≢ new.channel) (λ x. new.channel ≢ x.channel) (λ x ne q. ne (sym q)) (c ∷ cs) h, k))
    (λ _. (insert_all (λ x. c.channel ≢ x.channel) new cs h.0 k.0, insert_apart new cs h.1 k.1))

pub insert_any : (p : PlainUserCall → Bool) (new : PlainUserCall) (cs : List PlainUserCall) → list_any p cs ≡ true → list_any p (insert_call new cs) ≡ true
insert_any p new [] h = absurd (false≢true h)
insert_any p new (c ∷ cs) h = by_cases (nat_lt new.channel c.channel) _ _ (λ (xs : List PlainUserCall). list_any p xs ≡ true)
    (λ _. or_right (p new) (p c || list_any p cs) h)
    (λ _. step (p c) h (λ q. insert_any p new cs q))
  where
    step : (b : Bool) → (b || list_any p cs) ≡ true → (list_any p cs ≡ true → list_any p (insert_call new cs) ≡ true) → (b || list_any p (insert_call new cs)) ≡ true
    step true q f = refl
    step false q f = f q

-- no call is on a channel that is not held
pub none_on : (c : ℕ) (cs : List PlainUserCall) → is_some (first_call (is_on c) cs) ≡ false → AllByRecursion (λ (x : PlainUserCall). x.channel ≢ c) cs
none_on c [] h = tt
none_on c (x ∷ xs) h = go (x.channel == c) refl h (λ q. none_on c xs q)
  where
    go : (b : Bool) → (x.channel == c) ≡ b → is_some (if b then Some x else first_call (is_on c) xs) ≡ false → (is_some (first_call (is_on c) xs) ≡ false → AllByRecursion (λ (y : PlainUserCall). y.channel ≢ c) xs) → AllByRecursion (λ (y : PlainUserCall). y.channel ≢ c) (x ∷ xs)
    go true q h' f = absurd (true≢false h')
    go false q h' f = ((λ e. false≢true (sym q ∙ eq-eqb x.channel c e)), f h')

-- ---- the call that is found

pub first_found : (P : PlainUserCall → Type 0) (test : PlainUserCall → Bool) (cs : List PlainUserCall) (call : PlainUserCall) → first_call test cs ≡ Some call → AllByRecursion P cs → (test call ≡ true) × P call
first_found P test [] call q h = absurd (false≢true (ap is_some q))
first_found P test (c ∷ cs) call q h = go (test c) refl q (λ r. first_found P test cs call r h.1)
  where
    OfIt : Option PlainUserCall → Type 0
    OfIt None = Unit {0}
    OfIt (Some x) = (test x ≡ true) × P x

    go : (b : Bool) → test c ≡ b → (if b then Some c else first_call test cs) ≡ Some call → (first_call test cs ≡ Some call → (test call ≡ true) × P call) → (test call ≡ true) × P call
    go true t q' f = subst OfIt q' (t, h.0)
    go false t q' f = f q'

-- each that is on the channel of the call is the call
abbrev pub OnlyOne : PlainUserCall → List PlainUserCall → Type 0
OnlyOne call cs = AllByRecursion (λ (x : PlainUserCall). x.channel ≡ call.channel → x ≡ call) cs

pub only_one : (test : PlainUserCall → Bool) (cs : List PlainUserCall) (call : PlainUserCall) → first_call test cs ≡ Some call → AreOnTheirOwn cs → OnlyOne call cs
only_one test [] call q own = tt
only_one test (c ∷ cs) call q own = go (test c) refl q (λ r. only_one test cs call r own.1)
  where
    OfIt : Option PlainUserCall → Type 0
    OfIt None = Unit {0}
    OfIt (Some x) = OnlyOne x (c ∷ cs)

    go : (b : Bool) → test c ≡ b → (if b then Some c else first_call test cs) ≡ Some call → (first_call test cs ≡ Some call → OnlyOne call cs) → OnlyOne call (c ∷ cs)
    go true t q' f = subst OfIt q' ((λ _. refl), all_calls (λ x. c.channel ≢ x.channel) (λ x. x.channel ≡ c.channel → x ≡ c) (λ x ne e. absurd (ne (sym e))) cs own.0)
    go false t q' f = ((λ e. absurd ((first_found (λ x. c.channel ≢ x.channel) test cs call q' own.0).1 e)), f q')

-- ---- what became of a call

abbrev pub OnLive : (PlainUserCall → Type 0) → Next PlainUserCall → Type 0
OnLive P (Live c) = P c
OnLive P Over = Unit {0}
OnLive P Broken = Unit {0}

pub next_all : (P : PlainUserCall → Type 0) (next : Next PlainUserCall) (cs : List PlainUserCall) → OnLive P next → AllByRecursion P cs → AllByRecursion P (next_then next cs)
next_all P (Live c) cs p h = (p, h)
next_all P Over cs p h = h
next_all P Broken cs p h = h

pub settle_all : (P : PlainUserCall → Type 0) (c : ℕ) (next : Next PlainUserCall) (cs : List PlainUserCall) → OnLive P next → AllByRecursion P cs → AllByRecursion P (settle_calls c next cs)
settle_all P c next [] p h = tt
settle_all P c next (x ∷ xs) p h = by_cases (x.channel == c) _ _ (AllByRecursion P) (λ _. next_all P next xs p h.1) (λ _. (h.0, settle_all P c next xs p h.1))

pub next_apart : (c : ℕ) (next : Next PlainUserCall) (cs : List PlainUserCall) → OnLive (λ x. x.channel ≡ c) next → AllByRecursion (λ (x : PlainUserCall). c ≢ x.channel) cs → AreOnTheirOwn cs → AreOnTheirOwn (next_then next cs)
next_apart c (Live n) cs p h k = (subst (λ (ch : ℕ). AllByRecursion (λ (x : PlainUserCall). ch ≢ x.channel) cs) (sym p) h, k)
next_apart c Over cs p h k = k
next_apart c Broken cs p h k = k

pub settle_apart : (c : ℕ) (next : Next PlainUserCall) (cs : List PlainUserCall) → OnLive (λ x. x.channel ≡ c) next → AreOnTheirOwn cs → AreOnTheirOwn (settle_calls c next cs)
settle_apart c next [] p h = tt
settle_apart c next (x ∷ xs) p h = by_cases (x.channel == c) _ _ AreOnTheirOwn
    (λ q. next_apart c next xs p (subst (λ (ch : ℕ). AllByRecursion (λ (y : PlainUserCall). ch ≢ y.channel) xs) (eqb-true x.channel c q) h.0) h.1)
    (λ q. (settle_all (λ y. x.channel ≢ y.channel) c next xs (other next p (λ e. false≢true (sym q ∙ eq-eqb x.channel c e))) h.0, settle_apart c next xs p h.1))
  where
    other : (n : Next PlainUserCall) → OnLive (λ y. y.channel ≡ c) n → (x.channel ≢ c) → OnLive (λ y. x.channel ≢ y.channel) n
    other (Live y) on ne = λ e. ne (e ∙ on)
    other Over on ne = tt
    other Broken on ne = tt

abbrev pub next_passes : (PlainUserCall → Bool) → Next PlainUserCall → Bool
next_passes p (Live c) = p c
next_passes p _ = false

pub next_has : (p : PlainUserCall → Bool) (next : Next PlainUserCall) (cs : List PlainUserCall) → next_passes p next ≡ true → list_any p (next_then next cs) ≡ true
next_has p (Live c) cs h = or_left (p c) (list_any p cs) h
next_has p Over cs h = absurd (false≢true h)
next_has p Broken cs h = absurd (false≢true h)

pub next_rest : (p : PlainUserCall → Bool) (next : Next PlainUserCall) (cs : List PlainUserCall) → list_any p cs ≡ true → list_any p (next_then next cs) ≡ true
next_rest p (Live c) cs h = or_right (p c) (list_any p cs) h
next_rest p Over cs h = h
next_rest p Broken cs h = h

-- one that passes is still there, or it was the call of which this became
pub settle_any : (R : Type 0) (p : PlainUserCall → Bool) (call : PlainUserCall) (next : Next PlainUserCall) (cs : List PlainUserCall) → OnlyOne call cs → (p call ≡ true → (next_passes p next ≡ true) ⊎ R) → list_any p cs ≡ true
    → (list_any p (settle_calls call.channel next cs) ≡ true) ⊎ R
settle_any R p call next [] one f h = absurd (false≢true h)
settle_any R p call next (x ∷ xs) one f h = by_cases (x.channel == call.channel) _ _ (λ (ys : List PlainUserCall). (list_any p ys ≡ true) ⊎ R)
    (λ q. here (p x) refl h (one.0 (eqb-true x.channel call.channel q)))
    (λ q. there (p x) h (λ r. settle_any R p call next xs one.1 f r))
  where
    here : (b : Bool) → p x ≡ b → (b || list_any p xs) ≡ true → x ≡ call → (list_any p (next_then next xs) ≡ true) ⊎ R
    here false e h' same = inl (next_rest p next xs h')
    here true e h' same = elim (f (sym (ap p same) ∙ e)) [
      | inl k ↦ inl (next_has p next xs k)
      | inr r ↦ inr r
    ]

    there : (b : Bool) → (b || list_any p xs) ≡ true → (list_any p xs ≡ true → (list_any p (settle_calls call.channel next xs) ≡ true) ⊎ R) → ((b || list_any p (settle_calls call.channel next xs)) ≡ true) ⊎ R
    there true h' g = inl refl
    there false h' g = g h'
