-- What a day's records total as paid, where each accepted booking was carried, is what the plan's accepted bookings pay.
use Rattle.std.proofs.Common.{◌≡◌, nat_le, nat_lt, ℕ, zero, suc, ◌+◌, ◌<◌, not, Bool, true, false, List, [], ◌∷◌, length, Option, arith, refl, sym, ap, ◌∙◌, if◌then◌else◌}
use Rattle.std.proofs.lemmas.Bool.{false≢true, and_parts, lt-ltb, ltb-true}
use Rattle.bx_base.specs.Bookings.{Row, row_at, is_running, pay_of}
use Rattle.bx_base.specs.Plans as plan
use Rattle.bx_base.specs.Sums.{sum_below}
use Rattle.bx_day.specs.Day.{Day, entry_at}
use Rattle.bx_two_ends.specs.Earning.{IsDayOfPlan, IsCarriedBy}
use Rattle.bx_day.specs.Invariant.{is_refused, stands_accepted}
use Rattle.bx_day.specs.Law.{standing_at}
use Rattle.bx_day.specs.declared.entry.Entry.{Entry}
use Rattle.bx_day.specs.declared.entry.Standing.{Standing}
use Rattle.bx_day.specs.declared.entry.Standing.TheVariants.{Refused, Carried}
use Rattle.bx_records.specs.Totals.{is_carried, pays_of}

-- the pay of a place
abbrev paid_at : (Standing → Bool) → List Entry → ℕ → ℕ
paid_at test es i = if test (entry_at es i).standing then (entry_at es i).booking.pay else 0

sum_first : (n : ℕ) (f : ℕ → ℕ) → sum_below (suc n) f ≡ f 0 + sum_below n (λ i. f (suc i))
sum_first zero f = omega arith
sum_first (suc n) f = omega (arith, sum_first n f)

sum_same : (n : ℕ) (f g : ℕ → ℕ) → ((i : ℕ) → i < n → f i ≡ g i) → sum_below n f ≡ sum_below n g
sum_same zero f g h = refl
sum_same (suc n) f g h = omega (arith, sum_same n f g (λ i lt. h i (omega (arith, lt))), h n (omega arith))

-- a total is a sum over places
pays_sum : (test : Standing → Bool) (es : List Entry) → pays_of test es ≡ sum_below (length es) (paid_at test es)
pays_sum test [] = refl
pays_sum test (e ∷ es) = ap (λ n. (if test e.standing then e.booking.pay else 0) + n) (pays_sum test es) ∙ sym (sum_first (length es) (paid_at test (e ∷ es)))

not_not : (b : Bool) → not (not b) ≡ b
not_not true = refl
not_not false = refl

pay_if : (b c : Bool) (p q : ℕ) → b ≡ c → p ≡ q → (if b then p else 0) ≡ (if c then q else 0)
pay_if b c p q same is = ap (λ x. if x then p else 0) same ∙ ap (λ n. if c then n else 0) is

pub accepted_pay : (rows : List Row) (assigned : List (Option ℕ)) (d : Day) → IsDayOfPlan rows assigned d → pays_of stands_accepted d.entries ≡ pay_of rows (plan.is_accepted assigned)
accepted_pay rows assigned d h =
    pays_sum stands_accepted d.entries
    ∙ ap (λ n. sum_below n (paid_at stands_accepted d.entries)) h.size
    ∙ sum_same (length rows) (paid_at stands_accepted d.entries) (λ i. if plan.is_accepted assigned i then (row_at rows i).pay else 0) (λ i lt.
    pay_if (stands_accepted (standing_at d i)) (plan.is_accepted assigned i) (entry_at d.entries i).booking.pay (row_at rows i).pay (ap not (h.accepted i lt) ∙ not_not (plan.is_accepted assigned i)) (ap (λ (b : Row). b.pay) (h.booking i lt)))

-- a booking that runs has not ended
pub runs_before : (b : Row) (t : ℕ) → is_running b t ≡ true → t < b.end
runs_before b t runs = ltb-true t b.end (and_parts (nat_le b.start t) (nat_lt t b.end) runs).1

carried_is : (u end : ℕ) (s : Standing) → u < end → IsCarriedBy u end s → is_carried s ≡ true
carried_is u end (Carried from until) lt h = lt-ltb from until (omega (arith, lt, h.0, h.1))
carried_is u end s lt h = absurd h

refused_none : (s : Standing) → is_refused s ≡ true → is_carried s ≡ false
refused_none Refused h = refl
refused_none s h = absurd (false≢true h)

-- each accepted booking was carried by some moment before its end
abbrev pub AllCarried : List Row → List (Option ℕ) → Day → Type 0
AllCarried rows assigned d = (i : ℕ) → i < length rows → plan.is_accepted assigned i ≡ true → (u : ℕ) × (u < (row_at rows i).end) × IsCarriedBy u (row_at rows i).end (standing_at d i)

carried_or_not : (a : Bool) (s : Standing) → is_refused s ≡ not a → (a ≡ true → is_carried s ≡ true) → is_carried s ≡ a
carried_or_not true s h f = f refl
carried_or_not false s h f = refused_none s h

pub carried_pay : (rows : List Row) (assigned : List (Option ℕ)) (d : Day) → IsDayOfPlan rows assigned d → AllCarried rows assigned d → pays_of is_carried d.entries ≡ pay_of rows (plan.is_accepted assigned)
carried_pay rows assigned d h all =
    pays_sum is_carried d.entries
    ∙ ap (λ n. sum_below n (paid_at is_carried d.entries)) h.size
    ∙ sum_same (length rows) (paid_at is_carried d.entries) (λ i. if plan.is_accepted assigned i then (row_at rows i).pay else 0) (λ i lt.
    pay_if (is_carried (standing_at d i)) (plan.is_accepted assigned i) (entry_at d.entries i).booking.pay (row_at rows i).pay
    (carried_or_not (plan.is_accepted assigned i) (standing_at d i) (h.accepted i lt) (λ on. let p = all i lt on in carried_is p.0 (row_at rows i).end (standing_at d i) p.1 p.2))
    (ap (λ (b : Row). b.pay) (h.booking i lt)))
