-- The check has one answer: each answer says what was passed before it, and that it does not pass.
use Rattle.std.proofs.Common.{zero, suc, if◌then◌else◌, ◌==◌, subst, ◌≡◌, ℕ, ◌+◌, ◌-◌, ◌<◌, ◌∙◌, Bool, List, Result, Ok, Err, inl, inr, refl, sym, arith}
use Rattle.std.specs.Prelude.{⊤, pos}
use Rattle.std.proofs.lemmas.Int.{ints}
use Rattle.std.proofs.lemmas.Bool.{cases_order}
use Rattle.bx_base.specs.Bookings.{Row}
use Rattle.bx_base.specs.Bound.{bound_of}
use Rattle.bx_base.specs.Channels.{count_of}
use Rattle.bx_base.specs.PlanParts.{Parts}
use Rattle.bx_check.specs.Check.{IsFor, AllInService, NoneOverlap, IsTotalRight, IsRising, IsNotInService, IsOverlap, IsMustMissing, IsSound, IsOutcome}
use Rattle.bx_check.specs.declared.checker.CheckFault.{CheckFault}
use Rattle.bx_check.specs.declared.checker.CheckFault.TheVariants.{OtherBookings, OtherChannels, NotInService, Overlap, MustLeftOut, WrongTotal, PricesOutOfOrder, NotProved}

-- how many tests were passed before an answer
abbrev tests : Result ℕ CheckFault → ℕ
tests (Err OtherBookings) = 0
tests (Err OtherChannels) = 1
tests (Err (NotInService b)) = 2
tests (Err (Overlap a b)) = 3
tests (Err (MustLeftOut b)) = 4
tests (Err WrongTotal) = 5
tests (Err PricesOutOfOrder) = 6
tests (Err (NotProved bound)) = 7
tests (Ok total) = 8

-- the numbers of an answer
abbrev first : Result ℕ CheckFault → ℕ
first (Err (NotInService b)) = b
first (Err (Overlap a b)) = a
first (Err (MustLeftOut b)) = b
first (Err (NotProved bound)) = bound
first (Ok total) = total
first _ = 0

abbrev second : Result ℕ CheckFault → ℕ
second (Err (Overlap a b)) = b
second _ = 0

-- the answer of so many tests with these numbers
abbrev answer : ℕ → ℕ → ℕ → Result ℕ CheckFault
answer n a b =
    if n == 0 then Err OtherBookings
    else (if n == 1 then Err OtherChannels
    else (if n == 2 then Err (NotInService a)
    else (if n == 3 then Err (Overlap a b)
    else (if n == 4 then Err (MustLeftOut a)
    else (if n == 5 then Err WrongTotal
    else (if n == 6 then Err PricesOutOfOrder
    else (if n == 7 then Err (NotProved a) else Ok a)))))))

answered : (r : Result ℕ CheckFault) → answer (tests r) (first r) (second r) ≡ r
answered (Err OtherBookings) = refl
answered (Err OtherChannels) = refl
answered (Err (NotInService b)) = refl
answered (Err (Overlap a b)) = refl
answered (Err (MustLeftOut b)) = refl
answered (Err WrongTotal) = refl
answered (Err PricesOutOfOrder) = refl
answered (Err (NotProved bound)) = refl
answered (Ok total) = refl

module _ (rows : List Row) (channels : List Bool) (plan : Parts) where
  abbrev Bound : ℕ → Type 0
  Bound a = bound_of plan.rows (count_of plan.channels) plan.prices ≡ pos a

  -- what holds where so many tests were passed
  abbrev Passed : ℕ → Type 0
  Passed zero = ⊤
  Passed (suc zero) = rows ≡ plan.rows
  Passed (suc (suc zero)) = IsFor rows channels plan
  Passed (suc (suc (suc zero))) = IsFor rows channels plan × AllInService plan
  Passed (suc (suc (suc (suc zero)))) = IsFor rows channels plan × AllInService plan × NoneOverlap plan
  Passed (suc (suc (suc (suc (suc zero))))) = IsSound rows channels plan
  Passed (suc (suc (suc (suc (suc (suc zero)))))) = IsSound rows channels plan × IsTotalRight plan
  Passed (suc (suc (suc (suc (suc (suc (suc zero))))))) = IsSound rows channels plan × IsTotalRight plan × IsRising plan.prices
  Passed (suc (suc (suc (suc (suc (suc (suc (suc zero)))))))) = IsSound rows channels plan × IsTotalRight plan × IsRising plan.prices × Bound plan.total
  Passed (suc (suc (suc (suc (suc (suc (suc (suc (suc n))))))))) = ⊥

  before : (n : ℕ) → Passed (suc n) → Passed n
  before zero h = tt
  before (suc zero) h = h.bookings
  before (suc (suc zero)) h = h.0
  before (suc (suc (suc zero))) h = (h.0, h.1)
  before (suc (suc (suc (suc zero)))) h = (h.parts, h.in_service, h.none_overlap)
  before (suc (suc (suc (suc (suc zero))))) h = h.0
  before (suc (suc (suc (suc (suc (suc zero)))))) h = (h.0, h.1)
  before (suc (suc (suc (suc (suc (suc (suc zero))))))) h = (h.0, h.1, h.2)
  before (suc (suc (suc (suc (suc (suc (suc (suc n)))))))) h = absurd h

  earlier : (m d n : ℕ) → n ≡ d + m → Passed n → Passed m
  earlier m zero n e h = let same : n ≡ m = omega (arith, e) in subst Passed same h
  earlier m (suc d) n e h = let next : n ≡ suc (d + m) = omega (arith, e) in earlier m d (d + m) refl (before (d + m) (subst Passed next h))

  passed : (r : Result ℕ CheckFault) → IsOutcome rows channels plan r → Passed (tests r)
  passed (Err OtherBookings) h = tt
  passed (Err OtherChannels) h = h.0
  passed (Err (NotInService b)) h = h.parts
  passed (Err (Overlap a b)) h = (h.parts, h.in_service)
  passed (Err (MustLeftOut b)) h = (h.parts, h.in_service, h.none_overlap)
  passed (Err WrongTotal) h = h.0
  passed (Err PricesOutOfOrder) h = (h.0, h.1)
  passed (Err (NotProved bound)) h = (h.0, h.1, h.2)
  passed (Ok total) h = (h.0, h.1, h.2, h.3)

  stopped : (r : Result ℕ CheckFault) → IsOutcome rows channels plan r → Passed (suc (tests r)) → ⊥
  stopped (Err OtherBookings) h next = h next
  stopped (Err OtherChannels) h next = h.1 next.channels_too
  stopped (Err (NotInService b)) h next = next.1 (b - 1) (let p = h.positive in let w = h.within in omega arith) h.here
  stopped (Err (Overlap a b)) h next = next.2 (a - 1) (b - 1) (let p = h.positive in let r = h.rising in omega arith) (let p = h.positive in let r = h.rising in let w = h.within in omega arith) h.here
  stopped (Err (MustLeftOut b)) h next = next.has_musts (b - 1) (let p = h.positive in let w = h.within in omega arith) h.here
  stopped (Err WrongTotal) h next = h.1 next.1
  stopped (Err PricesOutOfOrder) h next = h.2 next.2
  stopped (Err (NotProved bound)) h next = h.4 (let whole = h.3 ∙ next.3 in omega (arith, ints, whole))
  stopped (Ok total) h next = next

  -- an answer does not stand after another
  not_after : (r s : Result ℕ CheckFault) → IsOutcome rows channels plan r → IsOutcome rows channels plan s → tests r < tests s → ⊥
  not_after r s h k less =
      let d = tests s - suc (tests r) in
      stopped r h (earlier (suc (tests r)) d (tests s) (omega arith) (passed s k))

  same_tests : (r s : Result ℕ CheckFault) → IsOutcome rows channels plan r → IsOutcome rows channels plan s → tests r ≡ tests s
  same_tests r s h k = elim (cases_order (tests r) (tests s)) [
    | inl e ↦ e
    | inr (inl less) ↦ absurd (not_after r s h k less)
    | inr (inr more) ↦ absurd (not_after s r k h more)
  ]

  -- what the numbers of an answer are, by how many tests were passed
  abbrev Says : ℕ → ℕ → ℕ → Type 0
  Says (suc (suc zero)) a b = IsNotInService rows channels plan a × (b ≡ 0)
  Says (suc (suc (suc zero))) a b = IsOverlap rows channels plan a b
  Says (suc (suc (suc (suc zero)))) a b = IsMustMissing rows channels plan a × (b ≡ 0)
  Says (suc (suc (suc (suc (suc (suc (suc zero))))))) a b = Bound a × (b ≡ 0)
  Says (suc (suc (suc (suc (suc (suc (suc (suc n)))))))) a b = (a ≡ plan.total) × (b ≡ 0)
  Says _ a b = (a ≡ 0) × (b ≡ 0)

  says : (r : Result ℕ CheckFault) → IsOutcome rows channels plan r → Says (tests r) (first r) (second r)
  says (Err OtherBookings) h = (refl, refl)
  says (Err OtherChannels) h = (refl, refl)
  says (Err (NotInService b)) h = (h, refl)
  says (Err (Overlap a b)) h = h
  says (Err (MustLeftOut b)) h = (h, refl)
  says (Err WrongTotal) h = (refl, refl)
  says (Err PricesOutOfOrder) h = (refl, refl)
  says (Err (NotProved bound)) h = (sym h.3, refl)
  says (Ok total) h = (h.4, refl)

  first_service : (a b : ℕ) → IsNotInService rows channels plan a → IsNotInService rows channels plan b → ¬ (a < b)
  first_service a b h k less = k.least (a - 1) (let p = h.positive in omega arith) h.here

  first_must : (a b : ℕ) → IsMustMissing rows channels plan a → IsMustMissing rows channels plan b → ¬ (a < b)
  first_must a b h k less = k.least (a - 1) (let p = h.positive in omega arith) h.here

  first_overlap : (a b c d : ℕ) → IsOverlap rows channels plan a b → IsOverlap rows channels plan c d → ¬ (a < c)
  first_overlap a b c d h k less =
      let p = h.positive in
      let r = h.rising in
      let w = h.within in
      k.least_first (a - 1) (b - 1) (omega arith) (omega arith) (omega arith) h.here

  second_overlap : (a b d : ℕ) → IsOverlap rows channels plan a b → IsOverlap rows channels plan a d → ¬ (b < d)
  second_overlap a b d h k less =
      let p = h.positive in
      let r = h.rising in
      k.least_second (b - 1) (omega arith) (omega arith) h.here

  neither : (a b : ℕ) → ¬ (a < b) → ¬ (b < a) → a ≡ b
  neither a b h k = elim (cases_order a b) [
    | inl e ↦ e
    | inr (inl less) ↦ absurd (h less)
    | inr (inr more) ↦ absurd (k more)
  ]

  same_overlap : (a b c d : ℕ) → a ≡ c → IsOverlap rows channels plan a b → IsOverlap rows channels plan c d → b ≡ d
  same_overlap a b c d e h k =
      let k' = subst (λ (x : ℕ). IsOverlap rows channels plan x d) (sym e) k in
      neither b d (second_overlap a b d h k') (second_overlap a d b k' h)

  same_numbers : (n a b c d : ℕ) → Says n a b → Says n c d → (a ≡ c) × (b ≡ d)
  same_numbers zero a b c d h k = (h.0 ∙ sym k.0, h.1 ∙ sym k.1)
  same_numbers (suc zero) a b c d h k = (h.0 ∙ sym k.0, h.1 ∙ sym k.1)
  same_numbers (suc (suc zero)) a b c d h k = (neither a c (first_service a c h.0 k.0) (first_service c a k.0 h.0), h.1 ∙ sym k.1)
  same_numbers (suc (suc (suc zero))) a b c d h k =
      let e = neither a c (first_overlap a b c d h k) (first_overlap c d a b k h) in
      (e, same_overlap a b c d e h k)
  same_numbers (suc (suc (suc (suc zero)))) a b c d h k = (neither a c (first_must a c h.0 k.0) (first_must c a k.0 h.0), h.1 ∙ sym k.1)
  same_numbers (suc (suc (suc (suc (suc zero))))) a b c d h k = (h.0 ∙ sym k.0, h.1 ∙ sym k.1)
  same_numbers (suc (suc (suc (suc (suc (suc zero)))))) a b c d h k = (h.0 ∙ sym k.0, h.1 ∙ sym k.1)
  same_numbers (suc (suc (suc (suc (suc (suc (suc zero))))))) a b c d h k = (let e = sym h.0 ∙ k.0 in omega (arith, ints, e), h.1 ∙ sym k.1)
  same_numbers (suc (suc (suc (suc (suc (suc (suc (suc n)))))))) a b c d h k = (h.0 ∙ sym k.0, h.1 ∙ sym k.1)

  -- two answers are the same
  pub one_answer : (r s : Result ℕ CheckFault) → IsOutcome rows channels plan r → IsOutcome rows channels plan s → r ≡ s
  one_answer r s h k =
      let e = same_tests r s h k in
      let numbers = same_numbers (tests s) (first r) (second r) (first s) (second s) (subst (λ (n : ℕ). Says n (first r) (second r)) e (says r h)) (says s k) in
      let same : answer (tests r) (first r) (second r) ≡ answer (tests s) (first s) (second s) = rw (e, numbers.0, numbers.1) refl in
      sym (answered r) ∙ same ∙ answered s
