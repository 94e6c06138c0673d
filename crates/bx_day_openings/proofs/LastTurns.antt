-- The greatest end of those that are taken, one by one.
use Rattle.std.proofs.Common.{◌≡◌, ℕ, ◌+◌, ◌≤◌, ◌<◌, max, not, Bool, true, false, List, if◌then◌else◌, refl, ap, ◌∙◌, subst, arith, ◌⊎◌, inl, inr}
use Rattle.std.proofs.lemmas.Bool.{cases_lt}
use Rattle.bx_day.specs.Day.{entry_at}
use Rattle.bx_day.specs.Invariant.{is_refused}
use Rattle.bx_day.specs.declared.entry.Entry.{Entry}
use Rattle.bx_day_openings.specs.Openings.{IsGreatest, IsLastOfDay}

pub none_yet : (taken : ℕ → Bool) (ends : ℕ → ℕ) → IsGreatest taken ends 0 1
none_yet taken ends = record { each = λ i lt. absurd (omega (arith, lt)); one = inr (λ i lt. absurd (omega (arith, lt)), refl) }

below_next : (P : ℕ → Type 0) (n : ℕ) → ((i : ℕ) → i < n → P i) → P n → (i : ℕ) → i < n + 1 → P i
below_next P n p q i lt = by_order (cases_lt i n) where
  by_order : (i < n) ⊎ (n ≤ i) → P i
  by_order (inl below) = p i below
  by_order (inr above) = let same : n ≡ i = omega (arith, lt, above) in subst P same q

module _ (taken : ℕ → Bool) (ends : ℕ → ℕ) (n turns more : ℕ) (so_far : IsGreatest taken ends n turns) (some : 1 ≤ turns) where
  abbrev Is_over : ℕ → ℕ → Type 0
  Is_over most i = taken i ≡ true → ends i + 38 ≤ most

  first_of : (most : ℕ) → most ≡ turns → ((i : ℕ) × (i < n) × (taken i ≡ true) × (turns ≡ ends i + 38))
      → (i : ℕ) × (i < n + 1) × (taken i ≡ true) × (most ≡ ends i + 38)
  first_of most e (i, lt, here, same) = (i, omega (arith, lt), here, e ∙ same)

  -- the next row is accepted
  with_row : taken n ≡ true → more ≡ ends n + 38 → IsGreatest taken ends (n + 1) (max turns more)
  with_row here e = record {
    each = below_next (Is_over (max turns more)) n (λ i lt t. omega (arith, so_far.each i lt t)) (λ t. omega (arith, e));
    one = by_order so_far.one;
  } where
    by_order : ((i : ℕ) × (i < n) × (taken i ≡ true) × (turns ≡ ends i + 38)) ⊎ (((i : ℕ) → i < n → taken i ≡ false) × (turns ≡ 1))
        → ((i : ℕ) × (i < n + 1) × (taken i ≡ true) × (max turns more ≡ ends i + 38)) ⊎ (((i : ℕ) → i < n + 1 → taken i ≡ false) × (max turns more ≡ 1))
    by_order (inl first) = by_greater (cases_lt more turns) where
      by_greater : (more < turns) ⊎ (turns ≤ more) → ((i : ℕ) × (i < n + 1) × (taken i ≡ true) × (max turns more ≡ ends i + 38)) ⊎ (((i : ℕ) → i < n + 1 → taken i ≡ false) × (max turns more ≡ 1))
      by_greater (inr le) = inl (n, omega arith, here, omega (arith, le, e))
      by_greater (inl lt) = inl (first_of (max turns more) (omega (arith, lt)) first)
    by_order (inr (none, one)) = inl (n, omega arith, here, omega (arith, one, e))

  -- or it is not
  without_row : taken n ≡ false → more ≡ 1 → IsGreatest taken ends (n + 1) (max turns more)
  without_row left e =
      let same : max turns more ≡ turns = omega (arith, e, some) in
      record {
        each = below_next (Is_over (max turns more)) n (λ i lt t. omega (arith, so_far.each i lt t)) (λ t. cc);
        one = by_cases same so_far.one;
      } where
        by_cases : max turns more ≡ turns → ((i : ℕ) × (i < n) × (taken i ≡ true) × (turns ≡ ends i + 38)) ⊎ (((i : ℕ) → i < n → taken i ≡ false) × (turns ≡ 1))
            → ((i : ℕ) × (i < n + 1) × (taken i ≡ true) × (max turns more ≡ ends i + 38)) ⊎ (((i : ℕ) → i < n + 1 → taken i ≡ false) × (max turns more ≡ 1))
        by_cases same (inl first) = inl (first_of (max turns more) same first)
        by_cases same (inr (none, one)) = inr (below_next (λ i. taken i ≡ false) n none left, same ∙ one)

  pub next_row : more ≡ (if taken n then ends n + 38 else 1) → IsGreatest taken ends (n + 1) (max turns more)
  next_row e = by_test (taken n) refl e where
    by_test : (b : Bool) → taken n ≡ b → more ≡ (if b then ends n + 38 else 1) → IsGreatest taken ends (n + 1) (max turns more)
    by_test true here e = with_row here e
    by_test false left e = without_row left e

-- the next booking of a day
pub next_entry : (entries : List Entry) (n turns more : ℕ) (e : Entry) → e ≡ entry_at entries n → IsLastOfDay entries n turns → 1 ≤ turns → more ≡ (if not (is_refused e.standing) then e.booking.end + 38 else 1) → IsLastOfDay entries (n + 1) (max turns more)
next_entry entries n turns more e is so_far some over =
    next_row (λ (i : ℕ). not (is_refused (entry_at entries i).standing)) (λ (i : ℕ). (entry_at entries i).booking.end) n turns more so_far some
    (over ∙ ap (λ (x : Entry). if not (is_refused x.standing) then x.booking.end + 38 else 1) is)
