-- A threshold decides whether best sets hold the row.
use Rattle.std.proofs.Common.{◌≡◌, ℕ, ◌+◌, ◌<◌, ◌≤◌, Bool, true, false, cond, List, length, refl, arith, inl, inr}
use Rattle.std.proofs.lemmas.Bool.{cases_Bool}
use Rattle.bx_base.specs.Bookings.{Row, IsLawful, pay_of}
use Rattle.bx_planner.specs.Thresholds.{others, offered, IsThreshold, IsBestSet, Decides}
use Rattle.bx_planner.proofs.Places.{pay_offered, lawful_offered, lawful_from_offered}

module _ (rows : List Row) (channels : List Bool) (i threshold : ℕ) (inside : i < length rows) (is : IsThreshold rows channels i threshold) where
  pays_with : (pay : ℕ) (set : ℕ → Bool) → set i ≡ true → pay_of (offered rows i pay) set ≡ pay_of rows (others set i) + pay
  pays_with pay set h = let e = pay_offered rows i inside pay set in let here : ◌≡◌ {A = ℕ} (cond (set i) pay 0) pay = rw h refl in omega (arith, e, here)

  pays_without : (pay : ℕ) (set : ℕ → Bool) → set i ≡ false → pay_of (offered rows i pay) set ≡ pay_of rows (others set i)
  pays_without pay set h = let e = pay_offered rows i inside pay set in let here : ◌≡◌ {A = ℕ} (cond (set i) pay 0) 0 = rw h refl in omega (arith, e, here)

  most_with : (pay : ℕ) (set : ℕ → Bool) → set i ≡ true → IsLawful (offered rows i pay) channels set → pay_of (offered rows i pay) set ≤ is.beside + pay
  most_with pay set h lawful =
      let limit = is.most_beside.limit set (lawful_from_offered rows i inside channels pay set lawful) h in
      omega (arith, pays_with pay set h, limit)

  most_without : (pay : ℕ) (set : ℕ → Bool) → set i ≡ false → IsLawful (offered rows i pay) channels set → pay_of (offered rows i pay) set ≤ is.without
  most_without pay set h lawful =
      let limit = is.most_without.limit set (lawful_from_offered rows i inside channels pay set lawful) h in
      omega (arith, pays_without pay set h, limit)

  some_with : (pay : ℕ) → pay_of (offered rows i pay) is.most_beside.set ≡ is.beside + pay
  some_with pay = let m = is.most_beside in omega (arith, pays_with pay m.set m.holds, m.pays)

  some_without : (pay : ℕ) → pay_of (offered rows i pay) is.most_without.set ≡ is.without
  some_without pay = let m = is.most_without in omega (arith, pays_without pay m.set m.holds, m.pays)

  above : (pay : ℕ) (set : ℕ → Bool) → threshold < pay → IsBestSet (offered rows i pay) channels set → set i ≡ true
  above pay set h best =
      elim (cases_Bool (set i)) [
        | inl e ↦ e
        | inr e ↦ (let other = is.most_beside in
            let less = best.best other.set (lawful_offered rows i inside channels pay other.set other.lawful) in
            let most = most_without pay set e best.lawful in
            let sum = is.less in
            absurd (omega (arith, h, less, most, some_with pay, sum)))
      ]

  below : (pay : ℕ) (set : ℕ → Bool) → pay < threshold → IsBestSet (offered rows i pay) channels set → set i ≡ false
  below pay set h best =
      elim (cases_Bool (set i)) [
        | inr e ↦ e
        | inl e ↦ (let other = is.most_without in
            let less = best.best other.set (lawful_offered rows i inside channels pay other.set other.lawful) in
            let most = most_with pay set e best.lawful in
            let sum = is.less in
            absurd (omega (arith, h, less, most, some_without pay, sum)))
      ]

  -- at the threshold nothing pays more than the best without it
  at_most : (set : ℕ → Bool) → IsLawful (offered rows i threshold) channels set → pay_of (offered rows i threshold) set ≤ is.without
  at_most set lawful =
      elim (cases_Bool (set i)) [
        | inl e ↦ (let most = most_with threshold set e lawful in let sum = is.less in omega (arith, most, sum))
        | inr e ↦ most_without threshold set e lawful
      ]

  pub threshold_decides : Decides rows channels i threshold
  threshold_decides =
      let inner = is.most_beside in
      let outer = is.most_without in
      let sum = is.less in
      record {
        above = above;
        below = below;
        some_does = (
          inner.set,
          record { lawful = lawful_offered rows i inside channels threshold inner.set inner.lawful; best = λ set lawful. (let most = at_most set lawful in omega (arith, most, some_with threshold, sum)) },
          inner.holds,
        );
        some_does_not = (
          outer.set,
          record { lawful = lawful_offered rows i inside channels threshold outer.set outer.lawful; best = λ set lawful. (let most = at_most set lawful in omega (arith, most, some_without threshold)) },
          outer.holds,
        );
      }
