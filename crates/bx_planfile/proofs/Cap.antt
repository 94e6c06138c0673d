-- The code counts no higher than 64 bits. No limit is as high, so what is within the limits stays what it is.
use Rattle.std.proofs.Common.{◌≡◌, ℕ, lit<, ◌-◌, ◌^◌, ◌<◌, ◌≤◌, Bool, true, false, ◌&&◌, not, ltb, leb, eqb, length, Option, Some, None, Ok, refl, sym, ap, ◌∙◌, arith, inl, inr}
use Rattle.std.specs.Prelude.{MatchOption}
use Rattle.std.specs.Option.{option_map, ok_or}
use Rattle.std.proofs.lemmas.Bool.{cases_lt, ltb-true, leb-true, lt-ltb, le-ltb, le-leb, lt-leb}
use Rattle.std.proofs.lemmas.Bool.Decides.{nat_tests}
use Rattle.bx_base.specs.Bound.{Charge}
use Rattle.bx_planfile.specs.declared.fault.PlanTextFault.TheVariants.{BadLine, OutOfLimits}
use Rattle.bx_planfile.specs.Forms.{Entry, is_channel_number, is_assignable, is_within, is_charge}
use Rattle.bx_planfile.specs.Capped.{capped_entry, capped_charge}
use Rattle.bx_text.specs.Digits.{capped}
use Rattle.bx_planfile.specs.Reading.{◌>>=◌, or_fault, where_holds}
use Rattle.bx_planfile.specs.Inside.{AnswersRead}
use Rattle.bx_text.proofs.DigitSteps.{and_both}

pub leb-capped : (n limit : ℕ) → limit < 2 ^ 64 - 1 → leb (capped n) limit ≡ leb n limit
leb-capped n limit lt =
    elim (cases_lt limit n) [
      | inl high ↦ lt-leb (capped n) limit (omega arith) ∙ sym (lt-leb n limit high)
      | inr low ↦ le-leb (capped n) limit (omega arith) ∙ sym (le-leb n limit low)
    ]

pub low-capped : (n limit : ℕ) → limit < 2 ^ 64 - 1 → leb limit (capped n) ≡ leb limit n
low-capped n limit lt =
    elim (cases_lt n limit) [
      | inl low ↦ lt-leb limit (capped n) (omega arith) ∙ sym (lt-leb limit n low)
      | inr high ↦ le-leb limit (capped n) (omega arith) ∙ sym (le-leb limit n high)
    ]

pub capped_is : (n limit : ℕ) → limit < 2 ^ 64 - 1 → n ≤ limit → capped n ≡ n
capped_is n limit lt le = omega arith

pub is_channel-capped : (n : ℕ) → is_channel_number (capped n) ≡ is_channel_number n
is_channel-capped n =
    elim (cases_lt 31 n) [
      | inl high ↦ grind (arith, nat_tests)
      | inr low ↦ ap is_channel_number (capped_is n 31 (lit< tt) low)
    ]

pub is_assignable-capped : (c : Option ℕ) → is_assignable (option_map capped c) ≡ is_assignable c
is_assignable-capped None = refl
is_assignable-capped (Some n) = is_channel-capped n

and_false : (b : Bool) → (b && false) ≡ false
and_false true = refl
and_false false = refl

order-capped : (start end limit : ℕ) → limit < 2 ^ 64 - 1 → (ltb (capped start) (capped end) && leb (capped end) limit) ≡ (ltb start end && leb end limit)
order-capped start end limit lt =
    elim (cases_lt limit end) [
      | inl high ↦
          let a : leb (capped end) limit ≡ false = lt-leb (capped end) limit (omega arith) in
          let b : leb end limit ≡ false = lt-leb end limit high in
          rw (a, b) (and_false (ltb (capped start) (capped end)) ∙ sym (and_false (ltb start end)))
      | inr low ↦
          let same : capped end ≡ end = omega arith in
          let less : ltb (capped start) end ≡ ltb start end = elim (cases_lt start end) [
            | inl before ↦ lt-ltb (capped start) end (omega arith) ∙ sym (lt-ltb start end before)
            | inr after ↦ le-ltb (capped start) end (omega arith) ∙ sym (le-ltb start end after)
          ] in
          rw (same, less) refl
    ]

pub within-capped : (e : Entry) → is_within (capped_entry e) ≡ is_within e
unfolding is_within
within-capped e =
    let order = order-capped e.row.start e.row.end 200000 (lit< tt) in
    let low = low-capped e.row.pay 1 (lit< tt) in
    let high = leb-capped e.row.pay 1000000000 (lit< tt) in
    let channel = is_assignable-capped e.channel in
    cc

channel_is : (c : Option ℕ) → is_assignable c ≡ true → option_map capped c ≡ c
channel_is None h = refl
channel_is (Some n) h =
    let parts = and_both _ (not (eqb n 16)) h in
    let less : n < 32 = ltb-true n 32 (and_both _ (ltb n 32) parts.0).1 in
    ap Some (capped_is n 31 (lit< tt) (omega arith))

pub entry_is : (e : Entry) → is_within e ≡ true → capped_entry e ≡ e
unfolding is_within
entry_is e within =
    let a = and_both _ (is_assignable e.channel) within in
    let b = and_both _ (leb (length e.row.number) 15) a.0 in
    let c = and_both _ (leb e.row.pay 1000000000) b.0 in
    let d = and_both _ (leb 1 e.row.pay) c.0 in
    let f = and_both (ltb e.row.start e.row.end) (leb e.row.end 200000) d.0 in
    let before : e.row.start < e.row.end = ltb-true _ _ f.0 in
    let end : e.row.end ≤ 200000 = leb-true _ _ f.1 in
    let pay : e.row.pay ≤ 1000000000 = leb-true _ _ c.1 in
    let p : capped e.row.start ≡ e.row.start = omega arith in
    let q : capped e.row.end ≡ e.row.end = omega arith in
    let r : capped e.row.pay ≡ e.row.pay = omega arith in
    let s = channel_is e.channel a.1 in
    rw (p, q, r, s) refl

pub charge-capped : (p : Charge) → is_charge (capped_charge p) ≡ is_charge p
unfolding is_charge
charge-capped p =
    let moment : ltb (capped p.moment) 200000 ≡ ltb p.moment 200000 = elim (cases_lt p.moment 200000) [
      | inl low ↦ lt-ltb (capped p.moment) 200000 (omega arith) ∙ sym (lt-ltb p.moment 200000 low)
      | inr high ↦ le-ltb (capped p.moment) 200000 (omega arith) ∙ sym (le-ltb p.moment 200000 high)
    ] in
    let low = low-capped p.amount 1 (lit< tt) in
    let high = leb-capped p.amount 16000000000000 (lit< tt) in
    cc

pub charge_is : (p : Charge) → is_charge p ≡ true → capped_charge p ≡ p
unfolding is_charge
charge_is p within =
    let a = and_both _ (leb p.amount 16000000000000) within in
    let b = and_both (ltb p.moment 200000) (leb 1 p.amount) a.0 in
    let moment : p.moment < 200000 = ltb-true _ _ b.0 in
    let amount : p.amount ≤ 16000000000000 = leb-true _ _ a.1 in
    let q : capped p.moment ≡ p.moment = omega arith in
    let r : capped p.amount ≡ p.amount = omega arith in
    rw (q, r) refl

-- A line whose values the code has capped, and then held against their limits.
module _ {X : Type 0} (cap : X → X) (fits : X → Bool) (same : (x : X) → fits (cap x) ≡ fits x) (stays : (x : X) → fits x ≡ true → cap x ≡ x) where
  pub capped_gives : {Y : Type 0} (view : Y → X) (form : Option X) (n : ℕ) (values : X) (r : Option Y) → Some values ≡ option_map cap form
      → MatchOption r (fits values ≡ false) (λ y. (fits values ≡ true) × (view y ≡ values))
      → AnswersRead view (ok_or r (OutOfLimits n)) (or_fault (BadLine n) form >>= λ x. where_holds (fits x) (OutOfLimits n) x)
  capped_gives view None n values r e h = absurd cc
  capped_gives view (Some x) n values None e h =
      let v : values ≡ cap x = cc in
      let no : fits x ≡ false = sym (same x) ∙ sym (ap fits v) ∙ h in
      rw no refl
  capped_gives view (Some x) n values (Some y) e h =
      let v : values ≡ cap x = cc in
      let yes : fits x ≡ true = sym (same x) ∙ sym (ap fits v) ∙ h.0 in
      rw yes (ap Ok (sym (h.1 ∙ v ∙ stays x yes)))
