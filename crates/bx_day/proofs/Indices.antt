-- The first booking that passes a test, found by going through all.
use Rattle.std.proofs.Common.{◌≡◌, ℕ, ◌+◌, ◌<◌, Bool, true, false, List, ◌∷◌, length, Some, None, arith, refl, ap, ◌∙◌, suc, not, if◌then◌else◌, nat_lt}
use Rattle.std.specs.Prelude.{cond}
use Rattle.std.specs.Option.{option_map}
use Rattle.std.specs.List.{position, position_or_len}
use Rattle.std.proofs.lemmas.Bool.{false≢true, ltb-true, lt-ltb}
use Rattle.std.proofs.lemmas.List.Sums.{position_or_len_is}
use Rattle.bx_day.specs.Day.{entry_at, no_entry}
use Rattle.bx_day.specs.declared.entry.Entry.{Entry}

chosen : (b : Bool) (n : ℕ) → b ≡ true → cond b (Some n) None ≡ Some n
chosen true n h = refl
chosen false n h = absurd (false≢true h)

pub index_found : (test : Entry → Bool) (es : List Entry) (i : ℕ) → i < length es → test (entry_at es i) ≡ true → ((k : ℕ) → k < i → test (entry_at es k) ≡ false) → position test es ≡ Some i
index_found test es i lt h before =
    let n = position_or_len test es in
    let is : n ≡ i = position_or_len_is test es i no_entry (omega arith) before (λ _. h) in
    chosen (nat_lt n (length es)) n (lt-ltb n (length es) (omega arith)) ∙ ap Some is

pub index_none : (test : Entry → Bool) (es : List Entry) → ((k : ℕ) → k < length es → test (entry_at es k) ≡ false) → position test es ≡ None
index_none test es before =
    let n = position_or_len test es in
    let is : n ≡ length es = position_or_len_is test es (length es) no_entry (omega arith) before (λ lt. absurd (omega arith)) in
    none_chosen (nat_lt n (length es)) n (λ inside. let lt : n < length es = ltb-true n (length es) inside in absurd (omega arith))
  where
    none_chosen : (b : Bool) (n : ℕ) → (b ≡ true → ⊥) → cond b (Some n) None ≡ None
    none_chosen true n h = absurd (h refl)
    none_chosen false n h = refl

-- of a list with one more before it
pub position_next : (test : Entry → Bool) (e : Entry) (es : List Entry) → position test (e ∷ es) ≡ (if test e then Some 0 else option_map suc (position test es))
position_next test e es = step (test e) (position_or_len test es) (length es)
  where
    more : (b c : Bool) (n : ℕ) → (b ≡ true → c ≡ true) → (c ≡ true → b ≡ true) → cond c (Some (1 + n)) None ≡ option_map suc (cond b (Some n) None)
    more true true n on back = let is : 1 + n ≡ suc n = omega arith in ap Some is
    more true false n on back = absurd (false≢true (on refl))
    more false true n on back = absurd (false≢true (back refl))
    more false false n on back = refl

    step : (b : Bool) (n many : ℕ) → cond (nat_lt (cond (not b) (1 + n) 0) (suc many)) (Some (cond (not b) (1 + n) 0)) None ≡ (if b then Some 0 else option_map suc (cond (nat_lt n many) (Some n) None))
    step true n many = chosen (nat_lt 0 (suc many)) 0 (lt-ltb 0 (suc many) (omega arith))
    step false n many = more (nat_lt n many) (nat_lt (1 + n) (suc many)) n
        (λ inside. let lt : n < many = ltb-true n many inside in lt-ltb (1 + n) (suc many) (omega arith))
        (λ inside. let lt : 1 + n < suc many = ltb-true (1 + n) (suc many) inside in lt-ltb n many (omega arith))
