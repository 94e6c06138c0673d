-- A set of channels and its numbers in rising order: each gives the other.
use Rattle.std.proofs.Common.{◌≡◌, ◌≢◌, ℕ, zero, suc, ◌+◌, ◌<◌, ◌≤◌, Bool, true, false, ◌&&◌, ltb, cond, List, [], ◌∷◌, ◌++◌, length, get_or, set, Option, Some, None, refl, sym, ap, ◌∙◌, arith, subst, append_assoc, inl, inr, ◌⊎◌, replicate, length-set, length-append, get_or-set_other}
use Rattle.std.proofs.lemmas.List.{append-nil, set_at, get_or_at}
use Rattle.std.proofs.lemmas.Bool.{cases_eq, ltb-true, lt-ltb}
use Rattle.std.proofs.lemmas.Bool.Decides.{nat_tests}
use Rattle.bx_channels.specs.ChannelNumbers.{IsChannel}
use Rattle.bx_base.specs.Channels.{IsChannelSet}
use Rattle.bx_text.specs.Lines.{members_from}
use Rattle.bx_planfile.specs.Forms.{is_channel_number, with_channels, channel_set}
use Rattle.bx_text.proofs.DigitSteps.{and_both}

pub IsChannel-from_test : (n : ℕ) → is_channel_number n ≡ true → IsChannel n
IsChannel-from_test n e = grind (arith, nat_tests)

pub test_from_channel : (n : ℕ) → IsChannel n → is_channel_number n ≡ true
test_from_channel n h = grind (arith, nat_tests)

-- no place from i on is in the set
NoneFrom : ℕ → List Bool → Type 0
NoneFrom i bs = (j : ℕ) → i ≤ j → get_or bs j false ≡ false

numbers_none : (n : ℕ) (bs : List Bool) → ((j : ℕ) → get_or bs j false ≡ false) → members_from n bs ≡ []
numbers_none n [] h = refl
numbers_none n (true ∷ bs) h = let e : true ≡ false = h 0 in absurd cc
numbers_none n (false ∷ bs) h = numbers_none (n + 1) bs (λ j. h (suc j))

-- a place above all others adds its number at the end
numbers-set : (bs : List Bool) (n i : ℕ) → i < length bs → ((j : ℕ) → i ≤ j → get_or bs j false ≡ false) → members_from n (set bs i true) ≡ members_from n bs ++ (n + i) ∷ []
numbers-set [] n i lt h = absurd (omega arith)
numbers-set (true ∷ bs) n zero lt h = let e : true ≡ false = h 0 (omega arith) in absurd cc
numbers-set (false ∷ bs) n zero lt h =
    let none = numbers_none (n + 1) bs (λ j. h (suc j) (omega arith)) in
    let same : n ≡ n + 0 = omega arith in
    rw (none, ← same) refl
numbers-set (true ∷ bs) n (suc i) lt h =
    let step = numbers-set bs (n + 1) i (omega arith) (λ j le. h (suc j) (omega arith)) in
    let same : n + 1 + i ≡ n + suc i = omega arith in
    ap (λ (ns : List ℕ). n ∷ ns) step ∙ ap (λ (m : ℕ). n ∷ (members_from (n + 1) bs ++ m ∷ [])) same
numbers-set (false ∷ bs) n (suc i) lt h =
    let step = numbers-set bs (n + 1) i (omega arith) (λ j le. h (suc j) (omega arith)) in
    let same : n + 1 + i ≡ n + suc i = omega arith in
    step ∙ ap (λ (m : ℕ). members_from (n + 1) bs ++ m ∷ []) same

-- what a set is after numbers were added to another
pub record AddsNumbers (before after : List Bool) (numbers : List ℕ) : Type 0 where
  pub listed : members_from 0 after ≡ members_from 0 before ++ numbers
  pub channels : IsChannelSet after
  pub small : (i : ℕ) → get_or numbers i 0 ≤ 31

with_one : (bs : List Bool) (n : ℕ) → IsChannelSet bs → IsChannel n → IsChannelSet (set bs n true)
with_one bs n h c = record {
  slots = length-set bs n true ∙ h.slots;
  only = λ m has. elim (cases_eq m n) [
    | inl same ↦ subst IsChannel (sym same) c
    | inr other ↦ h.only m (sym (get_or-set_other bs n m true false other) ∙ has)
  ];
}

pub taken_branch : {A : Type 0} (b : Bool) (x : Option A) (y : A) → cond b x None ≡ Some y → (b ≡ true) × (x ≡ Some y)
taken_branch true x y e = (refl, e)
taken_branch false x y e = absurd cc

small_more : (n : ℕ) (ns : List ℕ) → n ≤ 31 → ((i : ℕ) → get_or ns i 0 ≤ 31) → (i : ℕ) → get_or (n ∷ ns) i 0 ≤ 31
small_more n ns h more zero = h
small_more n ns h more (suc i) = more i

none_in_empty : (m n : ℕ) → get_or (replicate m false) n false ≡ false
none_in_empty zero n = refl
none_in_empty (suc m) zero = refl
none_in_empty (suc m) (suc n) = none_in_empty m n

no_channels : IsChannelSet (replicate 32 false)
no_channels = record { slots = refl; only = λ n has. let e : true ≡ false = sym has ∙ none_in_empty 32 n in absurd cc }

numbers_added : (ns : List ℕ) (bs after : List Bool) (last : ℕ) → IsChannelSet bs → ((j : ℕ) → last < j → get_or bs j false ≡ false) → with_channels bs last ns ≡ Some after → AddsNumbers bs after ns
numbers_added [] bs after last h none e =
    let same : bs ≡ after = cc in
    record { listed = sym (ap (members_from 0) same) ∙ sym (append-nil (members_from 0 bs)); channels = subst IsChannelSet same h; small = λ i. omega arith }
numbers_added (n ∷ ns) bs after last h none e =
    let t = taken_branch (ltb last n && is_channel_number n) (with_channels (set bs n true) n ns) after e in
    let tests = and_both (ltb last n) (is_channel_number n) t.0 in
    let less : last < n = ltb-true _ _ tests.0 in
    let channel = IsChannel-from_test n tests.1 in
    let within : n < length bs = omega (arith, h.slots) in
    let more = numbers_added ns (set bs n true) after n (with_one bs n h channel) (λ j lt. let ne : j ≢ n = omega arith in get_or-set_other bs n j true false ne ∙ none j (omega arith)) t.1 in
    let one : members_from 0 (set bs n true) ≡ members_from 0 bs ++ (0 + n) ∷ [] = numbers-set bs 0 n within (λ j le. none j (omega arith)) in
    let zero_plus : 0 + n ≡ n = omega arith in
    let first : members_from 0 (set bs n true) ≡ members_from 0 bs ++ n ∷ [] = one ∙ ap (λ (m : ℕ). members_from 0 bs ++ m ∷ []) zero_plus in
    record {
      listed = more.listed ∙ ap (λ (l : List ℕ). l ++ ns) first ∙ append_assoc (members_from 0 bs) (n ∷ []) ns;
      channels = more.channels;
      small = small_more n ns channel.1 more.small;
    }

-- the numbers of the set that is read are those that it is read from
pub set_is_listed : (ns : List ℕ) (bs : List Bool) → channel_set ns ≡ Some bs → AddsNumbers (replicate 32 false) bs ns
unfolding channel_set
set_is_listed ns bs e = numbers_added ns (replicate 32 false) bs 0 no_channels (λ j lt. none_in_empty 32 j) e

-- and the numbers of a set give that set
numbers_give : (xs ys : List Bool) (last : ℕ) → ((n : ℕ) → get_or (xs ++ ys) n false ≡ true → IsChannel n) → (last ≡ 0) ⊎ (last < length xs)
    → with_channels (xs ++ replicate (length ys) false) last (members_from (length xs) ys) ≡ Some (xs ++ ys)
numbers_give xs [] last only low = refl
numbers_give xs (true ∷ ys) last only low =
    let n = length xs in
    let blank : List Bool = replicate (length ys) false in
    let channel = only n (get_or_at xs true ys false n refl) in
    let less : last < n = elim low [ inl z ↦ omega (arith, z, channel.0) | inr lt ↦ lt ] in
    let first : ltb last n ≡ true = lt-ltb last n less in
    let second : is_channel_number n ≡ true = test_from_channel n channel in
    let longer : length (xs ++ true ∷ []) ≡ n + 1 = length-append xs (true ∷ []) in
    let whole : (xs ++ true ∷ []) ++ ys ≡ xs ++ true ∷ ys = append_assoc xs (true ∷ []) ys in
    let more = numbers_give (xs ++ true ∷ []) ys n (λ m has. only m (ap (λ (l : List Bool). get_or l m false) (sym whole) ∙ has)) (inr (omega (arith, longer))) in
    let following : with_channels (xs ++ true ∷ blank) n (members_from (n + 1) ys) ≡ Some (xs ++ true ∷ ys) = rw (append_assoc xs (true ∷ []) blank, whole, longer) at more in
    let written : set (xs ++ false ∷ blank) n true ≡ xs ++ true ∷ blank = set_at xs false blank true n refl in
    rw (first, second, written) following
numbers_give xs (false ∷ ys) last only low =
    let n = length xs in
    let blank : List Bool = replicate (length ys) false in
    let longer : length (xs ++ false ∷ []) ≡ n + 1 = length-append xs (false ∷ []) in
    let whole : (xs ++ false ∷ []) ++ ys ≡ xs ++ false ∷ ys = append_assoc xs (false ∷ []) ys in
    let lower : (last ≡ 0) ⊎ (last < length (xs ++ false ∷ [])) = elim low [ inl z ↦ inl z | inr lt ↦ inr (omega (arith, lt, longer)) ] in
    let more = numbers_give (xs ++ false ∷ []) ys last (λ m has. only m (ap (λ (l : List Bool). get_or l m false) (sym whole) ∙ has)) lower in
    rw (append_assoc xs (false ∷ []) blank, whole, longer) at more

pub listed_gives : (bs : List Bool) → IsChannelSet bs → channel_set (members_from 0 bs) ≡ Some bs
unfolding channel_set
listed_gives bs h =
    let given = numbers_give [] bs 0 h.only (inl refl) in
    subst (λ (m : ℕ). with_channels (replicate m false) 0 (members_from 0 bs) ≡ Some bs) h.slots given
