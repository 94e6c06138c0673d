-- The channels that are left are of the set, and all of it where none is lost.
use Rattle.std.proofs.Common.{◌≡◌, ℕ, zero, suc, ◌+◌, arith, Bool, true, false, List, [], ◌∷◌, refl, sym, ap, ◌∙◌, set, get_or, inl, inr, get_or-set_other, if◌then◌else◌}
use Rattle.std.proofs.lemmas.Bool.{true≢false, false≢true, cases_eq}
use Rattle.bx_base.specs.Channels.{has_channel}
use Rattle.bx_channels.specs.Marks.{is_marked}
use Rattle.bx_day.specs.Day.{Day}
use Rattle.bx_day.proofs.Once.{decide}
use Rattle.bx_sales.specs.Journal.{AreAllLeft}
use Rattle.bx_sales.specs.Left.{left_below, left_in_service}

-- what is not in a set is not in it without another
pub set_out : (xs : List Bool) (n : ℕ) → has_channel xs n ≡ false → set xs n false ≡ xs
set_out [] n out = refl
set_out (x ∷ xs) zero out = ap (λ b. b ∷ xs) (sym out)
set_out (x ∷ xs) (suc n) out = ap (λ ys. x ∷ ys) (set_out xs n out)

gone : (xs : List Bool) (n : ℕ) → has_channel (set xs n false) n ≡ false
gone [] n = refl
gone (x ∷ xs) zero = refl
gone (x ∷ xs) (suc n) = gone xs n

within_set : (xs : List Bool) (n c : ℕ) → has_channel (set xs n false) c ≡ true → has_channel xs c ≡ true
within_set xs n c has = elim (cases_eq c n) [
  | inl here ↦ absurd (false≢true (sym (gone xs n) ∙ ap (has_channel (set xs n false)) (sym here) ∙ has))
  | inr other ↦ sym (get_or-set_other xs n c false false other) ∙ has
]

pub left_within : (n : ℕ) (lost channels : List Bool) (c : ℕ) → has_channel (left_below n lost channels) c ≡ true → has_channel channels c ≡ true
left_within zero lost channels c has = has
left_within (suc n) lost channels c has =
    let before = left_below n lost channels in
    decide (is_marked lost n)
    (λ yes. left_within n lost channels c (within_set before n c (sym (ap (λ b. has_channel (if b then set before n false else before) c) yes) ∙ has)))
    (λ no. left_within n lost channels c (sym (ap (λ b. has_channel (if b then set before n false else before) c) no) ∙ has))

pub all_left : (n : ℕ) (lost channels : List Bool) → ((c : ℕ) → has_channel channels c ≡ true → is_marked lost c ≡ false) → left_below n lost channels ≡ channels
all_left zero lost channels none = refl
all_left (suc n) lost channels none =
    let before = left_below n lost channels in
    let is : before ≡ channels = all_left n lost channels none in
    decide (is_marked lost n)
    (λ yes. ap (λ b. if b then set before n false else before) yes ∙ ap (λ xs. set xs n false) is ∙ set_out channels n (out yes (has_channel channels n) refl) ∙ refl)
    (λ no. ap (λ b. if b then set before n false else before) no ∙ is)
  where
    out : is_marked lost n ≡ true → (b : Bool) → has_channel channels n ≡ b → has_channel channels n ≡ false
    out marked true has = absurd (true≢false (sym marked ∙ none n has))
    out marked false has = has

pub left_here : (channels : List Bool) (d : Day) (c : ℕ) → has_channel (left_in_service channels d) c ≡ true → has_channel channels c ≡ true
left_here channels d c has = left_within 32 d.maintenance channels c has

pub left_all : (channels : List Bool) (d : Day) → AreAllLeft channels d → left_in_service channels d ≡ channels
left_all channels d all = all_left 32 d.maintenance channels all

-- ---- one number after another

next : (n : ℕ) → suc n ≡ n + 1
next n = omega arith

pub left_marked : (n : ℕ) (lost channels before : List Bool) → before ≡ left_below n lost channels → is_marked lost n ≡ true → set before n false ≡ left_below (n + 1) lost channels
left_marked n lost channels before is marked =
    ap (λ xs. set xs n false) is ∙ sym (ap (λ b. if b then set (left_below n lost channels) n false else left_below n lost channels) marked) ∙ ap (λ k. left_below k lost channels) (next n)

pub left_unmarked : (n : ℕ) (lost channels before : List Bool) → before ≡ left_below n lost channels → is_marked lost n ≡ false → before ≡ left_below (n + 1) lost channels
left_unmarked n lost channels before is unmarked =
    is ∙ sym (ap (λ b. if b then set (left_below n lost channels) n false else left_below n lost channels) unmarked) ∙ ap (λ k. left_below k lost channels) (next n)

-- a number of no channel of the set changes nothing
pub left_none : (n : ℕ) (lost channels before : List Bool) → before ≡ left_below n lost channels → has_channel channels n ≡ false → before ≡ left_below (n + 1) lost channels
left_none n lost channels before is none = decide (is_marked lost n)
    (λ marked. sym (ap (λ xs. set xs n false) is ∙ set_out (left_below n lost channels) n (out (has_channel (left_below n lost channels) n) refl) ∙ sym is) ∙ left_marked n lost channels before is marked)
    (λ unmarked. left_unmarked n lost channels before is unmarked)
  where
    out : (b : Bool) → has_channel (left_below n lost channels) n ≡ b → has_channel (left_below n lost channels) n ≡ false
    out true has = absurd (false≢true (sym none ∙ left_within n lost channels n has))
    out false has = has
