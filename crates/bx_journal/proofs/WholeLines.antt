-- The whole lines of a text that is built line by line.
use Rattle.std.proofs.Common.{◌≡◌, inl, inr, ℕ, zero, suc, ◌+◌, ◌-◌, ◌≤◌, List, [], ◌∷◌, ◌++◌, length, take, refl, ap, sym, ◌∙◌, append_assoc, arith, length-append}
use Rattle.std.proofs.lemmas.List.{take-append-le}
use Rattle.std.proofs.lemmas.Bool.{cases_lt}
use Rattle.std.specs.List.{flat_map}
use Rattle.bx_journal.specs.Lines.{whole_lines, line_ended, onto}
use Rattle.bx_journal.specs.Inside.{HasNoLf, HaveNoLf}

pub version_line : (line rest : List ℕ) → HasNoLf line → whole_lines (line ++ 10 ∷ rest) ≡ line ∷ whole_lines rest
version_line [] rest none = refl
version_line (b ∷ line) rest none = rw (none.0) (ap (onto b) (version_line line rest none.1))

pub torn_line : (torn : List ℕ) → HasNoLf torn → whole_lines torn ≡ []
torn_line [] none = refl
torn_line (b ∷ torn) none = rw (none.0) (ap (onto b) (torn_line torn none.1))

pub prefix_without_lf : (n : ℕ) (line : List ℕ) → HasNoLf line → HasNoLf (take n line)
prefix_without_lf zero line none = tt
prefix_without_lf (suc n) [] none = tt
prefix_without_lf (suc n) (b ∷ line) none = (none.0, prefix_without_lf n line none.1)

regroup : (line more torn : List ℕ) → (line_ended line ++ more) ++ torn ≡ line ++ 10 ∷ (more ++ torn)
regroup line more torn = append_assoc (line_ended line) more torn ∙ append_assoc line (10 ∷ []) (more ++ torn)

pub lines_whole : (lines : List (List ℕ)) (torn : List ℕ) → HaveNoLf lines → whole_lines torn ≡ [] → whole_lines (flat_map line_ended lines ++ torn) ≡ lines
lines_whole [] torn none t = t
lines_whole (line ∷ lines) torn none t =
    ap whole_lines (regroup line (flat_map line_ended lines) torn) ∙ version_line line (flat_map line_ended lines ++ torn) none.0 ∙ ap (λ (ls : List (List ℕ)). line ∷ ls) (lines_whole lines torn none.1 t)

-- a line with its LF, before other octets
pub line_first : (line more : List ℕ) → HasNoLf line → whole_lines (line_ended line ++ more) ≡ line ∷ whole_lines more
line_first line more none = ap whole_lines (append_assoc line (10 ∷ []) more) ∙ version_line line more none

pub lines_then : (lines : List (List ℕ)) (rest : List ℕ) → HaveNoLf lines → whole_lines (flat_map line_ended lines ++ rest) ≡ lines ++ whole_lines rest
lines_then [] rest none = refl
lines_then (line ∷ lines) rest none =
    ap whole_lines (append_assoc (line_ended line) (flat_map line_ended lines) rest) ∙ line_first line (flat_map line_ended lines ++ rest) none.0 ∙ ap (λ (ls : List (List ℕ)). line ∷ ls) (lines_then lines rest none.1)

pub take_past : (xs ys : List ℕ) (m : ℕ) → take (length xs + m) (xs ++ ys) ≡ xs ++ take m ys
take_past [] ys m = let e : 0 + m ≡ m = omega arith in ap (λ k. take k ys) e
take_past (x ∷ xs) ys m = let e : suc (length xs) + m ≡ suc (length xs + m) = omega arith in rw e (ap (λ (l : List ℕ). x ∷ l) (take_past xs ys m))

take_none : (n : ℕ) → take {A = ℕ} n [] ≡ []
take_none zero = refl
take_none (suc n) = refl

-- a prefix of lines has the first of them
pub record IsPrefixOf (lines : List (List ℕ)) (octets : List ℕ) : Type 0 where
  pub count : ℕ
  pub within : count ≤ length lines
  pub are : whole_lines octets ≡ take count lines

pub prefix_of : (lines : List (List ℕ)) (n : ℕ) → HaveNoLf lines → IsPrefixOf lines (take n (flat_map line_ended lines))
prefix_of [] n none = record { count = 0; within = omega arith; are = ap whole_lines (take_none n) }
prefix_of (line ∷ lines) n none = elim (cases_lt (length line) n) [
  | inl whole ↦
      let m = n - length (line_ended line) in
      let split : length (line_ended line) + m ≡ n = omega (arith, whole, length-append line (10 ∷ [])) in
      let rest = prefix_of lines m none.1 in
      record {
        count = suc rest.count;
        within = omega (arith, rest.within);
        are = ap (λ k. whole_lines (take k (line_ended line ++ flat_map line_ended lines))) (sym split)
            ∙ ap whole_lines (take_past (line_ended line) (flat_map line_ended lines) m)
            ∙ line_first line (take m (flat_map line_ended lines)) none.0
            ∙ ap (λ (ls : List (List ℕ)). line ∷ ls) rest.are;
      }
  | inr torn ↦
      let prefix : take n (line_ended line ++ flat_map line_ended lines) ≡ take n line =
      ap (take n) (append_assoc line (10 ∷ []) (flat_map line_ended lines)) ∙ take-append-le n line (10 ∷ flat_map line_ended lines) torn in
      record { count = 0; within = omega arith; are = ap whole_lines prefix ∙ torn_line (take n line) (prefix_without_lf n line none.0) }
]
