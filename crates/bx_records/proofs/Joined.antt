-- Records, line after line.
use Rattle.std.proofs.Common.{◌≡◌, subst, ◌++◌, ◌+◌, ◌<◌, ◌∷◌, [], ◌∙◌, ap, refl, sym, ℕ, List, Option, length, drop, drop-cons, append_assoc, append-nil, slice_index_or, ap₂, suc, ◌≤◌, arith}
use Rattle.std.proofs.lemmas.List.{drop_all}
use Rattle.bx_calendar.specs.declared.clock.Clock.{Clock}
use Rattle.bx_day.specs.declared.entry.Entry.{Entry}
use Rattle.bx_records.specs.Records.{IsRecord, AreRecords, IsRecordsText}

-- seven pieces
pub joined : (a b c d e f g h p1 p2 p3 p4 p5 p6 p7 : List ℕ) → b ≡ a ++ p1 → c ≡ b ++ p2 → d ≡ c ++ p3 → e ≡ d ++ p4 → f ≡ e ++ p5 → g ≡ f ++ p6 → h ≡ g ++ p7
    → h ≡ a ++ (p1 ++ p2 ++ p3 ++ p4 ++ p5 ++ p6 ++ p7)
joined a b c d e f g h p1 p2 p3 p4 p5 p6 p7 e1 e2 e3 e4 e5 e6 e7 = rw (e7, e6, e5, e4, e3, e2, e1) (simp append_assoc)

-- one line more
pub line_more : (clock : Option Clock) (entries : List Entry) (k : ℕ) (entry : Entry) (text new line : List ℕ) → drop k entries ≡ entry ∷ drop (k + 1) entries → IsRecord clock entry line → new ≡ text ++ line
    → ((rest : List ℕ) → AreRecords clock (drop k entries) rest → IsRecordsText clock entries (text ++ rest))
    → (rest : List ℕ) → AreRecords clock (drop (k + 1) entries) rest → IsRecordsText clock entries (new ++ rest)
line_more clock entries k entry text new line cut is more before rest following =
    subst (IsRecordsText clock entries) (sym (ap (λ (n : List ℕ). n ++ rest) more ∙ append_assoc text line rest))
    (before (line ++ rest) (subst (λ (es : List Entry). AreRecords clock es (line ++ rest)) (sym cut) (line, rest, is, following, refl)))

-- the entry of an index, and those after it
pub entries_from : (entries : List Entry) (k : ℕ) (entry : Entry) → entry ≡ slice_index_or entries k entry → k < length entries → drop k entries ≡ entry ∷ drop (k + 1) entries
entries_from entries k entry is lt = drop-cons entries k entry lt ∙ ap₂ (λ (e : Entry) (n : ℕ). e ∷ drop n entries) (sym is) (let q : suc k ≡ k + 1 = omega arith in q)

-- all lines
pub all_lines : (clock : Option Clock) (entries : List Entry) (k : ℕ) (text : List ℕ) → length entries ≤ k
    → ((rest : List ℕ) → AreRecords clock (drop k entries) rest → IsRecordsText clock entries (text ++ rest)) → IsRecordsText clock entries text
all_lines clock entries k text past is = subst (IsRecordsText clock entries) (append-nil text) (is [] (subst (λ (es : List Entry). AreRecords clock es []) (sym (drop_all k entries past)) refl))
