-- The intervals of marked seconds, one after another.
use Rattle.std.proofs.Common.{◌≡◌, ◌↔◌, ◌⊎◌, ℕ, ◌+◌, ◌<◌, ◌≤◌, Bool, true, false, List, [], ◌∷◌, ◌++◌, length, length-append, Option, refl, sym, subst, ap, ◌∙◌, inl, inr, arith, append_assoc}
use Rattle.std.proofs.lemmas.Bool.{true≢false, cases_lt}
use Rattle.std.proofs.lemmas.List.{get_or_past, append-nil}
use Rattle.bx_calendar.specs.declared.clock.Clock.{Clock}
use Rattle.bx_office_world.specs.StartMarks.{is_marked_at, AreStartMarks}
use Rattle.bx_office_world.specs.FreeTimes.{Interval, IsNextInterval, AreInTurn, IsIntervalLine, AreIntervalLines, AreIntervalsTold}

abbrev pub marked : List Bool → ℕ → Type 0
marked marks second = is_marked_at marks second ≡ true

-- ---- one more of them

in_turn_more : (P : ℕ → Type 0) (begin rest : ℕ) (is : List Interval) (i : Interval) → AreInTurn P begin is rest → IsNextInterval P rest i → AreInTurn P begin (is ++ i ∷ []) (i.until + 1)
in_turn_more P begin rest [] i e next = (subst (λ (n : ℕ). IsNextInterval P n i) (sym e) next, refl)
in_turn_more P begin rest (x ∷ is) i p next = (p.0, in_turn_more P (x.until + 1) rest is i p.1 next)

lines_more : (clock : Option Clock) (is : List Interval) (i : Interval) (text line : List ℕ) → AreIntervalLines clock is text → IsIntervalLine clock i line → AreIntervalLines clock (is ++ i ∷ []) (text ++ line)
lines_more clock [] i text line e told = (line, [], told, refl, ap (λ (t : List ℕ). t ++ line) e ∙ sym (append-nil line))
lines_more clock (x ∷ is) i text line p told =
    (p.0, p.1 ++ line, p.2, lines_more clock is i p.1 line p.3 told, ap (λ (t : List ℕ). t ++ line) p.4 ∙ append_assoc p.0 p.1 line)

-- so many were told, up to this second
pub record SoFar (clock : Option Clock) (P : ℕ → Type 0) (before text : List ℕ) (count rest : ℕ) : Type 0 where
  pub intervals : List Interval
  pub in_turn : AreInTurn P 0 intervals rest
  pub many : length intervals ≡ count
  pub lines : List ℕ
  pub told : AreIntervalLines clock intervals lines
  pub are : text ≡ before ++ lines

pub none_yet : (clock : Option Clock) (P : ℕ → Type 0) (before : List ℕ) → SoFar clock P before before 0 0
none_yet clock P before = record { intervals = []; in_turn = refl; many = refl; lines = []; told = refl; are = sym (append-nil before) }

pub one_more : (clock : Option Clock) (P : ℕ → Type 0) (before text next line : List ℕ) (count rest : ℕ) (i : Interval) → SoFar clock P before text count rest → IsNextInterval P rest i → IsIntervalLine clock i line → next ≡ text ++ line
    → SoFar clock P before next (count + 1) (i.until + 1)
one_more clock P before text next line count rest i s is told e = record {
  intervals = s.intervals ++ i ∷ [];
  in_turn = in_turn_more P 0 rest s.intervals i s.in_turn is;
  many = length-append s.intervals (i ∷ []) ∙ ap (λ (n : ℕ). n + 1) s.many;
  lines = s.lines ++ line;
  told = lines_more clock s.intervals i s.lines line s.told told;
  are = e ∙ ap (λ (t : List ℕ). t ++ line) s.are ∙ append_assoc before s.lines line;
}

-- ---- the end

-- a hundred were told, or none is left
pub all_told : (clock : Option Clock) (P : ℕ → Type 0) (before text : List ℕ) (count rest : ℕ) → count ≤ 100 → SoFar clock P before text count rest → ((second : ℕ) → rest ≤ second → ¬ P second) → AreIntervalsTold clock P before text
all_told clock P before text count rest few s none = record {
  intervals = s.intervals;
  first = record { rest = rest; in_turn = s.in_turn; few = omega (arith, few, s.many); last = inl none };
  lines = s.lines;
  told = s.told;
  are = s.are;
}

pub enough_told : (clock : Option Clock) (P : ℕ → Type 0) (before text : List ℕ) (rest : ℕ) → SoFar clock P before text 100 rest → AreIntervalsTold clock P before text
enough_told clock P before text rest s = record {
  intervals = s.intervals;
  first = record { rest = rest; in_turn = s.in_turn; few = omega (arith, s.many); last = inr s.many };
  lines = s.lines;
  told = s.told;
  are = s.are;
}

-- ---- as they are found

-- of no second from one on that stands past the last mark, where none is marked before it
pub none_left : (marks : List Bool) (rest from : ℕ) → length marks ≤ from → ((k : ℕ) → rest ≤ k → k < from → is_marked_at marks k ≡ false) → (k : ℕ) → rest ≤ k → ¬ marked marks k
none_left marks rest from past none k ge here = elim (cases_lt k from) [
  | inl less ↦ true≢false (sym here ∙ none k ge less)
  | inr more ↦ true≢false (sym here ∙ get_or_past marks k false (omega (arith, past, more)))
]

-- the next second without a mark comes after the first mark
pub moves_on : (marks : List Bool) (from past : ℕ) → from < length marks → is_marked_at marks from ≡ true → from ≤ past → (past < length marks → is_marked_at marks past ≡ false) → from < past
moves_on marks from past within here le ended = elim (cases_lt from past) [
  | inl less ↦ less
  | inr more ↦ absurd (let same : past ≡ from = omega (arith, more, le) in true≢false (sym here ∙ ap (is_marked_at marks) (sym same) ∙ ended (omega (arith, same, within))))
]

-- from the first mark up to just before the next second without one
pub next_interval : (marks : List Bool) (rest from past until : ℕ) → rest ≤ from → from < length marks → is_marked_at marks from ≡ true → ((k : ℕ) → rest ≤ k → k < from → is_marked_at marks k ≡ false)
    → from ≤ past → past ≤ length marks → ((k : ℕ) → from ≤ k → k < past → is_marked_at marks k ≡ true) → (past < length marks → is_marked_at marks past ≡ false) → until + 1 ≡ past
    → IsNextInterval (marked marks) rest (record { from = from; until = until })
next_interval marks rest from past until ge within here none le size each ended is = record {
  begins = ge;
  in_order = ordered;
  before = λ k above below found. true≢false (sym found ∙ none k above below);
  within = λ k above below. each k above (omega (arith, below, is));
  after = λ found. elim (cases_lt past (length marks)) [
    | inl less ↦ true≢false (sym found ∙ ap (is_marked_at marks) is ∙ ended less)
    | inr more ↦ true≢false (sym found ∙ get_or_past marks (until + 1) false (omega (arith, more, is)))
  ];
}
  where
    ordered : from ≤ until
    ordered = omega (arith, moves_on marks from past within here le ended, is)

-- ---- what is marked is what the marks stand for

turn_to : (P Q : ℕ → Type 0) → ((k : ℕ) → P k ↔ Q k) → (begin rest : ℕ) (is : List Interval) → AreInTurn P begin is rest → AreInTurn Q begin is rest
turn_to P Q to begin rest [] e = e
turn_to P Q to begin rest (i ∷ is) p = (
  record {
    begins = p.0.begins;
    in_order = p.0.in_order;
    before = λ k above below found. p.0.before k above below ((to k).1 found);
    within = λ k above below. (to k).0 (p.0.within k above below);
    after = λ found. p.0.after ((to (i.until + 1)).1 found);
  },
  turn_to P Q to (i.until + 1) rest is p.1,
)

last_to : (P Q : ℕ → Type 0) (rest n : ℕ) → ((k : ℕ) → P k ↔ Q k) → ((second : ℕ) → rest ≤ second → ¬ P second) ⊎ (n ≡ 100) → ((second : ℕ) → rest ≤ second → ¬ Q second) ⊎ (n ≡ 100)
last_to P Q rest n to (inl none) = inl (λ k above found. none k above ((to k).1 found))
last_to P Q rest n to (inr enough) = inr enough

pub told_so : (clock : Option Clock) (marks : List Bool) (Q : ℕ → Type 0) (before text : List ℕ) → AreStartMarks marks Q → AreIntervalsTold clock (marked marks) before text → AreIntervalsTold clock Q before text
told_so clock marks Q before text to t = record {
  intervals = t.intervals;
  first = record {
    rest = t.first.rest;
    in_turn = turn_to (marked marks) Q to 0 t.first.rest t.intervals t.first.in_turn;
    few = t.first.few;
    last = last_to (marked marks) Q t.first.rest (length t.intervals) to t.first.last;
  };
  lines = t.lines;
  told = t.told;
  are = t.are;
}
