-- Seats of accepted rows, listed, sorted, and kept apart.
use Rattle.std.proofs.Common.{zero, suc, ◌≡◌, ℕ, ◌+◌, ◌-◌, ◌<◌, ◌≤◌, true, false, List, [], ◌∷◌, ◌++◌, length, Option, refl, sym, ◌∙◌, ap, subst, arith, ◌⊎◌, inl, inr}
use Rattle.std.specs.List.Sorted.{IsPermutation, IsSorted}
use Rattle.std.specs.declared.cmp.Ordering.{Ordering}
use Rattle.std.specs.Ordering.{nat_cmp, ordering_then, is_lt}
use Rattle.std.proofs.lemmas.Bool.{cases_lt, cases_order}
use Rattle.std.proofs.lemmas.Bool.Decides.{nat_tests}
use Rattle.std.proofs.lemmas.List.{get_or_default, get_or_append_left, get_or_push, length_push}
use Rattle.std.proofs.lemmas.List.Elements.{All-nil, All-push}
use Rattle.std.proofs.lemmas.List.Sorted.{All-permutation, Contains-permutation}
use Rattle.bx_base.specs.Bookings.{Row, row_at, is_running}
use Rattle.bx_base.specs.Plans.{is_accepted, channel_at, Clash}
use Rattle.bx_check.specs.Seats.{seat_of, IsSeat, AreSeats, seat_at, KeepApart}

abbrev Seat : Type 0
Seat = ℕ × ℕ × ℕ

pub no_seats : (rows : List Row) (assigned : List (Option ℕ)) → AreSeats rows assigned 0 []
no_seats rows assigned = record { few = omega arith; each = All-nil (IsSeat rows assigned); all = λ i h. absurd (omega arith) }

pub seats_skip : (rows : List Row) (assigned : List (Option ℕ)) (n : ℕ) (seats : List Seat) → is_accepted assigned n ≡ false → AreSeats rows assigned n seats → AreSeats rows assigned (n + 1) seats
seats_skip rows assigned n seats out l = record {
  few = omega (arith, l.few);
  each = l.each;
  all = λ i h a. elim (cases_lt i n) [ inl b ↦ l.all i b a | inr b ↦ (let e : i ≡ n = omega arith in let a' = rw e at a in cc) ];
}

pub seats_more : (rows : List Row) (assigned : List (Option ℕ)) (n : ℕ) (seats : List Seat) → n < length rows → AreSeats rows assigned n seats → AreSeats rows assigned (n + 1) (seats ++ seat_of rows assigned n ∷ [])
seats_more rows assigned n seats within l =
    let seat = seat_of rows assigned n in
    let size = length_push seats seat in
    record {
      few = omega (arith, l.few, size);
      each = All-push (IsSeat rows assigned) seats seat l.each (n, within, refl);
      all = λ i h a. elim (cases_lt i n) [
        | inl b ↦ (let f = l.all i b a in (f.0, omega (arith, f.1, size), get_or_append_left seats (seat ∷ []) (seat_of rows assigned i) f.0 f.1 ∙ f.2))
        | inr b ↦ (let e : i ≡ n = omega arith in (length seats, omega (arith, size), get_or_push seats seat (seat_of rows assigned i) (length seats) refl ∙ ap (seat_of rows assigned) (sym e)))
      ];
    }

-- by channel, and on one channel by start
abbrev Before : Seat → Seat → Type 0
Before p q = (p.0 < q.0) ⊎ ((p.0 ≡ q.0) × (p.1 ≤ q.1))

abbrev pub seat_cmp : Seat → Seat → Ordering
seat_cmp p q = ordering_then (ordering_then (nat_cmp p.0 q.0) (nat_cmp p.1 q.1)) (nat_cmp p.2 q.2)

not_below : (a b c d e f : ℕ) → is_lt (ordering_then (ordering_then (nat_cmp a b) (nat_cmp c d)) (nat_cmp e f)) ≡ false → (b < a) ⊎ ((b ≡ a) × (d ≤ c))
not_below a b c d e f h = elim (cases_lt b a) [
  | inl l ↦ inl l
  | inr l ↦ inr (grind (arith, nat_tests))
]

next_before : (seats : List Seat) → IsSorted seat_cmp seats → (k : ℕ) → k + 1 < length seats → Before (seat_at seats k) (seat_at seats (k + 1))
next_before seats sorted k h =
    let p = seat_at seats k in
    let q = seat_at seats (k + 1) in
    not_below q.0 p.0 q.1 p.1 q.2 p.2 (sorted k (0, 0, 0) (omega arith) h)

before_trans : (p q r : Seat) → Before p q → Before q r → Before p r
before_trans p q r (inl a) (inl b) = inl (omega (arith, a, b))
before_trans p q r (inl a) (inr (e, b)) = inl (omega (arith, a, e))
before_trans p q r (inr (e, a)) (inl b) = inl (omega (arith, e, b))
before_trans p q r (inr (e, a)) (inr (f, b)) = inr (omega (arith, e, f), omega (arith, a, b))

same_before : (p : Seat) → Before p p
same_before p = inr (refl, omega arith)

before_after : (seats : List Seat) → IsSorted seat_cmp seats → (a n b : ℕ) → b ≡ a + n → b < length seats → Before (seat_at seats a) (seat_at seats b)
before_after seats sorted a zero b e h = let same : a ≡ b = omega (arith, e) in subst (λ x. Before (seat_at seats a) (seat_at seats x)) same (same_before (seat_at seats a))
before_after seats sorted a (suc n) b e h =
    let last : b ≡ a + n + 1 = omega (arith, e) in
    let first = before_after seats sorted a n (a + n) refl (omega (arith, h, last)) in
    let next = next_before seats sorted (a + n) (omega (arith, h, last)) in
    subst (λ x. Before (seat_at seats a) (seat_at seats x)) (sym last) (before_trans (seat_at seats a) (seat_at seats (a + n)) (seat_at seats (a + n + 1)) first next)

-- between two of one channel all are of it, and start no later than the second
between : (p q r : Seat) → Before p q → Before q r → p.0 ≡ r.0 → (p.0 ≡ q.0) × (q.1 ≤ r.1)
between p q r (inl a) (inl b) e = absurd (omega (arith, a, b, e))
between p q r (inl a) (inr (f, b)) e = absurd (omega (arith, a, f, e))
between p q r (inr (f, a)) (inl b) e = absurd (omega (arith, f, b, e))
between p q r (inr (f, a)) (inr (g, b)) e = (f, b)

ends_before : (rows : List Row) (seats : List Seat) → IsSorted seat_cmp seats → KeepApart rows seats (length seats) → (a b : ℕ) → a < b → b < length seats → (seat_at seats a).0 ≡ (seat_at seats b).0
    → (row_at rows (seat_at seats a).2).end ≤ (seat_at seats b).1
ends_before rows seats sorted apart a b less within e =
    let next = before_after seats sorted a 1 (a + 1) refl (omega (arith, less, within)) in
    let rest = before_after seats sorted (a + 1) (b - (a + 1)) b (omega (arith, less)) within in
    let mid = between (seat_at seats a) (seat_at seats (a + 1)) (seat_at seats b) next rest e in
    omega (arith, apart a (omega (arith, less, within)) mid.0, mid.1)

not_both : (p q : Row) (moment : ℕ) → is_running p moment ≡ true → is_running q moment ≡ true → p.end ≤ q.start → ⊥
not_both p q moment a b h = grind (arith, nat_tests)

-- the row of a seat is one of the plan
pub seat_inside : (rows : List Row) (assigned : List (Option ℕ)) (n : ℕ) (listed seats : List Seat) → AreSeats rows assigned n listed → IsPermutation listed seats → (k : ℕ) → k < length seats → (seat_at seats k).2 < length rows
seat_inside rows assigned n listed seats are moved k h =
    let seat = All-permutation (IsSeat rows assigned) listed seats moved are.each k (0, 0, 0) h in
    omega (arith, seat.1, ap (λ (s : Seat). s.2) seat.2)

module _ (rows : List Row) (assigned : List (Option ℕ)) (listed seats : List Seat) (are : AreSeats rows assigned (length rows) listed) (moved : IsPermutation listed seats) (sorted : IsSorted seat_cmp seats) (apart : KeepApart rows seats (length seats)) where
  place_of : (i : ℕ) → i < length rows → is_accepted assigned i ≡ true → (k : ℕ) × (k < length seats) × (seat_at seats k ≡ seat_of rows assigned i)
  place_of i h a =
      let there = Contains-permutation listed seats (seat_of rows assigned i) moved (are.all i h a) in
      (there.0, there.1, get_or_default seats there.0 (0, 0, 0) (seat_of rows assigned i) there.1 ∙ there.2)

  ordered : (i k a b : ℕ) → a < b → b < length seats → seat_at seats a ≡ seat_of rows assigned i → seat_at seats b ≡ seat_of rows assigned k → channel_at assigned i ≡ channel_at assigned k → (row_at rows i).end ≤ (row_at rows k).start
  ordered i k a b less within p q e =
      let far = ends_before rows seats sorted apart a b less within (ap (λ (s : Seat). s.0) p ∙ (e ∙ sym (ap (λ (s : Seat). s.0) q))) in
      let row : (seat_at seats a).2 ≡ i = ap (λ (s : Seat). s.2) p in
      let start : (seat_at seats b).1 ≡ (row_at rows k).start = ap (λ (s : Seat). s.1) q in
      let end : (row_at rows (seat_at seats a).2).end ≡ (row_at rows i).end = ap (λ (x : ℕ). (row_at rows x).end) row in
      omega (arith, far, start, end)

  pub none_clash : (i k : ℕ) → i < k → k < length rows → Clash rows assigned i k → ⊥
  none_clash i k less within clash =
      let first = place_of i (omega (arith, less, within)) clash.first in
      let second = place_of k within clash.second in
      let rows_of : first.0 ≡ second.0 → i ≡ k = (λ e. let s = sym first.2 ∙ (ap (seat_at seats) e ∙ second.2) in ap (λ (s : Seat). s.2) s) in
      elim (cases_order first.0 second.0) [
        | inl e ↦ absurd (let s = rows_of e in omega (arith, s, less))
        | inr (inl l) ↦ not_both (row_at rows i) (row_at rows k) clash.overlap.0 clash.overlap.1 clash.overlap.2 (ordered i k first.0 second.0 l second.1 first.2 second.2 clash.channel)
        | inr (inr l) ↦ not_both (row_at rows k) (row_at rows i) clash.overlap.0 clash.overlap.2 clash.overlap.1 (ordered k i second.0 first.0 l first.1 second.2 first.2 (sym clash.channel))
      ]
