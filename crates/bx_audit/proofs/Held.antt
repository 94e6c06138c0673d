-- Bookings that a plan need not hold where it refuses them: whatever carries some of them carries these, and a choice with all that are marked is lawful.
use Rattle.std.proofs.Common.{◌≡◌, ◌∙◌, inl, inr, ℕ, zero, suc, ◌<◌, not, Bool, true, false, List, [], ◌∷◌, map, length, Option, refl, sym, ap, ap₂, subst, arith}
use Rattle.bx_base.specs.Bookings.{Row, row_at, is_running, Overlap, Carries, IsLawful}
use Rattle.bx_colour.specs.Colouring.{is_in, IsEarlier, IsChannelTaken, IsFirstFit}
use Rattle.bx_day.specs.Invariant.{is_refused}
use Rattle.bx_day.specs.declared.entry.Entry.{Entry}
use Rattle.bx_audit.specs.HeldRows.{row_held, rows_as_held}

pub held_length : (rows : List Row) (marks : List Bool) → length (rows_as_held rows marks) ≡ length rows
unfolding rows_as_held
held_length [] marks = refl
held_length (row ∷ rows) [] = omega (arith, held_length rows [])
held_length (row ∷ rows) (mark ∷ marks) = omega (arith, held_length rows marks)

pub held_at : (rows : List Row) (marks : List Bool) (i : ℕ) → i < length rows → row_at (rows_as_held rows marks) i ≡ row_held (row_at rows i) (is_in marks i)
unfolding rows_as_held
held_at [] marks i lt = absurd (omega (arith, lt))
held_at (row ∷ rows) [] zero lt = refl
held_at (row ∷ rows) [] (suc i) lt = held_at rows [] i (omega (arith, lt))
held_at (row ∷ rows) (mark ∷ marks) zero lt = refl
held_at (row ∷ rows) (mark ∷ marks) (suc i) lt = held_at rows marks i (omega (arith, lt))

-- those of entries
pub held_of : (entries : List Entry) → map (λ (e : Entry). row_held e.booking (not (is_refused e.standing))) entries ≡ rows_as_held (map (λ (e : Entry). e.booking) entries) (map (λ (e : Entry). not (is_refused e.standing)) entries)
unfolding rows_as_held
held_of [] = refl
held_of (e ∷ es) = ap (λ (rows : List Row). row_held e.booking (not (is_refused e.standing)) ∷ rows) (held_of es)

running_held : (row : Row) (mark : Bool) (t : ℕ) → is_running (row_held row mark) t ≡ is_running row t
running_held row true t = refl
running_held row false t = refl

overlap_held : (a b : Row) (m n : Bool) → Overlap (row_held a m) (row_held b n) → Overlap a b
overlap_held a b m n (t, x, y) = (t, sym (running_held a m t) ∙ x, sym (running_held b n t) ∙ y)

overlap_of : (a b : Row) (m n : Bool) → Overlap a b → Overlap (row_held a m) (row_held b n)
overlap_of a b m n (t, x, y) = (t, running_held a m t ∙ x, running_held b n t ∙ y)

start_held : (row : Row) (mark : Bool) → (row_held row mark).start ≡ row.start
start_held row true = refl
start_held row false = refl

pub held_carries : (rows : List Row) (marks : List Bool) (channels : List Bool) (set : ℕ → Bool) (assignment : ℕ → ℕ) → Carries rows channels set assignment → Carries (rows_as_held rows marks) channels set assignment
held_carries rows marks channels set assignment carries =
    let n = held_length rows marks in
    record {
      in_service = λ i lt a. carries.in_service i (omega (arith, lt, n)) a;
      apart = λ i j lt lj a b o. carries.apart i j lt (omega (arith, lj, n)) a b
          (overlap_held (row_at rows i) (row_at rows j) (is_in marks i) (is_in marks j)
          (subst (λ (x : Row). Overlap x (row_held (row_at rows j) (is_in marks j))) (held_at rows marks i (omega (arith, lt, lj, n)))
          (subst (λ (y : Row). Overlap (row_at (rows_as_held rows marks) i) y) (held_at rows marks j (omega (arith, lj, n))) o)));
    }

marked_must : (row : Row) (mark : Bool) → (row_held row mark).must ≡ true → mark ≡ true
marked_must row true e = refl
marked_must row false e = e

pub held_lawful : (rows : List Row) (marks : List Bool) (channels : List Bool) (set : ℕ → Bool) (assignment : ℕ → ℕ) → ((i : ℕ) → set i ≡ is_in marks i) → Carries (rows_as_held rows marks) channels set assignment → IsLawful (rows_as_held rows marks) channels set
held_lawful rows marks channels set assignment same carries = record {
  carried = (assignment, carries);
  has_musts = λ i lt must.
      let n = held_length rows marks in
      same i ∙ marked_must (row_at rows i) (is_in marks i) (sym (ap (λ (r : Row). r.must) (held_at rows marks i (omega (arith, lt, n)))) ∙ must);
}

-- where all that have to be held are marked, these are the bookings themselves
cleared : (row : Row) (must : Bool) → row.must ≡ must → record row { must = must } ≡ row
cleared row must e = subst (λ (b : Bool). record row { must = b } ≡ row) e refl

same_held : (row : Row) (mark : Bool) → (row.must ≡ true → mark ≡ true) → row_held row mark ≡ row
same_held row true has = refl
same_held row false has = by_must row.must refl where
  by_must : (must : Bool) → row.must ≡ must → record row { must = false } ≡ row
  by_must true e = let no : false ≡ true = has e in cc
  by_must false e = cleared row false e

pub all_held : (rows : List Row) (marks : List Bool) → ((i : ℕ) → i < length rows → (row_at rows i).must ≡ true → is_in marks i ≡ true) → rows_as_held rows marks ≡ rows
unfolding rows_as_held
all_held [] marks has = refl
all_held (row ∷ rows) [] has = ap₂ (λ (x : Row) (xs : List Row). x ∷ xs) (same_held row false (has 0 (omega arith))) (all_held rows [] (λ i lt must. has (suc i) (omega (arith, lt)) must))
all_held (row ∷ rows) (mark ∷ marks) has = ap₂ (λ (x : Row) (xs : List Row). x ∷ xs) (same_held row mark (has 0 (omega arith))) (all_held rows marks (λ i lt must. has (suc i) (omega (arith, lt)) must))

-- first fit looks at starts and ends alone
module _ (rows : List Row) (marks channels accepted : List Bool) (assigned : List (Option ℕ)) where
  abbrev all : List Row
  all = rows_as_held rows marks

  count : length all ≡ length rows
  count = held_length rows marks

  start_at : (i : ℕ) → i < length rows → (row_at all i).start ≡ (row_at rows i).start
  start_at i lt = ap (λ (r : Row). r.start) (held_at rows marks i lt) ∙ start_held (row_at rows i) (is_in marks i)

  earlier_held : (j i : ℕ) → j < length rows → i < length rows → IsEarlier all j i → IsEarlier rows j i
  earlier_held j i lj li (inl before) = inl (let a = start_at j lj in let b = start_at i li in omega (arith, a, b, before))
  earlier_held j i lj li (inr (same, lower)) = inr (sym (start_at j lj) ∙ same ∙ start_at i li, lower)

  earlier_of : (j i : ℕ) → j < length rows → i < length rows → IsEarlier rows j i → IsEarlier all j i
  earlier_of j i lj li (inl before) = inl (let a = start_at j lj in let b = start_at i li in omega (arith, a, b, before))
  earlier_of j i lj li (inr (same, lower)) = inr (start_at j lj ∙ same ∙ sym (start_at i li), lower)

  taken_held : (i c : ℕ) → i < length rows → IsChannelTaken all assigned i c → IsChannelTaken rows assigned i c
  taken_held i c li (j, lj, earlier, overlap, has) =
      let inside : j < length rows = omega (arith, lj, count) in (
        j,
        inside,
        earlier_held j i inside li earlier,
        overlap_held (row_at rows j) (row_at rows i) (is_in marks j) (is_in marks i)
            (subst (λ (x : Row). Overlap x (row_held (row_at rows i) (is_in marks i))) (held_at rows marks j inside)
            (subst (λ (y : Row). Overlap (row_at all j) y) (held_at rows marks i li) overlap)),
        has,
      )

  taken_of : (i c : ℕ) → i < length rows → IsChannelTaken rows assigned i c → IsChannelTaken all assigned i c
  taken_of i c li (j, lj, earlier, overlap, has) = (
    j,
    omega (arith, lj, count),
    earlier_of j i lj li earlier,
    subst (λ (x : Row). Overlap x (row_at all i)) (sym (held_at rows marks j lj))
        (subst (λ (y : Row). Overlap (row_held (row_at rows j) (is_in marks j)) y) (sym (held_at rows marks i li)) (overlap_of (row_at rows j) (row_at rows i) (is_in marks j) (is_in marks i) overlap)),
    has,
  )

  pub held_first_fit : IsFirstFit rows channels accepted assigned → IsFirstFit all channels accepted assigned
  held_first_fit fit = record {
    one_each = fit.one_each ∙ sym count;
    given = λ i lt marked.
        let li : i < length rows = omega (arith, lt, count) in
        let g = fit.given i li marked in (
          g.0,
          g.1,
          record {
            in_service = g.2.in_service;
            free = λ taken. g.2.free (taken_held i g.0 li taken);
            lowest = λ n below has. taken_of i n li (g.2.lowest n below has);
          },
        );
    refused = fit.refused;
  }
