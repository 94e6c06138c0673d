-- First fit goes by the order of (start, row), and whether two rows overlap that start by moment t does not depend on an end that is later. So
-- what starts by then has the same channel whatever changes after it, by induction along the order.
use Rattle.std.proofs.Common.{◌≡◌, ℕ, zero, suc, ◌+◌, ◌<◌, ◌≤◌, Bool, true, false, List, length, Option, Some, is_some, arith, refl, sym, ap, ◌∙◌, inl, inr, nat_le, nat_lt}
use Rattle.std.proofs.lemmas.Bool.{cases_lt, and_parts, and_from, leb-true, ltb-true, le-leb, lt-ltb, true≢false}
use Rattle.bx_base.specs.Bookings.{Row, row_at, is_running, Overlap}
use Rattle.bx_base.specs.Channels.{has_channel}
use Rattle.bx_colour.specs.ChangedRows.{IsFirstFitAmong, IsSameUpTo, AreSameUpTo}
use Rattle.bx_colour.specs.Colouring.{is_in, IsEarlier, channel_of, IsChannelTaken, IsLowestFree, IsFirstFit}

runs_from : (a : Row) (t : ℕ) → is_running a t ≡ true → (a.start ≤ t) × (t < a.end)
runs_from a t h = let p = and_parts (nat_le a.start t) (nat_lt t a.end) h in (leb-true a.start t p.0, ltb-true t a.end p.1)

runs_to : (a : Row) (t : ℕ) → a.start ≤ t → t < a.end → is_running a t ≡ true
runs_to a t le lt = and_from (nat_le a.start t) (nat_lt t a.end) (le-leb a.start t le) (lt-ltb t a.end lt)

-- two rows that overlap, the first of which starts no later, do so when the second starts
meet : (a b : Row) → a.start ≤ b.start → Overlap a b → (b.start < a.end) × (b.start < b.end)
meet a b first o =
    let ra = runs_from a o.0 o.1 in
    let rb = runs_from b o.0 o.2 in
    (omega (arith, ra.1, rb.0), omega (arith, rb.0, rb.1))

ends_after : (t s : ℕ) (a b : Row) → IsSameUpTo t a b → s ≤ t → s < a.end → s < b.end
ends_after t s a b h by lt = elim h.end [ inl q ↦ omega (arith, lt, q) | inr p ↦ omega (arith, by, p.1) ]

ended_before : (t s : ℕ) (a b : Row) → IsSameUpTo t a b → s ≤ t → s < b.end → s < a.end
ended_before t s a b h by lt = elim h.end [ inl q ↦ omega (arith, lt, q) | inr p ↦ omega (arith, by, p.0) ]

overlap_after : (t : ℕ) (a b a' b' : Row) → IsSameUpTo t a a' → IsSameUpTo t b b' → a.start ≤ b.start → b.start ≤ t → Overlap a b → Overlap a' b'
overlap_after t a b a' b' h k first by o =
    let p = meet a b first o in
    (b.start, runs_to a' b.start (omega (arith, first, h.start)) (ends_after t b.start a a' h by p.0), runs_to b' b.start (omega (arith, k.start)) (ends_after t b.start b b' k by p.1))

overlap_before : (t : ℕ) (a b a' b' : Row) → IsSameUpTo t a a' → IsSameUpTo t b b' → a.start ≤ b.start → b.start ≤ t → Overlap a' b' → Overlap a b
overlap_before t a b a' b' h k first by o =
    let p = meet a' b' (omega (arith, first, h.start, k.start)) o in
    let s : b'.start ≡ b.start = k.start in
    (b.start, runs_to a b.start first (ended_before t b.start a a' h by (omega (arith, p.0, s))), runs_to b b.start (omega arith) (ended_before t b.start b b' k by (omega (arith, p.1, s))))

-- what has a channel is accepted
pub coloured : (rows : List Row) (allowed : ℕ → List Bool) (accepted : List Bool) (assigned : List (Option ℕ)) (i c : ℕ) (b : Bool) → is_in accepted i ≡ b → IsFirstFitAmong rows allowed accepted assigned → channel_of assigned i ≡ Some c → is_in accepted i ≡ true
coloured rows allowed accepted assigned i c true e fit is = e
coloured rows allowed accepted assigned i c false e fit is = absurd (true≢false (sym (ap is_some is) ∙ ap is_some (fit.refused i e)))

pub earlier_starts : (rows : List Row) (j i : ℕ) → IsEarlier rows j i → (row_at rows j).start ≤ (row_at rows i).start
earlier_starts rows j i e = elim e [ inl less ↦ omega (arith, less) | inr tie ↦ omega (arith, tie.0) ]

-- an accepted row that starts by t
pub record IsBegun (t : ℕ) (rows : List Row) (accepted : List Bool) (i : ℕ) : Type 0 where
  pub inside : i < length rows
  pub marked : is_in accepted i ≡ true
  pub start : (row_at rows i).start ≤ t

-- plain first fit is one of these
pub among : (rows : List Row) (channels accepted : List Bool) (assigned : List (Option ℕ)) → IsFirstFit rows channels accepted assigned → IsFirstFitAmong rows (λ i. channels) accepted assigned
among rows channels accepted assigned fit = record { one_each = fit.one_each; given = fit.given; refused = fit.refused }

-- what is marked has a channel
pub marked_among : (rows : List Row) (allowed : ℕ → List Bool) (accepted : List Bool) (assigned : List (Option ℕ)) (i : ℕ) (b : Bool) → IsFirstFitAmong rows allowed accepted assigned → is_in accepted i ≡ b → i < length rows → is_some (channel_of assigned i) ≡ b
marked_among rows allowed accepted assigned i true fit e lt = ap is_some (fit.given i lt e).1
marked_among rows allowed accepted assigned i false fit e lt = ap is_some (fit.refused i e)

module _ (t : ℕ) (allowed allowed' : ℕ → List Bool) (rows : List Row) (accepted : List Bool) (assigned : List (Option ℕ)) (rows' : List Row) (accepted' : List Bool) (assigned' : List (Option ℕ)) (fit : IsFirstFitAmong rows allowed accepted assigned) (h : AreSameUpTo t rows accepted allowed rows' accepted' allowed') where
  abbrev Begun : ℕ → Type 0
  Begun i = IsBegun t rows accepted i

  abbrev Agrees : ℕ → Type 0
  Agrees i = channel_of assigned' i ≡ channel_of assigned i

  same : (i : ℕ) → Begun i → IsSameUpTo t (row_at rows i) (row_at rows' i)
  same i b = (h.begun i b.inside b.marked b.start).1

  earlier_after : (i j : ℕ) → Begun i → Begun j → IsEarlier rows j i → IsEarlier rows' j i
  earlier_after i j bi bj e =
      let si : (row_at rows' i).start ≡ (row_at rows i).start = (same i bi).start in
      let sj : (row_at rows' j).start ≡ (row_at rows j).start = (same j bj).start in
      elim e [ inl less ↦ inl (omega (arith, less, si, sj)) | inr tie ↦ inr (omega (arith, tie.0, si, sj), tie.1) ]

  earlier_before : (i j : ℕ) → Begun i → Begun j → IsEarlier rows' j i → IsEarlier rows j i
  earlier_before i j bi bj e =
      let si : (row_at rows' i).start ≡ (row_at rows i).start = (same i bi).start in
      let sj : (row_at rows' j).start ≡ (row_at rows j).start = (same j bj).start in
      elim e [ inl less ↦ inl (omega (arith, less, si, sj)) | inr tie ↦ inr (omega (arith, tie.0, si, sj), tie.1) ]

  pub taken_after : (i c : ℕ) → Begun i → ((j : ℕ) → Begun j → IsEarlier rows j i → Agrees j) → IsChannelTaken rows assigned i c → IsChannelTaken rows' assigned' i c
  taken_after i c bi before k =
      let first = earlier_starts rows k.0 i k.2 in
      let bj : Begun k.0 = record { inside = k.1; marked = coloured rows allowed accepted assigned k.0 c (is_in accepted k.0) refl fit k.4; start = omega (arith, first, bi.start) } in
      (k.0, omega (arith, k.1, h.longer), earlier_after i k.0 bi bj k.2, overlap_after t (row_at rows k.0) (row_at rows i) (row_at rows' k.0) (row_at rows' i) (same k.0 bj) (same i bi) first bi.start k.3, before k.0 bj k.2 ∙ k.4)

  module _ (fit' : IsFirstFitAmong rows' allowed' accepted' assigned') where
    taken_before : (i c : ℕ) → Begun i → ((j : ℕ) → Begun j → IsEarlier rows j i → Agrees j) → IsChannelTaken rows' assigned' i c → IsChannelTaken rows assigned i c
    taken_before i c bi before k =
        let first = earlier_starts rows' k.0 i k.2 in
        let si : (row_at rows' i).start ≡ (row_at rows i).start = (same i bi).start in
        let p = h.no_other k.0 k.1 (coloured rows' allowed' accepted' assigned' k.0 c (is_in accepted' k.0) refl fit' k.4) (omega (arith, first, si, bi.start)) in
        let bj : Begun k.0 = record { inside = p.0; marked = p.1; start = p.2 } in
        let e = earlier_before i k.0 bi bj k.2 in
        (k.0, p.0, e, overlap_before t (row_at rows k.0) (row_at rows i) (row_at rows' k.0) (row_at rows' i) (same k.0 bj) (same i bi) (earlier_starts rows k.0 i e) bi.start k.3, sym (before k.0 bj e) ∙ k.4)

    one_lowest : (i c c' : ℕ) → Begun i → ((j : ℕ) → Begun j → IsEarlier rows j i → Agrees j) → IsLowestFree rows (allowed i) assigned i c → IsLowestFree rows' (allowed' i) assigned' i c' → c' ≡ c
    one_lowest i c c' bi before low low' =
        let same_set : allowed' i ≡ allowed i = h.choices i bi.inside bi.marked bi.start in
        elim (cases_lt c c') [
          | inl less ↦ absurd (low.free (taken_before i c bi before (low'.lowest c less (ap (λ cs. has_channel cs c) same_set ∙ low.in_service))))
          | inr le ↦ elim (cases_lt c' c) [
            | inl less ↦ absurd (low'.free (taken_after i c' bi before (low.lowest c' less (ap (λ cs. has_channel cs c') (sym same_set) ∙ low'.in_service))))
            | inr ge ↦ omega (arith, le, ge)
          ]
        ]

    one_row : (i : ℕ) → Begun i → ((j : ℕ) → Begun j → IsEarlier rows j i → Agrees j) → Agrees i
    one_row i bi before =
        let g = fit.given i bi.inside bi.marked in
        let g' = fit'.given i (omega (arith, bi.inside, h.longer)) (h.begun i bi.inside bi.marked bi.start).0 in
        g'.1 ∙ ap Some (one_lowest i g.0 g'.0 bi before g.2 g'.2) ∙ sym g.1

    -- along the order: by starts, and at one start by rows
    at_one_start : (s n i : ℕ) → ((j : ℕ) → Begun j → (row_at rows j).start < s → Agrees j) → Begun i → (row_at rows i).start ≡ s → i < n → Agrees i
    at_one_start s zero i sooner bi at less = absurd (omega (arith, less))
    at_one_start s (suc n) i sooner bi at less = elim (cases_lt i n) [
      | inl lower ↦ at_one_start s n i sooner bi at lower
      | inr last ↦ one_row i bi (λ j bj e. elim e [
        | inl starts ↦ sooner j bj (omega (arith, starts, at))
        | inr tie ↦ at_one_start s n j sooner bj (omega (arith, tie.0, at)) (omega (arith, tie.1, last, less))
      ])
    ]

    by_starts : (s i : ℕ) → Begun i → (row_at rows i).start < s → Agrees i
    by_starts zero i bi less = absurd (omega (arith, less))
    by_starts (suc s) i bi less = elim (cases_lt (row_at rows i).start s) [
      | inl sooner ↦ by_starts s i bi sooner
      | inr last ↦ at_one_start s (length rows) i (by_starts s) bi (omega (arith, last, less)) bi.inside
    ]

    all_stay : (i : ℕ) → i < length rows → is_in accepted i ≡ true → (row_at rows i).start ≤ t → channel_of assigned' i ≡ channel_of assigned i
    all_stay i lt is_marked by = by_starts ((row_at rows i).start + 1) i (record { inside = lt; marked = is_marked; start = by }) (omega arith)

pub begun_stay : (t : ℕ) (allowed allowed' : ℕ → List Bool) (rows : List Row) (accepted : List Bool) (assigned : List (Option ℕ)) (rows' : List Row) (accepted' : List Bool) (assigned' : List (Option ℕ)) → IsFirstFitAmong rows allowed accepted assigned → IsFirstFitAmong rows' allowed' accepted' assigned' → AreSameUpTo t rows accepted allowed rows' accepted' allowed' → (i : ℕ) → i < length rows → is_in accepted i ≡ true → (row_at rows i).start ≤ t → channel_of assigned' i ≡ channel_of assigned i
begun_stay t allowed allowed' rows accepted assigned rows' accepted' assigned' fit fit' h = all_stay t allowed allowed' rows accepted assigned rows' accepted' assigned' fit h fit'
