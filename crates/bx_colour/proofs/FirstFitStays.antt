-- First fit goes by the order of (start, row). So what starts before moment m has the same channel whatever is accepted from m on:
-- the rows that stand before it in that order start before m too, and by induction along the order they have their channels.
use Rattle.std.proofs.Common.{◌≡◌, ℕ, zero, suc, ◌<◌, ◌≤◌, ◌&&◌, Bool, true, false, List, length, Option, Some, is_some, arith, refl, sym, ap, ap₂, ◌∙◌, inl, inr, nat_le, nat_lt}
use Rattle.std.proofs.lemmas.Bool.{cases_lt}
use Rattle.bx_base.specs.Bookings.{Row, row_at, is_running, Overlap}
use Rattle.bx_base.specs.Extending.{IsSameBooking, Extends}
use Rattle.bx_base.specs.Plans.{is_accepted}
use Rattle.bx_colour.specs.Colouring.{is_in, IsEarlier, channel_of, IsChannelTaken, IsLowestFree, IsFirstFit}

running_same : (a b : Row) (t : ℕ) → IsSameBooking a b → is_running b t ≡ is_running a t
running_same a b t h = ap₂ (λ x y. nat_le x t && nat_lt t y) h.start h.end

overlap_there : (a b a' b' : Row) → IsSameBooking a a' → IsSameBooking b b' → Overlap a b → Overlap a' b'
overlap_there a b a' b' h k o = (o.0, running_same a a' o.0 h ∙ o.1, running_same b b' o.0 k ∙ o.2)

overlap_here : (a b a' b' : Row) → IsSameBooking a a' → IsSameBooking b b' → Overlap a' b' → Overlap a b
overlap_here a b a' b' h k o = (o.0, sym (running_same a a' o.0 h) ∙ o.1, sym (running_same b b' o.0 k) ∙ o.2)

-- what is marked has a channel
pub marked : (rows : List Row) (channels accepted : List Bool) (assigned : List (Option ℕ)) (i : ℕ) (b : Bool) → IsFirstFit rows channels accepted assigned → is_in accepted i ≡ b → i < length rows → is_accepted assigned i ≡ b
marked rows channels accepted assigned i true fit e lt = ap is_some (fit.given i lt e).1
marked rows channels accepted assigned i false fit e lt = ap is_some (fit.refused i e)

-- two colourings of rows of which the first are the same
pub record AreBoth (m : ℕ) (rows rows' : List Row) (channels accepted accepted' : List Bool) (assigned assigned' : List (Option ℕ)) : Type 0 where
  pub first : IsFirstFit rows channels accepted assigned
  pub second : IsFirstFit rows' channels accepted' assigned'
  pub longer : length rows ≤ length rows'
  pub same : (i : ℕ) → i < length rows → IsSameBooking (row_at rows i) (row_at rows' i)
  pub marks : (i : ℕ) → i < length rows → (row_at rows i).start < m → is_in accepted' i ≡ is_in accepted i
  pub later : (i : ℕ) → length rows ≤ i → i < length rows' → m ≤ (row_at rows' i).start

module _ (m : ℕ) (rows rows' : List Row) (channels accepted accepted' : List Bool) (assigned assigned' : List (Option ℕ)) (h : AreBoth m rows rows' channels accepted accepted' assigned assigned') where
  abbrev Agrees : ℕ → Type 0
  Agrees i = channel_of assigned' i ≡ channel_of assigned i

  earlier_there : (i j : ℕ) → i < length rows → j < length rows → IsEarlier rows j i → IsEarlier rows' j i
  earlier_there i j li lj e =
      let si : (row_at rows' i).start ≡ (row_at rows i).start = (h.same i li).start in
      let sj : (row_at rows' j).start ≡ (row_at rows j).start = (h.same j lj).start in
      elim e [ inl less ↦ inl (omega (arith, less, si, sj)) | inr tie ↦ inr (omega (arith, tie.0, si, sj), tie.1) ]

  earlier_here : (i j : ℕ) → i < length rows → j < length rows → IsEarlier rows' j i → IsEarlier rows j i
  earlier_here i j li lj e =
      let si : (row_at rows' i).start ≡ (row_at rows i).start = (h.same i li).start in
      let sj : (row_at rows' j).start ≡ (row_at rows j).start = (h.same j lj).start in
      elim e [ inl less ↦ inl (omega (arith, less, si, sj)) | inr tie ↦ inr (omega (arith, tie.0, si, sj), tie.1) ]

  -- a row that stands before one that starts before m is none of the new ones
  old_row : (i j : ℕ) → i < length rows → (row_at rows i).start < m → j < length rows' → IsEarlier rows' j i → j < length rows
  old_row i j li early lj e = elim (cases_lt j (length rows)) [
    | inl inside ↦ inside
    | inr new ↦ absurd (
        let after : m ≤ (row_at rows' j).start = h.later j new lj in
        let si : (row_at rows' i).start ≡ (row_at rows i).start = (h.same i li).start in
        elim e [ inl less ↦ omega (arith, less, after, si, early) | inr tie ↦ omega (arith, tie.0, after, si, early) ])
  ]

  taken_there : (i c : ℕ) → i < length rows → ((j : ℕ) → j < length rows → IsEarlier rows j i → Agrees j) → IsChannelTaken rows assigned i c → IsChannelTaken rows' assigned' i c
  taken_there i c li before t = (t.0, omega (arith, t.1, h.longer), earlier_there i t.0 li t.1 t.2, overlap_there (row_at rows t.0) (row_at rows i) (row_at rows' t.0) (row_at rows' i) (h.same t.0 t.1) (h.same i li) t.3, before t.0 t.1 t.2 ∙ t.4)

  taken_here : (i c : ℕ) → i < length rows → (row_at rows i).start < m → ((j : ℕ) → j < length rows → IsEarlier rows j i → Agrees j) → IsChannelTaken rows' assigned' i c → IsChannelTaken rows assigned i c
  taken_here i c li early before t =
      let lj = old_row i t.0 li early t.1 t.2 in
      let e = earlier_here i t.0 li lj t.2 in
      (t.0, lj, e, overlap_here (row_at rows t.0) (row_at rows i) (row_at rows' t.0) (row_at rows' i) (h.same t.0 lj) (h.same i li) t.3, sym (before t.0 lj e) ∙ t.4)

  one_lowest : (i c c' : ℕ) → i < length rows → (row_at rows i).start < m → ((j : ℕ) → j < length rows → IsEarlier rows j i → Agrees j) → IsLowestFree rows channels assigned i c → IsLowestFree rows' channels assigned' i c' → c' ≡ c
  one_lowest i c c' li early before low low' = elim (cases_lt c c') [
    | inl less ↦ absurd (low.free (taken_here i c li early before (low'.lowest c less low.in_service)))
    | inr le ↦ elim (cases_lt c' c) [
      | inl less ↦ absurd (low'.free (taken_there i c' li before (low.lowest c' less low'.in_service)))
      | inr ge ↦ omega (arith, le, ge)
    ]
  ]

  row_by_mark : (b : Bool) (i : ℕ) → is_in accepted i ≡ b → i < length rows → (row_at rows i).start < m → ((j : ℕ) → j < length rows → IsEarlier rows j i → Agrees j) → Agrees i
  row_by_mark true i mark li early before =
      let g = h.first.given i li mark in
      let g' = h.second.given i (omega (arith, li, h.longer)) (h.marks i li early ∙ mark) in
      g'.1 ∙ ap Some (one_lowest i g.0 g'.0 li early before g.2 g'.2) ∙ sym g.1
  row_by_mark false i mark li early before = h.second.refused i (h.marks i li early ∙ mark) ∙ sym (h.first.refused i mark)

  -- along the order: by starts, and at one start by rows
  at_one_start : (s n i : ℕ) → ((j : ℕ) → j < length rows → (row_at rows j).start < m → (row_at rows j).start < s → Agrees j) → i < length rows → (row_at rows i).start < m → (row_at rows i).start ≡ s → i < n → Agrees i
  at_one_start s zero i sooner li early at less = absurd (omega (arith, less))
  at_one_start s (suc n) i sooner li early at less = elim (cases_lt i n) [
    | inl lower ↦ at_one_start s n i sooner li early at lower
    | inr last ↦ row_by_mark (is_in accepted i) i refl li early (λ j lj e. elim e [
      | inl starts ↦ sooner j lj (omega (arith, starts, early)) (omega (arith, starts, at))
      | inr tie ↦ at_one_start s n j sooner lj (omega (arith, tie.0, early)) (omega (arith, tie.0, at)) (omega (arith, tie.1, last, less))
    ])
  ]

  by_starts : (s i : ℕ) → i < length rows → (row_at rows i).start < m → (row_at rows i).start < s → Agrees i
  by_starts zero i li early less = absurd (omega (arith, less))
  by_starts (suc s) i li early less = elim (cases_lt (row_at rows i).start s) [
    | inl sooner ↦ by_starts s i li early sooner
    | inr last ↦ at_one_start s (length rows) i (by_starts s) li early (omega (arith, last, less)) li
  ]

  pub channels_stay : (i : ℕ) → i < length rows → (row_at rows i).start < m → channel_of assigned' i ≡ channel_of assigned i
  channels_stay i li early = by_starts m i li early early

  pub extends : ((i : ℕ) → i < length rows → is_in accepted' i ≡ is_in accepted i) → Extends m rows assigned rows' assigned'
  extends marks = record {
    longer = h.longer;
    same = h.same;
    accepted = λ i lt. marked rows' channels accepted' assigned' i (is_in accepted i) h.second (marks i lt) (omega (arith, lt, h.longer)) ∙ sym (marked rows channels accepted assigned i (is_in accepted i) h.first refl lt);
    channels = channels_stay;
    later = h.later;
  }
