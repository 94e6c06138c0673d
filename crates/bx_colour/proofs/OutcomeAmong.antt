-- What a swept list of rows says of the colouring, where each row has channels of its own to choose from.
use Rattle.std.proofs.Common.{◌≡◌, ◌≢◌, ℕ, zero, suc, ◌<◌, ◌≤◌, Bool, true, false, List, length, get_or, replicate, Option, Some, None, is_some, unwrap_or, refl, sym, ◌∙◌, ap, subst, arith, inl, inr}
use Rattle.std.proofs.lemmas.Bool.{cases_lt}
use Rattle.std.proofs.lemmas.List.{get_or_past, get_or-replicate, length-replicate}
use Rattle.bx_base.specs.Bookings.{Row, row_at, AreBookings, Overlap, Carries}
use Rattle.bx_base.specs.Plans.{is_accepted, channel_at}
use Rattle.bx_base.specs.Channels.{has_channel}
use Rattle.bx_base.specs.Orders.{index_in as row_in}
use Rattle.bx_colour.specs.ChangedRows.{IsFirstFitAmong}
use Rattle.bx_colour.specs.Colouring.{is_in, IsEarlier, channel_of, IsChannelTaken, IsLowestFree, IsGiven}
use Rattle.bx_colour.specs.Orders.{IsOrder}
use Rattle.bx_colour.proofs.FirstFitChanged.{coloured}
use Rattle.bx_colour.proofs.Sweeping.{not_both_before}
use Rattle.bx_colour.proofs.SweepingAmong.{IsSweptAmong, taken_from_until}

-- nothing is given at first
nothing_in : (n i : ℕ) → channel_of (replicate n None) i ≡ None
nothing_in n i = elim (cases_lt i n) [ inl h ↦ get_or-replicate n i None None h | inr h ↦ get_or_past (replicate n None) i None (omega (arith, length-replicate {A = Option ℕ} n None)) ]

nothing_until : (c : ℕ) → ◌≡◌ {A = ℕ} (get_or (replicate 32 0) c 0) 0
nothing_until c = elim (cases_lt c 32) [ inl h ↦ get_or-replicate 32 c 0 0 h | inr h ↦ get_or_past (replicate 32 0) c 0 h ]

pub swept_none : (rows : List Row) (allowed : ℕ → List Bool) (order : List (ℕ × ℕ)) → IsSweptAmong rows allowed order 0 (replicate (length rows) None) (replicate 32 0)
swept_none rows allowed order =
    record {
      one_each = length-replicate {A = Option ℕ} (length rows) None;
      slots = refl;
      done = λ m h. absurd (omega arith);
      only = λ j c e. (let none = nothing_in (length rows) j in cc);
      ends = λ j c e. (let none = nothing_in (length rows) j in cc);
      held = λ c h. absurd (omega (arith, h, nothing_until c));
    }

module _ (rows : List Row) (allowed : ℕ → List Bool) (accepted : List Bool) (order : List (ℕ × ℕ)) (is_order : IsOrder rows accepted order) (assigned : List (Option ℕ)) (until : List ℕ) (swept : IsSweptAmong rows allowed order (length order) assigned until) where
  given_all : (i : ℕ) → i < length rows → is_in accepted i ≡ true → IsGiven rows (allowed i) assigned i
  given_all i h a = let m = is_order.all i h a in subst (λ j. IsGiven rows (allowed j) assigned j) m.2 (swept.done m.0 m.1)

  none_given : (i : ℕ) (o : Option ℕ) → channel_of assigned i ≡ o → is_in accepted i ≡ false → channel_of assigned i ≡ None
  none_given i None e f = e
  none_given i (Some c) e f =
      let m = swept.only i c e in
      let t = subst (λ j. is_in accepted j ≡ true) m.2 (is_order.each m.0 m.1).passes in
      cc

  pub first_fit : IsFirstFitAmong rows allowed accepted assigned
  first_fit = record { one_each = swept.one_each; given = given_all; refused = λ i f. none_given i (channel_of assigned i) refl f }

-- where a row finds none of its channels free, there is no such colouring: any would give the rows before it the same channels
module _ (rows : List Row) (allowed : ℕ → List Bool) (accepted : List Bool) (order : List (ℕ × ℕ)) (bookings : AreBookings rows) (is_order : IsOrder rows accepted order) (k : ℕ) (here : k < length order) (assigned : List (Option ℕ)) (until : List ℕ) (swept : IsSweptAmong rows allowed order k assigned until) (other : List (Option ℕ)) (fit : IsFirstFitAmong rows allowed accepted other) where
  abbrev Same : ℕ → Type 0
  Same m = channel_of other (row_in order m) ≡ channel_of assigned (row_in order m)

  -- a row that has a channel of either stands at a place of the order before those that it is earlier than
  place_of : (i j : ℕ) → i < length order → j < length rows → is_in accepted j ≡ true → IsEarlier rows j (row_in order i) → (m : ℕ) × (m < i) × (row_in order m ≡ j)
  place_of i j at lj marked e =
      let p = is_order.all j lj marked in
      elim (cases_lt p.0 i) [
        | inl less ↦ (p.0, less, p.2)
        | inr past ↦ absurd (late p.0 i at past p.1 (subst (λ r. IsEarlier rows r (row_in order i)) (sym p.2) e))
      ]
    where
      late : (a b : ℕ) → b < length order → b ≤ a → a < length order → IsEarlier rows (row_in order a) (row_in order b) → ⊥
      late a b at le inside e = elim (cases_lt b a) [
        | inl less ↦ not_both_before rows (row_in order a) (row_in order b) e (is_order.rising b a less inside)
        | inr same ↦ (let q : a ≡ b = omega (arith, le, same) in not_itself (subst (λ n. IsEarlier rows (row_in order n) (row_in order b)) q e))
      ]
        where
          not_itself : IsEarlier rows (row_in order b) (row_in order b) → ⊥
          not_itself e = not_both_before rows (row_in order b) (row_in order b) e e

  swept_marked : (j c : ℕ) → channel_of assigned j ≡ Some c → is_in accepted j ≡ true
  swept_marked j c e = let m = swept.only j c e in subst (λ r. is_in accepted r ≡ true) m.2 (is_order.each m.0 (omega (arith, m.1, here))).passes

  taken_there : (i c : ℕ) → i < length order → ((m : ℕ) → m < i → Same m) → IsChannelTaken rows assigned (row_in order i) c → IsChannelTaken rows other (row_in order i) c
  taken_there i c at before t =
      let p = place_of i t.0 at t.1 (swept_marked t.0 c t.4) t.2 in
      (t.0, t.1, t.2, t.3, subst (λ r. channel_of other r ≡ channel_of assigned r) p.2 (before p.0 p.1) ∙ t.4)

  taken_here : (i c : ℕ) → i < length order → ((m : ℕ) → m < i → Same m) → IsChannelTaken rows other (row_in order i) c → IsChannelTaken rows assigned (row_in order i) c
  taken_here i c at before t =
      let p = place_of i t.0 at t.1 (coloured rows allowed accepted other t.0 c (is_in accepted t.0) refl fit t.4) t.2 in
      (t.0, t.1, t.2, t.3, sym (subst (λ r. channel_of other r ≡ channel_of assigned r) p.2 (before p.0 p.1)) ∙ t.4)

  given_other : (i : ℕ) → i < length order → IsGiven rows (allowed (row_in order i)) other (row_in order i)
  given_other i at = fit.given (row_in order i) (is_order.each i at).within (is_order.each i at).passes

  one_lowest : (i c c' : ℕ) → i < length order → ((m : ℕ) → m < i → Same m) → IsLowestFree rows (allowed (row_in order i)) assigned (row_in order i) c → IsLowestFree rows (allowed (row_in order i)) other (row_in order i) c' → c' ≡ c
  one_lowest i c c' at before low low' = elim (cases_lt c c') [
    | inl less ↦ absurd (low.free (taken_here i c at before (low'.lowest c less low.in_service)))
    | inr le ↦ elim (cases_lt c' c) [
      | inl less ↦ absurd (low'.free (taken_there i c' at before (low.lowest c' less low'.in_service)))
      | inr ge ↦ omega (arith, le, ge)
    ]
  ]

  all_same : (n i : ℕ) → i < n → i < k → Same i
  all_same zero i less lt = absurd (omega (arith, less))
  all_same (suc n) i less lt =
      let at : i < length order = omega (arith, lt, here) in
      let before : (m : ℕ) → m < i → Same m = λ m lm. all_same n m (omega (arith, lm, less)) (omega (arith, lm, lt)) in
      let g = swept.done i lt in
      let g' = given_other i at in
      g'.1 ∙ ap Some (one_lowest i g.0 g'.0 at before g.2 g'.2) ∙ sym g.1

  pub no_colouring : ((n : ℕ) → has_channel (allowed (row_in order k)) n ≡ true → (row_at rows (row_in order k)).start < get_or until n 0) → ⊥
  no_colouring full =
      let g' = given_other k here in
      let low = g'.2 in
      low.free (taken_there k g'.0 here (λ m lt. all_same (suc m) m (omega arith) lt) (taken_from_until rows allowed accepted order bookings is_order k here assigned until swept g'.0 (full g'.0 low.in_service)))

-- what such a colouring carries
module _ (rows : List Row) (allowed : ℕ → List Bool) (accepted : List Bool) (assigned : List (Option ℕ)) (one_each : length accepted ≡ length rows) (fit : IsFirstFitAmong rows allowed accepted assigned) where
  within : (i : ℕ) → is_in accepted i ≡ true → i < length rows
  within i e = elim (cases_lt i (length accepted)) [ inl h ↦ omega (arith, one_each) | inr h ↦ (let past = get_or_past accepted i false h in cc) ]

  accepted_as : (i : ℕ) (b : Bool) → is_in accepted i ≡ b → is_accepted assigned i ≡ b
  accepted_as i true e = let g = fit.given i (within i e) e in ap is_some g.1
  accepted_as i false e = ap is_some (fit.refused i e)

  pub accepts_same : (i : ℕ) → is_accepted assigned i ≡ is_in accepted i
  accepts_same i = accepted_as i (is_in accepted i) refl

  pub given_to : (i : ℕ) → is_accepted assigned i ≡ true → IsGiven rows (allowed i) assigned i
  given_to i a = let t = sym (accepts_same i) ∙ a in fit.given i (within i t) t

  pub channel_is : (i c : ℕ) → channel_of assigned i ≡ Some c → channel_at assigned i ≡ c
  channel_is i c e = ap (λ (o : Option ℕ). unwrap_or o 0) e

  -- two rows that overlap, one before the other, have different channels
  differ : (i j : ℕ) → j < length rows → IsEarlier rows j i → Overlap (row_at rows j) (row_at rows i) → (ci cj : ℕ) → channel_of assigned j ≡ Some cj → IsLowestFree rows (allowed i) assigned i ci → ci ≡ cj → ⊥
  differ i j h earlier overlap ci cj has low e = low.free (j, h, earlier, overlap, has ∙ ap Some (sym e))

  pub kept_apart : (i j : ℕ) → i < j → j < length rows → is_accepted assigned i ≡ true → is_accepted assigned j ≡ true → Overlap (row_at rows i) (row_at rows j) → channel_at assigned i ≢ channel_at assigned j
  kept_apart i j lt h a b overlap e =
      let gi = given_to i a in
      let gj = given_to j b in
      let same : gi.0 ≡ gj.0 = sym (channel_is i gi.0 gi.1) ∙ (e ∙ channel_is j gj.0 gj.1) in
      elim (cases_lt (row_at rows j).start (row_at rows i).start) [
        | inl later ↦ differ i j h (inl later) (overlap.0, overlap.2, overlap.1) gi.0 gj.0 gj.1 gi.2 same
        | inr sooner ↦ differ j i (omega arith) (elim (cases_lt (row_at rows i).start (row_at rows j).start) [ inl s ↦ inl s | inr s ↦ inr (omega (arith, sooner, s), lt) ]) overlap gj.0 gi.0 gi.1 gj.2 (sym same)
      ]

  pub carries : (service : List Bool) → ((i c : ℕ) → has_channel (allowed i) c ≡ true → has_channel service c ≡ true) → Carries rows service (is_accepted assigned) (channel_at assigned)
  carries service inside =
      record {
        in_service = λ i h a. (let g = given_to i a in rw (channel_is i g.0 g.1) (inside i g.0 g.2.in_service));
        apart = kept_apart;
      }
