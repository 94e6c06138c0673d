-- What a swept list of rows says of the colouring.
use Rattle.std.proofs.Common.{◌≡◌, ℕ, ◌<◌, Bool, true, false, List, length, get_or, replicate, Option, Some, None, is_some, unwrap_or, refl, sym, ◌∙◌, ap, subst, arith, inl, inr}
use Rattle.std.proofs.lemmas.Bool.{cases_lt, and_from, le-leb, lt-ltb}
use Rattle.std.proofs.lemmas.List.{get_or_past, get_or-replicate, length-replicate}
use Rattle.bx_base.specs.Channels.{has_channel}
use Rattle.bx_base.specs.Bookings.{Row, row_at, AreBookings, Overlap, is_running, Carries}
use Rattle.bx_base.specs.Plans.{is_accepted, channel_at}
use Rattle.bx_colour.specs.Colouring.{is_in, IsEarlier, channel_of, IsLowestFree, IsGiven, IsFirstFit, FitsChannels}
use Rattle.bx_base.specs.Orders.{index_in as row_in}
use Rattle.bx_colour.specs.Orders.{IsOrder}
use Rattle.bx_colour.proofs.Sweeping.{IsSwept, has_one, running_on, no_channel_yet}
use Rattle.bx_colour.proofs.Counting.{one_too_many}

-- nothing is given at first
nothing_in : (n i : ℕ) → channel_of (replicate n None) i ≡ None
nothing_in n i = elim (cases_lt i n) [ inl h ↦ get_or-replicate n i None None h | inr h ↦ get_or_past (replicate n None) i None (omega (arith, length-replicate {A = Option ℕ} n None)) ]

nothing_until : (c : ℕ) → ◌≡◌ {A = ℕ} (get_or (replicate 32 0) c 0) 0
nothing_until c = elim (cases_lt c 32) [ inl h ↦ get_or-replicate 32 c 0 0 h | inr h ↦ get_or_past (replicate 32 0) c 0 h ]

pub swept_none : (rows : List Row) (channels : List Bool) (order : List (ℕ × ℕ)) → IsSwept rows channels order 0 (replicate (length rows) None) (replicate 32 0)
swept_none rows channels order =
    record {
      one_each = length-replicate {A = Option ℕ} (length rows) None;
      slots = refl;
      done = λ m h. absurd (omega arith);
      only = λ j c e. (let none = nothing_in (length rows) j in cc);
      ends = λ j c e. (let none = nothing_in (length rows) j in cc);
      held = λ c h. absurd (omega (arith, h, nothing_until c));
    }

-- a channel is free for the next row
pub some_free : (rows : List Row) (channels accepted : List Bool) (order : List (ℕ × ℕ)) → AreBookings rows → (is_order : IsOrder rows accepted order) (k : ℕ) (here : k < length order) (assigned : List (Option ℕ)) (until : List ℕ) → (swept : IsSwept rows channels order k assigned until) → FitsChannels rows accepted channels → ((n : ℕ) → has_channel channels n ≡ true → (row_at rows (row_in order k)).start < get_or until n 0) → ⊥
some_free rows channels accepted order bookings is_order k here assigned until swept fits full =
    let next = row_in order k in
    let entry = is_order.each k here in
    let moment = (row_at rows next).start in
    let on_each = λ (n : ℕ) (h : has_channel channels n ≡ true). running_on rows channels accepted order bookings is_order k here assigned until swept n (full n h) in
    let only : (j c : ℕ) → channel_of assigned j ≡ Some c → (j < length rows) × (is_in accepted j ≡ true) = λ j c e.
    (let m = swept.only j c e in
    let in_order : m.0 < length order = omega (arith, m.1) in
    (omega (arith, has_one assigned j c e, swept.one_each), subst (λ i. is_in accepted i ≡ true) m.2 (is_order.each m.0 in_order).passes)) in
    let run = and_from (is_in accepted next) (is_running (row_at rows next) moment) entry.passes (and_from _ _ (le-leb moment moment (omega arith)) (lt-ltb moment (row_at rows next).end (bookings.each next entry.within).in_order)) in
    let many = one_too_many rows channels accepted (channel_of assigned) moment on_each only next entry.within (no_channel_yet rows channels accepted order bookings is_order k here assigned until swept) run in
    omega (arith, many, fits.enough moment)

module _ (rows : List Row) (channels accepted : List Bool) (order : List (ℕ × ℕ)) (is_order : IsOrder rows accepted order) (assigned : List (Option ℕ)) (until : List ℕ) (swept : IsSwept rows channels order (length order) assigned until) where
  given_all : (i : ℕ) → i < length rows → is_in accepted i ≡ true → IsGiven rows channels assigned i
  given_all i h a = let m = is_order.all i h a in subst (IsGiven rows channels assigned) m.2 (swept.done m.0 m.1)

  none_given : (i : ℕ) (o : Option ℕ) → channel_of assigned i ≡ o → is_in accepted i ≡ false → channel_of assigned i ≡ None
  none_given i None e f = e
  none_given i (Some c) e f =
      let m = swept.only i c e in
      let t = subst (λ j. is_in accepted j ≡ true) m.2 (is_order.each m.0 m.1).passes in
      cc

  pub first_fit : IsFirstFit rows channels accepted assigned
  first_fit = record { one_each = swept.one_each; given = given_all; refused = λ i f. none_given i (channel_of assigned i) refl f }

module _ (rows : List Row) (channels accepted : List Bool) (assigned : List (Option ℕ)) (one_each : length accepted ≡ length rows) (fit : IsFirstFit rows channels accepted assigned) where
  within : (i : ℕ) → is_in accepted i ≡ true → i < length rows
  within i e = elim (cases_lt i (length accepted)) [ inl h ↦ omega (arith, one_each) | inr h ↦ (let past = get_or_past accepted i false h in cc) ]

  accepted_as : (i : ℕ) (b : Bool) → is_in accepted i ≡ b → is_accepted assigned i ≡ b
  accepted_as i true e = let g = fit.given i (within i e) e in ap is_some g.1
  accepted_as i false e = ap is_some (fit.refused i e)

  pub accepts_same : (i : ℕ) → is_accepted assigned i ≡ is_in accepted i
  accepts_same i = accepted_as i (is_in accepted i) refl

  given_to : (i : ℕ) → is_accepted assigned i ≡ true → IsGiven rows channels assigned i
  given_to i a = let t = sym (accepts_same i) ∙ a in fit.given i (within i t) t

  channel_is : (i c : ℕ) → channel_of assigned i ≡ Some c → channel_at assigned i ≡ c
  channel_is i c e = ap (λ (o : Option ℕ). unwrap_or o 0) e

  -- two rows that overlap, one before the other, have different channels
  differ : (i j : ℕ) → j < length rows → IsEarlier rows j i → Overlap (row_at rows j) (row_at rows i) → (ci cj : ℕ) → channel_of assigned j ≡ Some cj → IsLowestFree rows channels assigned i ci → ci ≡ cj → ⊥
  differ i j h earlier overlap ci cj has low e = low.free (j, h, earlier, overlap, has ∙ ap Some (sym e))

  pub carries : Carries rows channels (is_accepted assigned) (channel_at assigned)
  carries =
      record {
        in_service = λ i h a. (let g = given_to i a in rw (channel_is i g.0 g.1) g.2.in_service);
        apart = λ i j lt h a b overlap e.
            let gi = given_to i a in
            let gj = given_to j b in
            let same : gi.0 ≡ gj.0 = sym (channel_is i gi.0 gi.1) ∙ (e ∙ channel_is j gj.0 gj.1) in
            elim (cases_lt (row_at rows j).start (row_at rows i).start) [
              | inl later ↦ differ i j h (inl later) (overlap.0, overlap.2, overlap.1) gi.0 gj.0 gj.1 gi.2 same
              | inr sooner ↦ differ j i (omega arith) (elim (cases_lt (row_at rows i).start (row_at rows j).start) [ inl s ↦ inl s | inr s ↦ inr (omega (arith, sooner, s), lt) ]) overlap gj.0 gi.0 gi.1 gj.2 (sym same)
            ];
      }
