-- What has begun has its first-fit channel, and so have the rows before it in the order: what was taken for it is taken still. What starts later
-- chooses among the same channels either way.
use Rattle.std.proofs.Common.{◌≡◌, ℕ, ◌<◌, ◌≤◌, Bool, true, false, List, length, get_or, replicate, Option, Some, None, arith, sym, ap, subst, ◌∙◌, inl, inr, get_or-set_other}
use Rattle.std.specs.Prelude.{slice_index_or}
use Rattle.std.proofs.lemmas.Bool.{cases_lt, cases_eq, true≢false}
use Rattle.std.proofs.lemmas.List.{get_or_past, get_or-replicate}
use Rattle.bx_base.specs.Bookings.{Row, row_at}
use Rattle.bx_base.specs.Channels.{has_channel}
use Rattle.bx_colour.specs.ChangedRows.{IsFirstFitAmong, AreSameUpTo, choice_of, choices_of}
use Rattle.bx_colour.specs.Colouring.{is_in, channel_of, IsLowestFree, IsGiven}
use Rattle.bx_colour.proofs.FirstFitChanged.{IsBegun, taken_after}

no_channels : (n : ℕ) → ◌≡◌ {A = Bool} (get_or (replicate 32 false) n false) false
no_channels n = elim (cases_lt n 32) [ inl h ↦ get_or-replicate 32 n false false h | inr h ↦ get_or_past (replicate 32 false) n false h ]

-- a row with a channel of its own has that one alone to choose from
pub own_alone : (channels : List Bool) (c n : ℕ) → has_channel (choice_of (Some c) channels) n ≡ true → n ≡ c
own_alone channels c n h = elim (cases_eq n c) [
  | inl same ↦ same
  | inr other ↦ absurd (true≢false (sym h ∙ get_or-set_other (replicate 32 false) c n true false other ∙ no_channels n))
]

module _ (t : ℕ) (left : List Bool) (own : List (Option ℕ)) (allowed allowed' : ℕ → List Bool) (rows : List Row) (accepted : List Bool) (assigned : List (Option ℕ)) (rows' : List Row) (accepted' : List Bool) (assigned' : List (Option ℕ)) (fit : IsFirstFitAmong rows allowed accepted assigned) (fit' : IsFirstFitAmong rows' (choices_of own left) accepted' assigned') (h : AreSameUpTo t rows accepted allowed rows' accepted' allowed')
    (keeps : (i : ℕ) → i < length rows → is_in accepted i ≡ true → (row_at rows i).start ≤ t → slice_index_or own i None ≡ channel_of assigned i)
    (later : (i : ℕ) → i < length rows' → is_in accepted' i ≡ true → t < (row_at rows' i).start → (slice_index_or own i None ≡ None) × (allowed' i ≡ left)) where
  abbrev Begun : ℕ → Type 0
  Begun i = IsBegun t rows accepted i

  -- what has a channel of its own has that
  own_given : (i c : ℕ) → i < length rows' → is_in accepted' i ≡ true → slice_index_or own i None ≡ Some c → (channel_of assigned' i ≡ Some c) × IsLowestFree rows' (choices_of own left i) assigned' i c
  own_given i c lt marked is =
      let g = fit'.given i lt marked in
      let choices : choices_of own left i ≡ choice_of (Some c) left = ap (λ (o : Option ℕ). choice_of o left) is in
      let same : g.0 ≡ c = own_alone left c g.0 (subst (λ (cs : List Bool). has_channel cs g.0 ≡ true) choices g.2.in_service) in
      (g.1 ∙ ap Some same, subst (λ n. IsLowestFree rows' (choices_of own left i) assigned' i n) same g.2)

  stays : (i : ℕ) → Begun i → channel_of assigned' i ≡ channel_of assigned i
  stays i b =
      let g = fit.given i b.inside b.marked in
      let is = keeps i b.inside b.marked b.start ∙ g.1 in
      (own_given i g.0 (omega (arith, b.inside, h.longer)) (h.begun i b.inside b.marked b.start).0 is).0 ∙ sym g.1

  begun_given : (i : ℕ) → i < length rows' → is_in accepted' i ≡ true → Begun i → IsGiven rows' (allowed' i) assigned' i
  begun_given i lt marked b =
      let g = fit.given i b.inside b.marked in
      let is = keeps i b.inside b.marked b.start ∙ g.1 in
      let new = own_given i g.0 lt marked is in
      let same = h.choices i b.inside b.marked b.start in (
        g.0,
        new.0,
        record {
          in_service = ap (λ (cs : List Bool). has_channel cs g.0) same ∙ g.2.in_service;
          free = new.1.free;
          lowest = λ n less has. taken_after t allowed allowed' rows accepted assigned rows' accepted' assigned' fit h i n b (λ j bj e. stays j bj) (g.2.lowest n less (ap (λ (cs : List Bool). has_channel cs n) (sym same) ∙ has));
        },
      )

  later_given : (i : ℕ) → i < length rows' → is_in accepted' i ≡ true → t < (row_at rows' i).start → IsGiven rows' (allowed' i) assigned' i
  later_given i lt marked past =
      let p = later i lt marked past in
      let choices : choices_of own left i ≡ left = ap (λ (o : Option ℕ). choice_of o left) p.0 in
      subst (λ (cs : List Bool). IsGiven rows' cs assigned' i) (choices ∙ sym p.1) (fit'.given i lt marked)

  pub first_fit_beside : IsFirstFitAmong rows' allowed' accepted' assigned'
  first_fit_beside = record {
    one_each = fit'.one_each;
    given = λ i lt marked. elim (cases_lt t (row_at rows' i).start) [
      | inl past ↦ later_given i lt marked past
      | inr by ↦ (let b = h.no_other i lt marked by in begun_given i lt marked (record { inside = b.0; marked = b.1; start = b.2 }))
    ];
    refused = fit'.refused;
  }
