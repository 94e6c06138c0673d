-- Where what counts on channels fits on them there is a colouring beside what has begun: the sweep that `colour_beside` does, as a value.
use Rattle.std.proofs.Common.{◌≡◌, ℕ, zero, suc, ◌+◌, ◌<◌, ◌≤◌, Bool, true, false, List, [], ◌∷◌, ◌++◌, length, get_or, replicate, set, slice_set, slice_index_or, Option, Some, None, arith, refl, sym, subst, ap, ◌∙◌, ◌⊎◌, inl, inr, get_or-set_same, length-set}
use Rattle.std.proofs.lemmas.Bool.{cases_lt, cases_eq, false≢true}
use Rattle.std.proofs.lemmas.List.{get_or_append_left, get_or_past, get_or_push, length_push, length-replicate}
use Rattle.bx_base.specs.Bookings.{Row, row_at, AreBookings}
use Rattle.bx_base.specs.Channels.{has_channel, IsChannelSet}
use Rattle.bx_base.specs.Orders.{no_place, index_in, IsPlace, ComesFirst}
use Rattle.bx_base.specs.Sums.{sum_below}
use Rattle.bx_base.proofs.SumLemmas.{sum_below-term}
use Rattle.bx_colour.specs.Beside.{marks_beside, AreBegunApart}
use Rattle.bx_colour.specs.ChangedRows.{IsFirstFitAmong, choice_of, choices_of}
use Rattle.bx_colour.specs.Colouring.{FitsChannels, is_in}
use Rattle.bx_colour.specs.Orders.{IsAccepted, row_start_of, IsOrder}
use Rattle.bx_colour.proofs.OutcomeAmong.{swept_none, first_fit}
use Rattle.bx_colour.proofs.RoomBeside.{too_many_run}
use Rattle.bx_colour.proofs.SweepingAmong.{IsSweptAmong, swept_step}
use Rattle.bx_day.proofs.Once.{decide}

-- ---- the marked bookings in the order of their starts

module _ (rows : List Row) (accepted : List Bool) where
  abbrev start_of : ℕ → ℕ
  start_of i = row_start_of rows i

  -- it starts before s, or at s with an index below n
  abbrev IsBefore : ℕ → ℕ → ℕ → Type 0
  IsBefore s n i = (start_of i < s) ⊎ ((start_of i ≡ s) × (i < n))

  abbrev IsRow : ℕ × ℕ → Type 0
  IsRow place = IsPlace (length rows) (IsAccepted accepted) (row_start_of rows) place

  record IsOrderTo (s n : ℕ) (order : List (ℕ × ℕ)) : Type 0 where
    pub each : (k : ℕ) → k < length order → IsRow (get_or order k no_place)
    pub before : (k : ℕ) → k < length order → IsBefore s n (index_in order k)
    pub all : (i : ℕ) → i < length rows → IsAccepted accepted i → IsBefore s n i → (k : ℕ) × (k < length order) × (index_in order k ≡ i)
    pub rising : (a b : ℕ) → a < b → b < length order → ComesFirst (row_start_of rows) (index_in order a) (index_in order b)

  order_none : IsOrderTo 0 0 []
  order_none = record {
    each = λ k h. absurd (omega (arith, h));
    before = λ k h. absurd (omega (arith, h));
    all = λ i h a b. absurd (elim b [ inl less ↦ omega (arith, less) | inr tie ↦ omega (arith, tie.1) ]);
    rising = λ a b l h. absurd (omega (arith, h));
  }

  one_on : (s n i : ℕ) → IsBefore s n i → IsBefore s (n + 1) i
  one_on s n i b = elim b [ inl less ↦ inl less | inr tie ↦ inr (tie.0, omega (arith, tie.1)) ]

  order_skip : (s n : ℕ) (order : List (ℕ × ℕ)) → (IsAccepted accepted n → start_of n ≡ s → ⊥) → IsOrderTo s n order → IsOrderTo s (n + 1) order
  order_skip s n order out o = record {
    each = o.each;
    before = λ k h. one_on s n (index_in order k) (o.before k h);
    all = λ i h a b. elim b [
      | inl less ↦ o.all i h a (inl less)
      | inr tie ↦ elim (cases_lt i n) [
        | inl lower ↦ o.all i h a (inr (tie.0, lower))
        | inr last ↦ absurd (let e : i ≡ n = omega (arith, last, tie.1) in out (subst (IsAccepted accepted) e a) (sym (ap start_of e) ∙ tie.0))
      ]
    ];
    rising = o.rising;
  }

  comes_first : (s n i : ℕ) → start_of n ≡ s → IsBefore s n i → ComesFirst (row_start_of rows) i n
  comes_first s n i at b = elim b [ inl less ↦ inl (omega (arith, less, at)) | inr tie ↦ inr (tie.0 ∙ sym at, tie.1) ]

  order_more : (s n : ℕ) (order : List (ℕ × ℕ)) → n < length rows → IsAccepted accepted n → start_of n ≡ s → IsOrderTo s n order → IsOrderTo s (n + 1) (order ++ (s, n) ∷ [])
  order_more s n order within taken at o =
      let entry : ℕ × ℕ = (s, n) in
      let longer = order ++ entry ∷ [] in
      let grown = length_push order entry in
      let old : (k : ℕ) → k < length order → get_or longer k no_place ≡ get_or order k no_place = λ k h. get_or_append_left order (entry ∷ []) no_place k h in
      let new : (k : ℕ) → k ≡ length order → get_or longer k no_place ≡ entry = λ k e. get_or_push order entry no_place k (sym e) in
      let old_index : (k : ℕ) → k < length order → index_in longer k ≡ index_in order k = λ k h. ap (λ (p : ℕ × ℕ). p.1) (old k h) in
      let new_index : (k : ℕ) → k ≡ length order → index_in longer k ≡ n = λ k e. ap (λ (p : ℕ × ℕ). p.1) (new k e) in
      let last : IsRow entry = record { within = within; passes = taken; start = sym at } in
      record {
        each = λ k h. elim (cases_lt k (length order)) [
          | inl a ↦ subst IsRow (sym (old k a)) (o.each k a)
          | inr a ↦ subst IsRow (sym (new k (omega (arith, a, h, grown)))) last
        ];
        before = λ k h. elim (cases_lt k (length order)) [
          | inl a ↦ subst (IsBefore s (n + 1)) (sym (old_index k a)) (one_on s n (index_in order k) (o.before k a))
          | inr a ↦ subst (IsBefore s (n + 1)) (sym (new_index k (omega (arith, a, h, grown)))) (inr (at, omega arith))
        ];
        all = λ i h t b. elim b [
          | inl less ↦ (let f = o.all i h t (inl less) in (f.0, omega (arith, f.1, grown), old_index f.0 f.1 ∙ f.2))
          | inr tie ↦ elim (cases_lt i n) [
            | inl lower ↦ (let f = o.all i h t (inr (tie.0, lower)) in (f.0, omega (arith, f.1, grown), old_index f.0 f.1 ∙ f.2))
            | inr top ↦ (length order, omega (arith, grown), new_index (length order) refl ∙ (let e : n ≡ i = omega (arith, top, tie.1) in e))
          ]
        ];
        rising = λ a b lt h.
            let within_a : a < length order = omega (arith, lt, h, grown) in
            elim (cases_lt b (length order)) [
              | inl c ↦ subst (λ x. ComesFirst (row_start_of rows) x (index_in longer b)) (sym (old_index a within_a)) (subst (ComesFirst (row_start_of rows) (index_in order a)) (sym (old_index b c)) (o.rising a b lt c))
              | inr c ↦ subst (λ x. ComesFirst (row_start_of rows) x (index_in longer b)) (sym (old_index a within_a)) (subst (ComesFirst (row_start_of rows) (index_in order a)) (sym (new_index b (omega (arith, c, h, grown)))) (comes_first s n (index_in order a) at (o.before a within_a)))
            ];
      }

  order_next : (s : ℕ) (order : List (ℕ × ℕ)) → IsOrderTo s (length rows) order → IsOrderTo (s + 1) 0 order
  order_next s order o = record {
    each = o.each;
    before = λ k h. inl (elim (o.before k h) [ inl less ↦ omega (arith, less) | inr tie ↦ omega (arith, tie.0) ]);
    all = λ i h a b. elim (cases_lt (start_of i) s) [
      | inl less ↦ o.all i h a (inl less)
      | inr top ↦ o.all i h a (inr (elim b [ inl less ↦ omega (arith, less, top) | inr tie ↦ absurd (omega (arith, tie.1)) ], h))
    ];
    rising = o.rising;
  }

  abbrev OrderTo : ℕ → ℕ → Type 0
  OrderTo s n = (order : List (ℕ × ℕ)) × IsOrderTo s n order

  at_start : (s n : ℕ) → n ≤ length rows → OrderTo s 0 → OrderTo s n
  at_start s zero le first = first
  at_start s (suc n) le first =
      let before = at_start s n (omega (arith, le)) first in
      let same : n + 1 ≡ suc n = omega arith in
      subst (OrderTo s) same
      (decide (is_in accepted n)
      (λ yes. elim (cases_eq (start_of n) s) [
        | inl at ↦ (before.0 ++ (s, n) ∷ [], order_more s n before.0 (omega (arith, le)) yes at before.1)
        | inr other ↦ (before.0, order_skip s n before.0 (λ a e. other e) before.1)
      ])
      (λ no. (before.0, order_skip s n before.0 (λ a e. false≢true (sym no ∙ a)) before.1)))

  by_starts : (s : ℕ) → OrderTo s 0
  by_starts zero = ([], order_none)
  by_starts (suc s) =
      let here = at_start s (length rows) (omega arith) (by_starts s) in
      let same : s + 1 ≡ suc s = omega arith in
      subst (λ n. OrderTo n 0) same (here.0, order_next s here.0 here.1)

  abbrev last_start : ℕ
  last_start = sum_below (length rows) (row_start_of rows)

  some_order : (order : List (ℕ × ℕ)) × IsOrder rows accepted order
  some_order =
      let o = by_starts (last_start + 1) in (
        o.0,
        record {
          each = o.1.each;
          all = λ i h a. o.1.all i h a (inl (let most = sum_below-term (length rows) (row_start_of rows) i h in omega (arith, most)));
          rising = o.1.rising;
        },
      )

-- ---- the lowest channel that is free at a moment

module _ (channels : List Bool) (until : List ℕ) (moment : ℕ) where
  record IsFreeAt (c : ℕ) : Type 0 where
    pub in_service : has_channel channels c ≡ true
    pub free : get_or until c 0 ≤ moment
    pub lowest : (n : ℕ) → n < c → has_channel channels n ≡ true → moment < get_or until n 0

  abbrev AreTakenBelow : ℕ → Type 0
  AreTakenBelow k = (n : ℕ) → n < k → has_channel channels n ≡ true → moment < get_or until n 0

  taken_more : (k : ℕ) → AreTakenBelow k → (has_channel channels k ≡ true → moment < get_or until k 0) → AreTakenBelow (suc k)
  taken_more k below here n lt has = elim (cases_lt n k) [
    | inl lower ↦ below n lower has
    | inr top ↦ (let e : k ≡ n = omega (arith, top, lt) in subst (λ m. has_channel channels m ≡ true → moment < get_or until m 0) e here has)
  ]

  lowest_below : (k : ℕ) → ((c : ℕ) × IsFreeAt c) ⊎ AreTakenBelow k
  lowest_below zero = inr (λ n lt. absurd (omega (arith, lt)))
  lowest_below (suc k) = elim (lowest_below k) [
    | inl found ↦ inl found
    | inr below ↦ decide (has_channel channels k)
        (λ yes. elim (cases_lt moment (get_or until k 0)) [
          | inl taken ↦ inr (taken_more k below (λ has. taken))
          | inr free ↦ inl (k, record { in_service = yes; free = free; lowest = below })
        ])
        (λ no. inr (taken_more k below (λ has. absurd (false≢true (sym no ∙ has)))))
  ]

-- ---- the sweep

-- a set of 32 has no channel beyond them
below_set : (cs : List Bool) (n : ℕ) → length cs ≡ 32 → has_channel cs n ≡ true → n < 32
below_set cs n size has = elim (cases_lt n 32) [ inl lt ↦ lt | inr past ↦ absurd (false≢true (sym (get_or_past cs n false (omega (arith, past, size))) ∙ has)) ]

alone_size : (c : ℕ) → length (slice_set (replicate 32 false) c true) ≡ 32
alone_size c = length-set (replicate 32 false) c true ∙ length-replicate 32 false

choice_size : (o : Option ℕ) (channels : List Bool) → length channels ≡ 32 → length (choice_of o channels) ≡ 32
choice_size None channels size = size
choice_size (Some c) channels size = alone_size c

module _ (t : ℕ) (rows : List Row) (own : List (Option ℕ)) (channels accepted : List Bool) (bookings : AreBookings rows) (channel_set : IsChannelSet channels) (numbers : (i c : ℕ) → slice_index_or own i None ≡ Some c → c < 32) (apart : AreBegunApart t rows own accepted) (fits : FitsChannels rows (marks_beside own channels accepted) channels) (order : List (ℕ × ℕ)) (is_order : IsOrder rows accepted order) where
  abbrev Swept : ℕ → Type 0
  Swept k = (assigned : List (Option ℕ)) × (until : List ℕ) × IsSweptAmong rows (choices_of own channels) order k assigned until

  size : (i : ℕ) → length (choices_of own channels i) ≡ 32
  size i = choice_size (slice_index_or own i None) channels channel_set.slots

  own_there : (i c : ℕ) → slice_index_or own i None ≡ Some c → has_channel (choices_of own channels i) c ≡ true
  own_there i c q =
      subst (λ (o : Option ℕ). has_channel (choice_of o channels) c ≡ true) (sym q)
      (get_or-set_same (replicate 32 false) c true false (let less = numbers i c q in let n = length-replicate 32 false in omega (arith, less, n)))

  one_swept : (k : ℕ) → k < length order → Swept k → Swept (k + 1)
  one_swept k here s =
      let i = index_in order k in
      let row = row_at rows i in
      elim (lowest_below (choices_of own channels i) s.1 row.start 32) [
        | inl found ↦ (
            let free = found.1 in (
              set s.0 i (Some found.0),
              set s.1 found.0 row.end,
              swept_step rows (choices_of own channels) accepted order bookings is_order k here s.0 s.1 s.2 found.0 found.0 row.start row.end refl refl refl free.in_service free.free free.lowest
                  (let less = below_set (choices_of own channels i) found.0 (size i) free.in_service in let slots = s.2.slots in omega (arith, less, slots)),
            ))
        | inr taken ↦ absurd (too_many_run rows own channels accepted order bookings is_order k here s.0 s.1 s.2 t apart (own_there i) (λ n has. taken n (below_set (choices_of own channels i) n (size i) has) has) fits)
      ]

  sweep : (k : ℕ) → k ≤ length order → Swept k
  sweep zero le = (replicate (length rows) None, replicate 32 0, swept_none rows (choices_of own channels) order)
  sweep (suc k) le = let same : k + 1 ≡ suc k = omega arith in subst Swept same (one_swept k (omega (arith, le)) (sweep k (omega (arith, le))))

  coloured : (assigned : List (Option ℕ)) × IsFirstFitAmong rows (choices_of own channels) accepted assigned
  coloured =
      let s = sweep (length order) (omega arith) in
      (s.0, first_fit rows (choices_of own channels) accepted order is_order s.0 s.1 s.2)

pub found_beside : (t : ℕ) (rows : List Row) (own : List (Option ℕ)) (channels accepted : List Bool) → AreBookings rows → IsChannelSet channels → ((i c : ℕ) → slice_index_or own i None ≡ Some c → c < 32) → AreBegunApart t rows own accepted → FitsChannels rows (marks_beside own channels accepted) channels → (assigned : List (Option ℕ)) × IsFirstFitAmong rows (choices_of own channels) accepted assigned
found_beside t rows own channels accepted bookings channel_set numbers apart fits =
    let o = some_order rows accepted in
    coloured t rows own channels accepted bookings channel_set numbers apart fits o.0 o.1
