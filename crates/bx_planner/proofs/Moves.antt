-- One unit more, moved from the first second of the day towards the last: on over seconds at which one more channel may be
-- idle, back over those at which a channel is idle, and along loose rows, from the start of one that is not in the set to its
-- end, and from the end of one that is in the set to its start. Each move changes the set. Where no move leads to a new place,
-- the places that were seen are closed. A move changes only what touches the place that it leads to, so what touches a place
-- that was not seen is as it was at first: no walk is named, and none has to be simple.
use Rattle.std.proofs.Common.{zero, suc, ◌≡◌, ◌≢◌, ℕ, ◌+◌, ◌-◌, ◌<◌, ◌≤◌, Bool, true, false, cond, ◌&&◌, ltb, leb, List, length, refl, sym, ◌∙◌, ap, subst, arith, ◌⊎◌, inl, inr}
use Rattle.std.proofs.lemmas.Bool.{cases_lt, cases_eq, cases_Bool}
use Rattle.std.proofs.lemmas.Bool.Decides.{nat_tests}
use Rattle.bx_base.specs.Sums.{sum_below}
use Rattle.bx_base.specs.Bookings.{Row, row_at, is_running}
use Rattle.bx_dist.proofs.Sending.{sum_below-change}
use Rattle.bx_planner.specs.Tight.{runs_at}
use Rattle.bx_planner.proofs.AllMusts.{short_sum}
use Rattle.bx_planner.proofs.EnoughRoom.{one_or_all, with, with_same, with_other}

over : (s m e : ℕ) → s < e → ◌≡◌ {A = ℕ} (cond (leb s m && ltb m e) 1 0 + cond (ltb m s) 1 0) (cond (ltb m e) 1 0)
over s m e h = grind (arith, nat_tests)

same_side : (u m : ℕ) → m ≢ u → ◌≡◌ {A = ℕ} (cond (ltb m (u + 1)) 1 0) (cond (ltb m u) 1 0)
same_side u m h = grind (arith, nat_tests)

next_side : (u : ℕ) → ◌≡◌ {A = ℕ} (cond (ltb u (u + 1)) 1 0) (cond (ltb u u) 1 0 + 1)
next_side u = grind (arith, nat_tests)

pub at_most_one : (m x : ℕ) → cond (ltb m x) 1 0 ≤ 1
at_most_one m x = grind (arith, nat_tests)

unseen_then : (seen : ℕ → Bool) (y z : ℕ) → with y true seen z ≡ false → (z ≢ y) × (seen z ≡ false)
unseen_then seen y z h =
    elim (cases_eq z y) [
      | inl s ↦ (let e = ap (with y true seen) s ∙ with_same y true seen in absurd (cc))
      | inr d ↦ (d, sym (with_other y true seen z d) ∙ h)
    ]

-- `cap`: how many channels may be idle at a second; `loose`: which rows may be taken and given up
module _ (rows : List Row) (count : ℕ) (set : ℕ → Bool) (cap : ℕ → ℕ) (loose : ℕ → Bool) (last : ℕ) where
  -- the set now, with the unit at a place, and how many channels are idle at each second
  pub record Standing (seen : ℕ → Bool) (x : ℕ) (now : ℕ → Bool) (idle : ℕ → ℕ) : Type 0 where
    pub runs : (m : ℕ) → runs_at rows now m + idle m ≡ count + cond (ltb m x) 1 0
    pub capped : (m : ℕ) → idle m ≤ cap m
    pub no_fewer : (m : ℕ) → seen m ≡ false → count ≤ runs_at rows set m + idle m
    pub no_more : (m : ℕ) → seen (m + 1) ≡ false → runs_at rows set m + idle m ≤ count
    pub from : (i : ℕ) → seen (row_at rows i).start ≡ false → now i ≡ set i
    pub to : (i : ℕ) → seen (row_at rows i).end ≡ false → now i ≡ set i
    pub kept : (i : ℕ) → loose i ≡ false → now i ≡ set i

  abbrev pub Reached : (ℕ → Bool) → ℕ → Type 0
  Reached seen x = (now : ℕ → Bool) × (idle : ℕ → ℕ) × Standing seen x now idle

  wider : (seen : ℕ → Bool) (y x : ℕ) (now : ℕ → Bool) (idle : ℕ → ℕ) → Standing seen x now idle → Standing (with y true seen) x now idle
  wider seen y x now idle s =
      record {
        runs = s.runs;
        capped = s.capped;
        no_fewer = λ m h. s.no_fewer m (unseen_then seen y m h).1;
        no_more = λ m h. s.no_more m (unseen_then seen y (m + 1) h).1;
        from = λ i h. s.from i (unseen_then seen y (row_at rows i).start h).1;
        to = λ i h. s.to i (unseen_then seen y (row_at rows i).end h).1;
        kept = s.kept;
      }

  abbrev runs_when : (ℕ → Bool) → ℕ → ℕ → ℕ
  runs_when now m i = cond (now i && is_running (row_at rows i) m) 1 0

  runs_change : (now : ℕ → Bool) (r : ℕ) (b : Bool) → r < length rows → (m : ℕ) → runs_at rows now m + cond (b && is_running (row_at rows r) m) 1 0 ≡ runs_at rows (with r b now) m + cond (now r && is_running (row_at rows r) m) 1 0
  runs_change now r b h m =
      let changed = sum_below-change (length rows) (runs_when now m) (runs_when (with r b now) m) r h (λ i l d. rw (with_other r b now i d) refl) in
      let here : runs_when (with r b now) m r ≡ cond (b && is_running (row_at rows r) m) 1 0 = ap (λ (c : Bool). cond {A = ℕ} (c && is_running (row_at rows r) m) 1 0) (with_same r b now) in
      omega (arith, changed, here)

  -- a row that is taken or given up
  row_change : (seen : ℕ → Bool) (x y r : ℕ) (b : Bool) (now : ℕ → Bool) (idle : ℕ → ℕ) → seen (row_at rows r).start ≡ true → seen (row_at rows r).end ≡ true → loose r ≡ true → ((m : ℕ) → runs_at rows (with r b now) m + cond (ltb m x) 1 0 ≡ runs_at rows now m + cond (ltb m y) 1 0) → Standing seen x now idle → Standing seen y (with r b now) idle
  row_change seen x y r b now idle start end free moved s =
      record {
        runs = λ m. omega (arith, moved m, s.runs m);
        capped = s.capped;
        no_fewer = s.no_fewer;
        no_more = s.no_more;
        from = λ i h. elim (cases_eq i r) [ inl e ↦ (let f = ap (λ (j : ℕ). seen (row_at rows j).start) e in absurd (cc)) | inr d ↦ with_other r b now i d ∙ s.from i h ];
        to = λ i h. elim (cases_eq i r) [ inl e ↦ (let f = ap (λ (j : ℕ). seen (row_at rows j).end) e in absurd (cc)) | inr d ↦ with_other r b now i d ∙ s.to i h ];
        kept = λ i h. elim (cases_eq i r) [ inl e ↦ (let f = ap loose e in absurd (cc)) | inr d ↦ with_other r b now i d ∙ s.kept i h ];
      }

  -- a second that has another idle count
  idle_change : (seen : ℕ → Bool) (x y v a : ℕ) (now : ℕ → Bool) (idle : ℕ → ℕ) → a ≤ cap v → (seen v ≡ false → idle v ≤ a) → (seen (v + 1) ≡ false → a ≤ idle v) → a + cond (ltb v x) 1 0 ≡ idle v + cond (ltb v y) 1 0 → ((m : ℕ) → m ≢ v → ◌≡◌ {A = ℕ} (cond (ltb m x) 1 0) (cond (ltb m y) 1 0)) → Standing seen x now idle → Standing seen y now (with v a idle)
  idle_change seen x y v a now idle limit low high here else s =
      let same = with_same v a idle in
      record {
        runs = λ m. elim (cases_eq m v) [
          | inl e ↦ rw e (omega (arith, same, here, s.runs v))
          | inr d ↦ omega (arith, with_other v a idle m d, else m d, s.runs m)
        ];
        capped = λ m. elim (cases_eq m v) [
          | inl e ↦ (let at = ap (with v a idle) e in let c = ap cap e in omega (arith, at, same, limit, c))
          | inr d ↦ omega (arith, with_other v a idle m d, s.capped m)
        ];
        no_fewer = λ m h. elim (cases_eq m v) [
          | inl e ↦ (let u = low (subst (λ (z : ℕ). seen z ≡ false) e h) in let old = s.no_fewer m h in let at = ap (with v a idle) e in let was = ap idle e in omega (arith, u, old, same, at, was))
          | inr d ↦ omega (arith, with_other v a idle m d, s.no_fewer m h)
        ];
        no_more = λ m h. elim (cases_eq m v) [
          | inl e ↦ (let u = high (subst (λ (z : ℕ). seen (z + 1) ≡ false) e h) in let old = s.no_more m h in let at = ap (with v a idle) e in let was = ap idle e in omega (arith, u, old, same, at, was))
          | inr d ↦ omega (arith, with_other v a idle m d, s.no_more m h)
        ];
        from = s.from;
        to = s.to;
        kept = s.kept;
      }

  abbrev running : ℕ → ℕ → Bool
  running r m = is_running (row_at rows r) m

  no_row : (r m : ℕ) (b : Bool) → b ≡ false → ◌≡◌ {A = ℕ} (cond (b && running r m) 1 0) 0
  no_row r m b e = rw e refl

  all_row : (r m : ℕ) (b : Bool) → b ≡ true → ◌≡◌ {A = ℕ} (cond (b && running r m) 1 0) (cond (running r m) 1 0)
  all_row r m b e = rw e refl

  -- no move leads from the places that were seen to another
  pub record RowClosed (seen : ℕ → Bool) (i : ℕ) : Type 0 where
    pub onward : loose i ≡ true → set i ≡ false → seen (row_at rows i).start ≡ true → seen (row_at rows i).end ≡ true
    pub back : loose i ≡ true → set i ≡ true → seen (row_at rows i).end ≡ true → seen (row_at rows i).start ≡ true

  pub record GapClosed (seen : ℕ → Bool) (m : ℕ) : Type 0 where
    pub onward : seen m ≡ true → seen (m + 1) ≡ false → cap m + runs_at rows set m ≤ count
    pub back : seen (m + 1) ≡ true → seen m ≡ false → count ≤ runs_at rows set m

  pub record Closed (seen : ℕ → Bool) : Type 0 where
    pub rows_closed : (i : ℕ) → i < length rows → RowClosed seen i
    pub gaps_closed : (m : ℕ) → m < last → GapClosed seen m

  module _ (ordered : (i : ℕ) → i < length rows → (row_at rows i).start < (row_at rows i).end) (ends : (i : ℕ) → i < length rows → (row_at rows i).end ≤ last) (seen : ℕ → Bool) (each : (x : ℕ) → seen x ≡ true → Reached seen x) where
    -- a new place to which a move leads
    pub record Found (y : ℕ) : Type 0 where
      pub within : y ≤ last
      pub new : seen y ≡ false
      pub reached : Reached (with y true seen) y

    still : (y x : ℕ) → seen y ≡ false → seen x ≡ true → with y true seen x ≡ true
    still y x new s = with_other y true seen x (λ e. let f = ap seen e in cc) ∙ s

    take : (r : ℕ) → r < length rows → loose r ≡ true → set r ≡ false → seen (row_at rows r).start ≡ true → seen (row_at rows r).end ≡ false → Found (row_at rows r).end
    take r h free out s t =
        let start = (row_at rows r).start in
        let end = (row_at rows r).end in
        let here = each start s in
        let now = here.0 in
        let same : now r ≡ false = here.2.to r t ∙ out in
        let o = ordered r h in
        record {
          within = ends r h;
          new = t;
          reached = (
            with r true now,
            here.1,
            row_change (with end true seen) start end r true now here.1 (still end start t s) (with_same end true seen) free
                (λ m. omega (arith, runs_change now r true h m, no_row r m (now r) same, all_row r m true refl, over start m end o)) (wider seen end start now here.1 here.2),
          );
        }

    give : (r : ℕ) → r < length rows → loose r ≡ true → set r ≡ true → seen (row_at rows r).end ≡ true → seen (row_at rows r).start ≡ false → Found (row_at rows r).start
    give r h free in_set s t =
        let start = (row_at rows r).start in
        let end = (row_at rows r).end in
        let here = each end s in
        let now = here.0 in
        let same : now r ≡ true = here.2.from r t ∙ in_set in
        let o = ordered r h in
        let late = ends r h in
        record {
          within = omega (arith, o, late);
          new = t;
          reached = (
            with r false now,
            here.1,
            row_change (with start true seen) end start r false now here.1 (with_same start true seen) (still start end t s) free
                (λ m. omega (arith, runs_change now r false h m, no_row r m false refl, all_row r m (now r) same, over start m end o)) (wider seen start end now here.1 here.2),
          );
        }

    wait : (v : ℕ) → v < last → count < cap v + runs_at rows set v → seen v ≡ true → seen (v + 1) ≡ false → Found (v + 1)
    wait v h room s t =
        let here = each v s in
        let idle = here.1 in
        let most = here.2.no_more v t in
        let is_seen = with_same (v + 1) true seen in
        record {
          within = omega arith;
          new = t;
          reached = (here.0, with v (idle v + 1) idle, idle_change (with (v + 1) true seen) v (v + 1) v (idle v + 1) here.0 idle (omega (arith, most, room)) (λ u. omega arith) (λ u. absurd (cc)) (omega (arith, next_side v)) (λ m d. sym (same_side v m d)) (wider seen (v + 1) v here.0 idle here.2));
        }

    go_back : (v : ℕ) → v < last → runs_at rows set v < count → seen (v + 1) ≡ true → seen v ≡ false → Found v
    go_back v h room s t =
        let here = each (v + 1) s in
        let idle = here.1 in
        let some = here.2.no_fewer v t in
        let limit = here.2.capped v in
        let is_seen = with_same v true seen in
        record {
          within = omega arith;
          new = t;
          reached = (here.0, with v (idle v - 1) idle, idle_change (with v true seen) (v + 1) v v (idle v - 1) here.0 idle (omega (arith, limit)) (λ u. absurd (cc)) (λ u. omega arith) (omega (arith, next_side v, some, room)) (λ m d. same_side v m d) (wider seen v (v + 1) here.0 idle here.2));
        }

    abbrev AnyFound : Type 0
    AnyFound = (y : ℕ) × Found y

    try_row : (i : ℕ) → i < length rows → AnyFound ⊎ RowClosed seen i
    try_row i h =
        elim (cases_Bool (loose i)) [
          | inr fixed ↦ inr (record { onward = λ f. absurd (cc); back = λ f. absurd (cc) })
          | inl free ↦ elim (cases_Bool (seen (row_at rows i).start)) [
            | inl s ↦ elim (cases_Bool (seen (row_at rows i).end)) [
              | inl t ↦ inr (record { onward = λ f o q. t; back = λ f o q. s })
              | inr t ↦ elim (cases_Bool (set i)) [
                | inl in_set ↦ inr (record { onward = λ f o. absurd (cc); back = λ f o q. s })
                | inr out ↦ inl ((row_at rows i).end, take i h free out s t)
              ]
            ]
            | inr s ↦ elim (cases_Bool (seen (row_at rows i).end)) [
              | inr t ↦ inr (record { onward = λ f o q. absurd (cc); back = λ f o q. absurd (cc) })
              | inl t ↦ elim (cases_Bool (set i)) [
                | inl in_set ↦ inl ((row_at rows i).start, give i h free in_set t s)
                | inr out ↦ inr (record { onward = λ f o q. t; back = λ f o. absurd (cc) })
              ]
            ]
          ]
        ]

    try_gap : (m : ℕ) → m < last → AnyFound ⊎ GapClosed seen m
    try_gap m h =
        elim (cases_Bool (seen m)) [
          | inl s ↦ elim (cases_Bool (seen (m + 1))) [
            | inl t ↦ inr (record { onward = λ p q. absurd (cc); back = λ p q. absurd (cc) })
            | inr t ↦ elim (cases_lt count (cap m + runs_at rows set m)) [
              | inl c ↦ inl (m + 1, wait m h c s t)
              | inr c ↦ inr (record { onward = λ p q. c; back = λ p q. absurd (cc) })
            ]
          ]
          | inr s ↦ elim (cases_Bool (seen (m + 1))) [
            | inr t ↦ inr (record { onward = λ p q. absurd (cc); back = λ p q. absurd (cc) })
            | inl t ↦ elim (cases_lt (runs_at rows set m) count) [
              | inl c ↦ inl (m, go_back m h c t s)
              | inr c ↦ inr (record { onward = λ p q. absurd (cc); back = λ p q. c })
            ]
          ]
        ]

    pub found_or_closed : AnyFound ⊎ Closed seen
    found_or_closed =
        elim (one_or_all (λ i. AnyFound) (RowClosed seen) (length rows) try_row) [
          | inl found ↦ inl found.2
          | inr rows_done ↦ elim (one_or_all (λ m. AnyFound) (GapClosed seen) last try_gap) [
            | inl found ↦ inl found.2
            | inr gaps_done ↦ inr (record { rows_closed = rows_done; gaps_closed = gaps_done })
          ]
        ]

    each_then : (y : ℕ) → Found y → (x : ℕ) → with y true seen x ≡ true → Reached (with y true seen) x
    each_then y found x h =
        elim (cases_eq x y) [
          | inl e ↦ subst (Reached (with y true seen)) (sym e) found.reached
          | inr d ↦ (let old = each x (sym (with_other y true seen x d) ∙ h) in (old.0, old.1, wider seen y x old.0 old.1 old.2))
        ]

    abbrev pub unseen_of : (ℕ → Bool) → ℕ
    unseen_of s = sum_below (suc last) (λ z. cond (s z) 0 1)

    one_fewer : (z : ℕ) (b : Bool) (c : Bool) → (b ≡ true → c ≡ true) → ◌≤◌ (cond c 0 1) (cond b 0 1)
    one_fewer z true c h = rw (h refl) (omega arith)
    one_fewer z false true h = omega arith
    one_fewer z false false h = omega arith

    fewer_unseen : (y : ℕ) → y ≤ last → seen y ≡ false → unseen_of (with y true seen) + 1 ≤ unseen_of seen
    fewer_unseen y h new =
        let before : cond {A = ℕ} (seen y) 0 1 ≡ 1 = rw new refl in
        let now : cond {A = ℕ} (with y true seen y) 0 1 ≡ 0 = ap (λ (b : Bool). cond {A = ℕ} b 0 1) (with_same y true seen) in
        short_sum (suc last) (λ z. cond (with y true seen z) 0 1) (λ z. cond (seen z) 0 1) y 1 (λ z l. one_fewer z (seen z) (with y true seen z) (λ s. still y z new s)) (omega arith) (omega (arith, before, now))

  -- the places that are seen when no move leads on
  pub record Explored (seen : ℕ → Bool) : Type 0 where
    pub first : seen 0 ≡ true
    pub reached : (x : ℕ) → seen x ≡ true → Reached seen x
    pub closed : Closed seen

  module _ (ordered : (i : ℕ) → i < length rows → (row_at rows i).start < (row_at rows i).end) (ends : (i : ℕ) → i < length rows → (row_at rows i).end ≤ last) where
    explored_from : (fuel : ℕ) (seen : ℕ → Bool) → seen 0 ≡ true → (each : (x : ℕ) → seen x ≡ true → Reached seen x) → sum_below (suc last) (λ z. cond (seen z) 0 1) ≤ fuel → (seen' : ℕ → Bool) × Explored seen'
    explored_from zero seen first each few =
        elim (found_or_closed ordered ends seen each) [
          | inl found ↦ (let less = fewer_unseen ordered ends seen each found.0 found.1.within found.1.new in absurd (omega (arith, less, few)))
          | inr closed ↦ (seen, record { first = first; reached = each; closed = closed })
        ]
    explored_from (suc fuel) seen first each few =
        elim (found_or_closed ordered ends seen each) [
          | inl found ↦ (
              let y = found.0 in
              let less = fewer_unseen ordered ends seen each y found.1.within found.1.new in
              explored_from fuel (with y true seen) (still ordered ends seen each y 0 found.1.new first) (each_then ordered ends seen each y found.1) (omega (arith, less, few)))
          | inr closed ↦ (seen, record { first = first; reached = each; closed = closed })
        ]

    -- from the first second
    pub explored : ((t : ℕ) → runs_at rows set t ≤ count) → ((m : ℕ) → count ≤ runs_at rows set m + cap m) → (seen : ℕ → Bool) × Explored seen
    explored enough room =
        let start = with {A = Bool} 0 true (λ z. false) in
        let standing : Standing start 0 set (λ m. count - runs_at rows set m) = record {
          runs = λ m. (let e = enough m in let none : ◌≡◌ {A = ℕ} (cond (ltb m 0) 1 0) 0 = grind (arith, nat_tests) in omega (arith, e, none));
          capped = λ m. (let r = room m in omega (arith, r));
          no_fewer = λ m h. omega arith;
          no_more = λ m h. (let e = enough m in omega (arith, e));
          from = λ i h. refl;
          to = λ i h. refl;
          kept = λ i h. refl;
        } in
        explored_from (sum_below (suc last) (λ z. cond (start z) 0 1)) start (with_same {A = Bool} 0 true (λ z. false)) (λ x h.
        elim (cases_eq x 0) [
          | inl e ↦ subst (Reached start) (sym e) (set, (λ m. count - runs_at rows set m), standing)
          | inr d ↦ (let f = with_other {A = Bool} 0 true (λ z. false) x d in absurd (cc))
        ]) (omega arith)
