-- Two sets, one that so many channels carry and one that two more carry, come to two sets that one more carries, and that pay
-- together what the two pay. A unit is moved from the larger set to the smaller along rows that are in just one of them.
-- Were the last second not reached, the larger set would have two units more than the smaller that leave the places which were
-- seen, but no more than them could leave.
use Rattle.std.proofs.Common.{zero, suc, ◌≡◌, ℕ, ◌+◌, ◌-◌, ◌*◌, ◌<◌, ◌≤◌, Bool, true, false, cond, ◌&&◌, leb, ltb, List, length, refl, ap, arith, inl, inr}
use Rattle.std.proofs.lemmas.Bool.{cases_lt, cond-true, cond-false, lt-ltb, and_right, le-ltb}
use Rattle.bx_base.specs.Sums.{sum_below}
use Rattle.bx_base.specs.Bookings.{Row, row_at, is_running, AreBookings, IsLawful, pay_of}
use Rattle.bx_base.specs.Channels.{count_of}
use Rattle.bx_base.proofs.SumLemmas.{sum_below-le, sum_below-zero, sum_below-add, sum_below-mul, sum_below-same, sum_below-swap}
use Rattle.bx_base.proofs.Duality.{running-le-count}
use Rattle.bx_flow.proofs.Certificate.{both, sum_of_cond}
use Rattle.bx_flow.proofs.Falls.{spanned}
use Rattle.bx_planner.specs.Capacity.{IsMostPaid, AreGainsNeverRising}
use Rattle.bx_planner.specs.Tight.{runs_at}
use Rattle.bx_planner.proofs.Moves.{at_most_one, Standing, Closed, Explored, explored}
use Rattle.bx_planner.proofs.EnoughRoom.{carried_from_room}

-- a row is in just one of two sets
abbrev differs : Bool → Bool → Bool
differs a c = cond a (cond c false true) c

-- where it is then, once it is known where it is in the first of the new sets
abbrev other_of : Bool → Bool → Bool → Bool
other_of a c n = cond (differs a c) (cond n false true) n

same_pair : (a c n : Bool) → (differs a c ≡ false → n ≡ a) → (x : ℕ) → ◌≡◌ {A = ℕ} (cond n x 0 + cond (other_of a c n) x 0) (cond a x 0 + cond c x 0)
same_pair true true true h x = refl
same_pair true true false h x = let e = h refl in absurd (cc)
same_pair true false true h x = refl
same_pair true false false h x = omega arith
same_pair false true true h x = omega arith
same_pair false true false h x = refl
same_pair false false true h x = let e = h refl in absurd (cc)
same_pair false false false h x = refl

in_both : (a c n : Bool) → a ≡ true → c ≡ true → (differs a c ≡ false → n ≡ a) → (n ≡ true) × (other_of a c n ≡ true)
in_both true true true e f h = (refl, refl)
in_both true true false e f h = let g = h refl in absurd (cc)
in_both true false n e f h = absurd (cc)
in_both false c n e f h = absurd (cc)

and_term : (b r : Bool) → ◌≡◌ {A = ℕ} (cond (b && r) 1 0) (cond b (cond r 1 0) 0)
and_term true r = refl
and_term false r = refl

two_more : (rl rh : ℕ) (s t : Bool) → (s ≡ true → t ≡ false → rl + 2 ≤ rh) → rl * cond s (cond t 0 1) 0 + cond s (cond t 0 1) 0 + cond s (cond t 0 1) 0 ≤ rh * cond s (cond t 0 1) 0
two_more rl rh true true h = omega arith
two_more rl rh true false h = let k = h refl refl in omega (arith, k)
two_more rl rh false t h = omega arith

two_at_most : (rl rh : ℕ) (s t : Bool) → (t ≡ true → s ≡ false → rh ≤ rl + 2) → rh * cond s 0 (cond t 1 0) ≤ rl * cond s 0 (cond t 1 0) + cond s 0 (cond t 1 0) + cond s 0 (cond t 1 0)
two_at_most rl rh true t h = omega arith
two_at_most rl rh false true h = let k = h refl refl in omega (arith, k)
two_at_most rl rh false false h = omega arith

row_sides : (a c : Bool) (s e : ℕ) → (a ≡ false → c ≡ true → s ≤ e) → (a ≡ true → c ≡ false → e ≤ s) → cond c s 0 + cond a e 0 ≤ cond c e 0 + cond a s 0
row_sides true true s e p q = omega arith
row_sides true false s e p q = let k = q refl refl in omega (arith, k)
row_sides false true s e p q = let k = p refl refl in omega (arith, k)
row_sides false false s e p q = omega arith

implied : (s t : Bool) → (s ≡ true → t ≡ true) → ◌≤◌ (cond s 1 0) (cond t 1 0)
implied true t h = rw (h refl) (omega arith)
implied false t h = omega arith

one_way : (s t : Bool) → ◌≡◌ {A = ℕ} (cond s (cond t 0 1) 0 + cond t 1 0) (cond s 0 (cond t 1 0) + cond s 1 0)
one_way true true = refl
one_way true false = refl
one_way false true = refl
one_way false false = refl

row_cond : (b : Bool) (x y u v : ℕ) → x + u ≡ y + v → cond b x 0 + cond b u 0 ≡ cond b y 0 + cond b v 0
row_cond true x y u v e = e
row_cond false x y u v e = refl

module _ (rows : List Row) (last : ℕ) (ordered : (i : ℕ) → i < length rows → (row_at rows i).start < (row_at rows i).end) (ends : (i : ℕ) → i < length rows → (row_at rows i).end ≤ last) where
  -- a sum over the seconds at which a row runs
  abbrev over_row : (ℕ → ℕ) → ℕ → ℕ
  over_row f i = sum_below last (λ m. cond (is_running (row_at rows i) m) (f m) 0)

  -- over the rows of a set the same by seconds
  by_seconds : (set : ℕ → Bool) (f : ℕ → ℕ) → sum_below (length rows) (λ i. cond (set i) (over_row f i) 0) ≡ sum_below last (λ m. runs_at rows set m * f m)
  by_seconds set f =
      let n = length rows in
      let term = λ (m i : ℕ). cond (set i) (cond (is_running (row_at rows i) m) (f m) 0) 0 in
      let each = sum_below-same last (λ m. runs_at rows set m * f m) (λ m. sum_below n (term m)) (λ m h.
      let out = sum_below-mul n (λ i. cond (set i && is_running (row_at rows i) m) 1 0) (f m) in
      let one = sum_below-same n (λ i. cond (set i && is_running (row_at rows i) m) 1 0 * f m) (term m) (λ i b. both (set i) (is_running (row_at rows i) m) (f m)) in
      omega (arith, out, one)) in
      let swapped = sum_below-swap last n term in
      let inner = sum_below-same n (λ i. sum_below last (λ m. term m i)) (λ i. cond (set i) (over_row f i) 0) (λ i h. sum_of_cond last (set i) (λ m. cond (is_running (row_at rows i) m) (f m) 0)) in
      omega (arith, each, swapped, inner)

  module _ (seen : ℕ → Bool) where
    -- whether the places that were seen end at a second, or begin there
    abbrev leaves : ℕ → ℕ
    leaves m = cond (seen m) (cond (seen (m + 1)) 0 1) 0

    abbrev enters : ℕ → ℕ
    enters m = cond (seen m) 0 (cond (seen (m + 1)) 1 0)

    abbrev is_seen : ℕ → ℕ
    is_seen m = cond (seen m) 1 0

    up_to : (u : ℕ) → sum_below u leaves + is_seen u ≡ sum_below u enters + is_seen 0
    up_to zero = refl
    up_to (suc u) =
        let e : u + 1 ≡ suc u = omega arith in
        omega (arith, up_to u, one_way (seen u) (seen (u + 1)), ap is_seen e)

    along_row : (i : ℕ) → i < length rows → over_row leaves i + is_seen (row_at rows i).end ≡ over_row enters i + is_seen (row_at rows i).start
    along_row i h =
        let start = (row_at rows i).start in
        let end = (row_at rows i).end in
        let o = ordered i h in
        let out = spanned leaves start end (omega (arith, o)) last (ends i h) in
        let back = spanned enters start end (omega (arith, o)) last (ends i h) in
        omega (arith, out, back, up_to start, up_to end)

    -- the rows of a set that start at places which were seen, and that end there
    abbrev starts_seen : (ℕ → Bool) → ℕ
    starts_seen set = sum_below (length rows) (λ i. cond (set i) (is_seen (row_at rows i).start) 0)

    abbrev ends_seen : (ℕ → Bool) → ℕ
    ends_seen set = sum_below (length rows) (λ i. cond (set i) (is_seen (row_at rows i).end) 0)

    over_set : (set : ℕ → Bool) → sum_below last (λ m. runs_at rows set m * leaves m) + ends_seen set ≡ sum_below last (λ m. runs_at rows set m * enters m) + starts_seen set
    over_set set =
        let n = length rows in
        let out = λ (i : ℕ). cond (set i) (over_row leaves i) 0 in
        let back = λ (i : ℕ). cond (set i) (over_row enters i) 0 in
        let at_end = λ (i : ℕ). cond (set i) (is_seen (row_at rows i).end) 0 in
        let at_start = λ (i : ℕ). cond (set i) (is_seen (row_at rows i).start) 0 in
        let each = sum_below-same n (λ i. out i + at_end i) (λ i. back i + at_start i) (λ i h. row_cond (set i) (over_row leaves i) (over_row enters i) (is_seen (row_at rows i).end) (is_seen (row_at rows i).start) (along_row i h)) in
        omega (arith, each, sum_below-add n out at_end, sum_below-add n back at_start, by_seconds set leaves, by_seconds set enters)

  none_late : (set : ℕ → Bool) (m : ℕ) → last ≤ m → runs_at rows set m ≡ 0
  none_late set m h =
      sum_below-zero (length rows) (λ i. cond (set i && is_running (row_at rows i) m) 1 0) (λ i b.
      let e = ends i b in
      cond-false {A = ℕ} (set i && is_running (row_at rows i) m) 1 0 (and_right (set i) _ (and_right (leb (row_at rows i).start m) (ltb m (row_at rows i).end) (le-ltb m (row_at rows i).end (omega (arith, e, h))))))

  module _ (count : ℕ) (low high : ℕ → Bool) (few : (t : ℕ) → runs_at rows low t ≤ count) (many : (t : ℕ) → runs_at rows high t ≤ count + 2) where
    abbrev both_run : ℕ → ℕ
    both_run m = runs_at rows low m + runs_at rows high m

    abbrev cap : ℕ → ℕ
    cap m = count + count + 2 - both_run m

    abbrev loose : ℕ → Bool
    loose i = differs (low i) (high i)

    room : (m : ℕ) → count ≤ runs_at rows low m + cap m
    room m = omega (arith, few m, many m)

    taken_loose : (a c : Bool) → a ≡ false → c ≡ true → differs a c ≡ true
    taken_loose a c e f = rw (e, f) refl

    given_loose : (a c : Bool) → a ≡ true → c ≡ false → differs a c ≡ true
    given_loose a c e f = rw (e, f) refl

    -- the last second is reached
    not_closed : (seen : ℕ → Bool) → seen 0 ≡ true → seen last ≡ false → Closed rows count low cap loose last seen → ⊥
    not_closed seen first unseen closed =
        let n = length rows in
        let out = leaves seen in
        let back = enters seen in
        let rl = runs_at rows low in
        let rh = runs_at rows high in
        let more = sum_below-le last (λ m. rl m * out m + out m + out m) (λ m. rh m * out m) (λ m h. two_more (rl m) (rh m) (seen m) (seen (m + 1)) (λ s t. let k = (closed.gaps_closed m h).onward s t in omega (arith, k, few m, many m))) in
        let less = sum_below-le last (λ m. rh m * back m) (λ m. rl m * back m + back m + back m) (λ m h. two_at_most (rl m) (rh m) (seen m) (seen (m + 1)) (λ t s. let k = (closed.gaps_closed m h).back t s in omega (arith, k, many m))) in
        let sides = sum_below-le n (λ i. cond (high i) (is_seen seen (row_at rows i).start) 0 + cond (low i) (is_seen seen (row_at rows i).end) 0) (λ i. cond (high i) (is_seen seen (row_at rows i).end) 0 + cond (low i) (is_seen seen (row_at rows i).start) 0) (λ i h.
        row_sides (low i) (high i) (is_seen seen (row_at rows i).start) (is_seen seen (row_at rows i).end)
        (λ e f. implied (seen (row_at rows i).start) (seen (row_at rows i).end) (λ s. (closed.rows_closed i h).onward (taken_loose (low i) (high i) e f) e s))
        (λ e f. implied (seen (row_at rows i).end) (seen (row_at rows i).start) (λ s. (closed.rows_closed i h).back (given_loose (low i) (high i) e f) e s))) in
        let left = sum_below-add n (λ i. cond (high i) (is_seen seen (row_at rows i).start) 0) (λ i. cond (low i) (is_seen seen (row_at rows i).end) 0) in
        let right = sum_below-add n (λ i. cond (high i) (is_seen seen (row_at rows i).end) 0) (λ i. cond (low i) (is_seen seen (row_at rows i).start) 0) in
        let more_a = sum_below-add last (λ m. rl m * out m + out m) out in
        let more_b = sum_below-add last (λ m. rl m * out m) out in
        let less_a = sum_below-add last (λ m. rl m * back m + back m) back in
        let less_b = sum_below-add last (λ m. rl m * back m) back in
        let whole = up_to seen last in
        let at_first : is_seen seen 0 ≡ 1 = rw first refl in
        let at_last : is_seen seen last ≡ 0 = rw unseen refl in
        omega (arith, more, less, sides, left, right, more_a, more_b, less_a, less_b, whole, at_first, at_last, over_set seen low, over_set seen high)

    -- two sets for one more, which pay together what the two pay
    pub record Shared : Type 0 where
      pub one : ℕ → Bool
      pub two : ℕ → Bool
      pub one_fits : (t : ℕ) → runs_at rows one t ≤ count + 1
      pub two_fits : (t : ℕ) → runs_at rows two t ≤ count + 1
      pub musts : (i : ℕ) → low i ≡ true → high i ≡ true → (one i ≡ true) × (two i ≡ true)
      pub pays : pay_of rows one + pay_of rows two ≡ pay_of rows low + pay_of rows high

    module _ (seen now : ℕ → Bool) (idle : ℕ → ℕ) (standing : Standing rows count low cap loose last seen last now idle) where
      abbrev rest : ℕ → Bool
      rest i = other_of (low i) (high i) (now i)

      runs_shared : (m : ℕ) → runs_at rows now m + runs_at rows rest m ≡ both_run m
      runs_shared m =
          let n = length rows in
          let runs = λ (set : ℕ → Bool) (i : ℕ). cond {A = ℕ} (set i && is_running (row_at rows i) m) 1 0 in
          let each = sum_below-same n (λ i. runs now i + runs rest i) (λ i. runs low i + runs high i) (λ i h.
          let pair = same_pair (low i) (high i) (now i) (standing.kept i) (cond (is_running (row_at rows i) m) 1 0) in
          omega (arith, pair, and_term (now i) (is_running (row_at rows i) m), and_term (rest i) (is_running (row_at rows i) m), and_term (low i) (is_running (row_at rows i) m), and_term (high i) (is_running (row_at rows i) m))) in
          omega (arith, each, sum_below-add n (runs now) (runs rest), sum_below-add n (runs low) (runs high))

      pays_shared : pay_of rows now + pay_of rows rest ≡ pay_of rows low + pay_of rows high
      pays_shared =
          let n = length rows in
          let pays = λ (set : ℕ → Bool) (i : ℕ). cond (set i) (row_at rows i).pay 0 in
          let each = sum_below-same n (λ i. pays now i + pays rest i) (λ i. pays low i + pays high i) (λ i h. same_pair (low i) (high i) (now i) (standing.kept i) (row_at rows i).pay) in
          omega (arith, each, sum_below-add n (pays now) (pays rest), sum_below-add n (pays low) (pays high))

      rest_fits : (t : ℕ) → runs_at rows rest t ≤ count + 1
      rest_fits t =
          elim (cases_lt t last) [
            | inl h ↦ (
                let crossed = cond-true {A = ℕ} (ltb t last) 1 0 (lt-ltb t last h) in
                omega (arith, runs_shared t, standing.runs t, standing.capped t, crossed, few t, many t))
            | inr h ↦ omega (arith, none_late rest t h)
          ]

      shared_now : Shared
      shared_now = record {
        one = now;
        two = rest;
        one_fits = λ t. omega (arith, standing.runs t, at_most_one t last);
        two_fits = rest_fits;
        musts = λ i e f. in_both (low i) (high i) (now i) e f (standing.kept i);
        pays = pays_shared;
      }

    shared_by_cases : (seen : ℕ → Bool) → Explored rows count low cap loose last seen → (b : Bool) → seen last ≡ b → Shared
    shared_by_cases seen all true e = let r = all.reached last e in shared_now seen r.0 r.1 r.2
    shared_by_cases seen all false e = absurd (not_closed seen all.first e all.closed)

    pub shared : Shared
    shared =
        let found = explored rows count low cap loose last ordered ends few room in
        shared_by_cases found.0 found.1 (found.0 last) refl

module _ (rows : List Row) (channels more most : List Bool) (bookings : AreBookings rows) (one : count_of more ≡ count_of channels + 1) (two : count_of most ≡ count_of channels + 2) (low high : ℕ → Bool) (low_lawful : IsLawful rows channels low) (high_lawful : IsLawful rows most high) (last : ℕ) (ends : (i : ℕ) → i < length rows → (row_at rows i).end ≤ last) where
  ordered_rows : (i : ℕ) → i < length rows → (row_at rows i).start < (row_at rows i).end
  ordered_rows i h = (bookings.each i h).in_order

  low_few : (t : ℕ) → runs_at rows low t ≤ count_of channels
  low_few t = running-le-count rows channels low low_lawful.carried.0 low_lawful.carried.1 t

  high_many : (t : ℕ) → runs_at rows high t ≤ count_of channels + 2
  high_many t = omega (arith, running-le-count rows most high high_lawful.carried.0 high_lawful.carried.1 t, two)

  lawful_on_more : (set : ℕ → Bool) → ((t : ℕ) → runs_at rows set t ≤ count_of channels + 1) → ((i : ℕ) → low i ≡ true → high i ≡ true → set i ≡ true) → IsLawful rows more set
  lawful_on_more set fits musts =
      record {
        carried = carried_from_room rows more set ordered_rows (λ t. omega (arith, fits t, one)) last (λ i h. (let e = ends i h in let o = ordered_rows i h in omega (arith, e, o)));
        has_musts = λ i h must. musts i (low_lawful.has_musts i h must) (high_lawful.has_musts i h must);
      }

  pays_no_more : (b : ℕ) → IsMostPaid rows more b → pay_of rows low + pay_of rows high ≤ b + b
  pays_no_more b best =
      let s = shared rows last ordered_rows ends (count_of channels) low high low_few high_many in
      let first = best.best s.one (lawful_on_more s.one s.one_fits (λ i p q. (s.musts i p q).0)) in
      let second = best.best s.two (lawful_on_more s.two s.two_fits (λ i p q. (s.musts i p q).1)) in
      omega (arith, s.pays, first, second)

pub gains_fall : AreGainsNeverRising
gains_fall rows channels more most a b c bookings one two low middle high =
    let least = pays_no_more rows channels more most bookings one two low.set high.set low.lawful high.lawful 200000 (λ i h. (bookings.each i h).in_day) b middle in
    omega (arith, least, low.pays, high.pays)
