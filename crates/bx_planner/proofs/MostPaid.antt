-- The most that a lawful set pays on one channel more: what a set pays, and the whole sum of its least prices.
use Rattle.std.proofs.Common.{zero, suc, ◌≡◌, ℕ, ◌+◌, ◌*◌, ◌<◌, ◌≤◌, Bool, true, false, cond, eqb, ltb, List, [], ◌∷◌, length, get_or, refl, sym, ◌∙◌, subst, arith, ◌⊎◌, inl, inr}
use Rattle.std.specs.Prelude.{ℤ, pos, ◌+ℤ◌, ◌≤ℤ◌}
use Rattle.std.specs.List.{All}
use Rattle.std.proofs.lemmas.Int.{ints}
use Rattle.std.proofs.lemmas.Bool.{cases_lt, cases_eq, cond-true, cond-false, lt-ltb, le-ltb, eq-eqb, ne_eqb}
use Rattle.std.proofs.lemmas.Bool.Decides.{nat_tests}
use Rattle.std.proofs.lemmas.List.Sums.{sum_by-cons}
use Rattle.std.proofs.lemmas.List.Elements.{All-head, All-tail}
use Rattle.bx_base.specs.Sums.{sum_ints_below}
use Rattle.bx_base.specs.Bookings.{Row, row_at, AreBookings, pay_of}
use Rattle.bx_base.specs.Bound.{Charge, sum_of_prices, cost_of, term_of, bound_of}
use Rattle.bx_base.specs.Channels.{count_of}
use Rattle.bx_base.proofs.Duality.{pay-le-bound, running-le-count}
use Rattle.bx_check.specs.Before.{sum_before}
use Rattle.bx_planner.specs.Capacity.{IsMostPaid}
use Rattle.bx_planner.specs.Choices.{IsBest}
use Rattle.bx_planner.specs.LeastProofs.{IsLeastProof}
use Rattle.bx_planner.specs.Tight.{runs_at, AreTightPrices}
use Rattle.bx_planner.proofs.Before.{before_same}
use Rattle.bx_planner.proofs.Tightness.{proof_is_tight}
use Rattle.bx_planner.proofs.Slack.{bound_from_tight}
use Rattle.bx_planner.proofs.EnoughRoom.{carried_from_room}
use Rattle.bx_planner.proofs.Moves.{at_most_one, Standing, Explored, explored}
use Rattle.bx_planner.proofs.Lowered.{IsCharged, AreClosed, lowered, lowered_list, lowered_exact, lowered_less}

pos_order : (a b : ℕ) (whole : ℤ) → pos a ≤ℤ whole → whole ≡ pos b → a ≤ b
pos_order a b whole h e = omega (arith, ints)

-- what a count of one more adds to the bound
bound_more : (rows : List Row) (count : ℕ) (prices : List Charge) (a : ℕ) → bound_of rows count prices ≡ pos a → bound_of rows (count + 1) prices ≡ pos (a + sum_of_prices prices)
bound_more rows count prices a e =
    let s = sum_of_prices prices in
    let terms = sum_ints_below (length rows) (λ i. term_of prices (row_at rows i)) in
    let more : (count + 1) * s ≡ count * s + s = omega arith in
    let whole : (pos (count * s) +ℤ terms) ≡ pos a = e in
    let now : (pos ((count + 1) * s) +ℤ terms) ≡ pos (a + s) = omega (arith, ints, more, whole) in
    now

-- a charge is seen at its moment
is_before : (t m a : ℕ) → m < t → ◌≡◌ {A = ℕ} (cond (ltb m t) a 0) a
is_before t m a h = grind (arith, nat_tests)

no_less : (m a t : ℕ) → cond (ltb m t) a 0 ≤ cond (ltb m (t + 1)) a 0
no_less m a t = grind (arith, nat_tests)

there : (m a : ℕ) → cond (ltb m m) a 0 + a ≤ cond (ltb m (m + 1)) a 0
there m a = grind (arith, nat_tests)

rest_no_less : (ps : List Charge) (t : ℕ) → sum_before ps t ≤ sum_before ps (t + 1)
rest_no_less [] t = omega arith
rest_no_less (p ∷ ps) t = omega (arith, rest_no_less ps t, no_less p.moment p.amount t, sum_by-cons (λ q. cond (ltb q.moment t) q.amount 0) p ps, sum_by-cons (λ q. cond (ltb q.moment (t + 1)) q.amount 0) p ps)

charged_there : (prices : List Charge) (k : ℕ) (d : Charge) → k < length prices → sum_before prices (get_or prices k d).moment + (get_or prices k d).amount ≤ sum_before prices ((get_or prices k d).moment + 1)
charged_there [] k d h = absurd (omega arith)
charged_there (p ∷ ps) zero d h =
    omega (arith, rest_no_less ps p.moment, there p.moment p.amount, sum_by-cons (λ q. cond (ltb q.moment p.moment) q.amount 0) p ps, sum_by-cons (λ q. cond (ltb q.moment (p.moment + 1)) q.amount 0) p ps)
charged_there (p ∷ ps) (suc k) d h =
    let t = (get_or ps k d).moment in
    omega (arith, charged_there ps k d (omega arith), no_less p.moment p.amount t, sum_by-cons (λ q. cond (ltb q.moment t) q.amount 0) p ps, sum_by-cons (λ q. cond (ltb q.moment (t + 1)) q.amount 0) p ps)

all_before : (prices : List Charge) (t : ℕ) → All (λ p. p.moment < t) prices → sum_before prices t ≡ sum_of_prices prices
all_before [] t h = refl
all_before (p ∷ ps) t h =
    omega (arith, all_before ps t (All-tail (λ (q : Charge). q.moment < t) p ps h), is_before t p.moment p.amount (All-head (λ (q : Charge). q.moment < t) p ps h), sum_by-cons (λ q. cond (ltb q.moment t) q.amount 0) p ps, sum_by-cons (λ (q : Charge). q.amount) p ps)

module _ (rows : List Row) (channels more : List Bool) (prices : List Charge) (set : ℕ → Bool) (bookings : AreBookings rows) (least : IsLeastProof rows channels prices set) (one : count_of more ≡ count_of channels + 1)
    (last : ℕ) (ends : (i : ℕ) → i < length rows → (row_at rows i).end < last) where
  ordered : (i : ℕ) → i < length rows → (row_at rows i).start < (row_at rows i).end
  ordered i h = (bookings.each i h).in_order

  late : (i : ℕ) → i < length rows → (row_at rows i).end ≤ last
  late i h = let e = ends i h in omega (arith, e)

  tight : AreTightPrices rows (count_of channels) set prices
  tight = proof_is_tight rows channels prices set least.proves

  enough : (t : ℕ) → runs_at rows set t ≤ count_of channels
  enough t = running-le-count rows channels set least.proves.lawful.carried.0 least.proves.lawful.carried.1 t

  full : (m : ℕ) → IsCharged prices m → count_of channels ≤ runs_at rows set m
  full m c =
      elim (cases_lt (runs_at rows set m) (count_of channels)) [
        | inl room ↦ (
            let same = before_same prices m (m + 1) (omega arith) (λ k d b low high. tight.idle k d b (let e : m ≡ (get_or prices k d).moment = omega (arith, low, high) in subst (λ (t : ℕ). runs_at rows set t < count_of channels) e room)) in
            absurd (omega (arith, c, same)))
        | inr h ↦ h
      ]

  -- as many channels as one likes may be idle where nothing is charged, none where something is
  abbrev cap : ℕ → ℕ
  cap m = cond (ltb (sum_before prices m) (sum_before prices (m + 1))) 0 (count_of channels + 1)

  -- free rows that cost just what they pay
  abbrev loose : ℕ → Bool
  loose i = cond (row_at rows i).must false (eqb (cost_of prices (row_at rows i)) (row_at rows i).pay)

  loose_from : (i : ℕ) → (row_at rows i).must ≡ false → cost_of prices (row_at rows i) ≡ (row_at rows i).pay → loose i ≡ true
  loose_from i free same = rw free (eq-eqb (cost_of prices (row_at rows i)) (row_at rows i).pay same)

  loose_cases : (i : ℕ) (must : Bool) → (row_at rows i).must ≡ must → (loose i ≡ false) ⊎ (((row_at rows i).must ≡ false) × (cost_of prices (row_at rows i) ≡ (row_at rows i).pay))
  loose_cases i true e = inl (rw e refl)
  loose_cases i false e =
      elim (cases_eq (cost_of prices (row_at rows i)) (row_at rows i).pay) [
        | inl same ↦ inr (e, same)
        | inr differs ↦ inl (rw e (ne_eqb (cost_of prices (row_at rows i)) (row_at rows i).pay differs))
      ]

  cap_none : (m : ℕ) → IsCharged prices m → cap m ≡ 0
  cap_none m c = cond-true {A = ℕ} (ltb (sum_before prices m) (sum_before prices (m + 1))) 0 (count_of channels + 1) (lt-ltb (sum_before prices m) (sum_before prices (m + 1)) c)

  cap_all : (m : ℕ) → sum_before prices (m + 1) ≤ sum_before prices m → cap m ≡ count_of channels + 1
  cap_all m c = cond-false {A = ℕ} (ltb (sum_before prices m) (sum_before prices (m + 1))) 0 (count_of channels + 1) (le-ltb (sum_before prices m) (sum_before prices (m + 1)) c)

  room : (m : ℕ) → count_of channels ≤ runs_at rows set m + cap m
  room m =
      elim (cases_lt (sum_before prices m) (sum_before prices (m + 1))) [
        | inl c ↦ omega (arith, full m c)
        | inr c ↦ omega (arith, cap_all m c)
      ]

  closed_from : (seen : ℕ → Bool) → Explored rows (count_of channels) set cap loose last seen → AreClosed rows (count_of channels) set prices last seen
  closed_from seen all =
      record {
        first = all.first;
        wait = λ m h s t. elim (cases_lt (sum_before prices m) (sum_before prices (m + 1))) [
          | inl c ↦ c
          | inr c ↦ (let k = (all.closed.gaps_closed m h).onward s t in absurd (omega (arith, k, cap_all m c)))
        ];
        go_back = λ m h s t. (all.closed.gaps_closed m h).back s t;
        take = λ i h free same o s. (all.closed.rows_closed i h).onward (loose_from i free same) o s;
        give = λ i h free same o s. (all.closed.rows_closed i h).back (loose_from i free same) o s;
      }

  in_time : All (λ p. p.moment < last) prices
  in_time k d b =
      let m = least.placed k d b in
      let e = ends m.0 m.1 in
      let o = ordered m.0 m.1 in
      elim m.2 [ inl s ↦ omega (arith, s, e, o) | inr s ↦ omega (arith, s, e) ]

  bound_one_more : bound_of rows (count_of more) prices ≡ pos (pay_of rows set + sum_of_prices prices)
  bound_one_more = subst (λ (n : ℕ). bound_of rows n prices ≡ pos (pay_of rows set + sum_of_prices prices)) (sym one) (bound_more rows (count_of channels) prices (pay_of rows set) least.proves.exact)

  -- no set on one channel more pays more
  best_more : IsBest rows more (pay_of rows set + sum_of_prices prices)
  best_more other lawful = pos_order (pay_of rows other) (pay_of rows set + sum_of_prices prices) _ (pay-le-bound rows more prices other lawful) bound_one_more

  module _ (seen now : ℕ → Bool) (idle : ℕ → ℕ) (standing : Standing rows (count_of channels) set cap loose last seen last now idle) where
    enough_now : (t : ℕ) → runs_at rows now t ≤ count_of more
    enough_now t = omega (arith, standing.runs t, at_most_one t last, one)

    musts_now : (i : ℕ) → i < length rows → (row_at rows i).must ≡ true → now i ≡ true
    musts_now i h must =
        elim (loose_cases i (row_at rows i).must refl) [
          | inl fixed ↦ standing.kept i fixed ∙ least.proves.lawful.has_musts i h must
          | inr free ↦ (let f = free.0 in absurd (cc))
        ]

    taken_now : (i : ℕ) → i < length rows → (row_at rows i).must ≡ false → now i ≡ true → cost_of prices (row_at rows i) ≤ (row_at rows i).pay
    taken_now i h free s =
        elim (loose_cases i (row_at rows i).must refl) [
          | inl fixed ↦ tight.taken i h free (sym (standing.kept i fixed) ∙ s)
          | inr same ↦ omega (arith, same.1)
        ]

    left_now : (i : ℕ) → i < length rows → (row_at rows i).must ≡ false → now i ≡ false → (row_at rows i).pay ≤ cost_of prices (row_at rows i)
    left_now i h free s =
        elim (loose_cases i (row_at rows i).must refl) [
          | inl fixed ↦ tight.left i h free (sym (standing.kept i fixed) ∙ s)
          | inr same ↦ omega (arith, same.1)
        ]

    none_charged : All (λ p. runs_at rows now p.moment < count_of more → p.amount ≡ 0) prices
    none_charged k d b few =
        let p = get_or prices k d in
        elim (cases_lt 0 p.amount) [
          | inl some ↦ (
              let charged = charged_there prices k d b in
              let idle_none = standing.capped p.moment in
              let no_cap = cap_none p.moment (omega (arith, charged, some)) in
              let crossed = cond-true {A = ℕ} (ltb p.moment last) 1 0 (lt-ltb p.moment last (in_time k d b)) in
              absurd (omega (arith, standing.runs p.moment, idle_none, no_cap, crossed, few, one)))
          | inr none ↦ omega (arith, none)
        ]

    tight_now : AreTightPrices rows (count_of more) now prices
    tight_now = record { idle = none_charged; taken = taken_now; left = left_now }

    pays_now : pay_of rows now ≡ pay_of rows set + sum_of_prices prices
    pays_now =
        let exact = bound_from_tight rows (count_of more) now prices enough_now musts_now tight_now in
        omega (arith, ints, exact, bound_one_more)

    most_now : IsMostPaid rows more (pay_of rows set + sum_of_prices prices)
    most_now = record {
      set = now;
      lawful = record { carried = carried_from_room rows more now ordered enough_now last (λ i h. (let e = ends i h in let o = ordered i h in omega (arith, e, o))); has_musts = musts_now };
      pays = pays_now;
      best = best_more;
    }

  most_by_cases : (seen : ℕ → Bool) → Explored rows (count_of channels) set cap loose last seen → (b : Bool) → seen last ≡ b → IsMostPaid rows more (pay_of rows set + sum_of_prices prices)
  most_by_cases seen all true e = let r = all.reached last e in most_now seen r.0 r.1 r.2
  most_by_cases seen all false e =
      let closed = closed_from seen all in
      let other = lowered rows (count_of channels) set prices last ordered late enough least.proves.lawful.has_musts tight full seen closed in
      let list = lowered_list rows (count_of channels) set prices last ordered late enough least.proves.lawful.has_musts tight full seen closed in
      let exact = lowered_exact rows (count_of channels) set prices last ordered late enough least.proves.lawful.has_musts tight full seen closed in
      let less = lowered_less rows (count_of channels) set prices last ordered late enough least.proves.lawful.has_musts tight full seen closed e in
      let whole = least.whole other list (record { lawful = least.proves.lawful; exact = exact }) in
      absurd (omega (arith, whole, less, all_before prices last in_time))

  most_paid_by : IsMostPaid rows more (pay_of rows set + sum_of_prices prices)
  most_paid_by =
      let found = explored rows (count_of channels) set cap loose last ordered late enough room in
      most_by_cases found.0 found.1 (found.0 last) refl

pub most_paid : (rows : List Row) (channels more : List Bool) (prices : List Charge) (set : ℕ → Bool) → AreBookings rows → IsLeastProof rows channels prices set → count_of more ≡ count_of channels + 1 → IsMostPaid rows more (pay_of rows set + sum_of_prices prices)
most_paid rows channels more prices set bookings least one = most_paid_by rows channels more prices set bookings least one 200001 (λ i h. let b = (bookings.each i h).in_day in omega (arith, b))
