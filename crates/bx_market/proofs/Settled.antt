-- A booking of a batch that is chosen can be sold after those before it: all of them are carried together, and the day has a place for each.
use Rattle.std.proofs.Common.{◌≡◌, ℕ, suc, ◌+◌, ◌-◌, ◌<◌, ◌≤◌, Bool, true, false, true≢false, cond, leb, Option, None, List, [], ◌∷◌, ◌++◌, length, slice_index_or, Result, Ok, refl, sym, ap, ap₂, ◌∙◌, subst, arith, append_assoc, ◌⊎◌, inl, inr}
use Rattle.std.proofs.lemmas.Bool.{cases_lt, leb-true, false_from_ne_true}
use Rattle.std.proofs.lemmas.List.{append-nil, length-append, length-map, get_or_append_left, get_or-append_right, map-append}
use Rattle.bx_base.specs.Bookings.{Row, row_at, AreBookings}
use Rattle.bx_base.specs.Sums.{sum_below}
use Rattle.bx_base.proofs.SumLemmas.{sum_below-le, sum_below-more, sum_below-next}
use Rattle.bx_colour.specs.Beside.{marks_beside}
use Rattle.bx_colour.specs.Colouring.{is_in, running_at, FitsChannels}
use Rattle.bx_day.specs.Day.{Day}
use Rattle.bx_day.specs.declared.entry.Entry.{Entry}
use Rattle.bx_live.specs.declared.world.CannotLog.{CannotLog}
use Rattle.bx_planner.proofs.AllMusts.{short_sum}
use Rattle.bx_sales.specs.Selling.{rows_of, marks_of, rows_with, marks_with, IsSold}
use Rattle.bx_sales.specs.Sold.{AreSoldInTurn}
use Rattle.bx_sales.specs.GoingOn.{own_of, FitsBeside}
use Rattle.bx_sales.proofs.InTurn.{sold_rows, sold_marks}
use Rattle.bx_sales.specs.declared.selling.NoSale.TheVariants.{Late, Full, NoChannel, TookOver, Memory}
use Rattle.bx_market.specs.declared.market.Answer.{Answer}
use Rattle.bx_market.specs.declared.market.Answer.TheVariants.{Accepted, Refused}
use Rattle.bx_market.specs.Answers.{answer_at, IsToldOf, AreTold}
use Rattle.bx_market.specs.Choices.{eligible_marks, is_eligible, IsBestBatch, HasNoRoom}
use Rattle.bx_sales.specs.declared.tag.Tag.{Tag}
use Rattle.bx_market.specs.Deals.{Deal, sold_of}
use Rattle.bx_market.specs.Offers.{IsOffered, IsOfferSettled, why_not}
use Rattle.bx_market.proofs.Batches.{sold_none, sold_more, sold_same}
use Rattle.bx_market.proofs.Totals.{pays_more, total, all_of, runs, one, sum_below-first, marked-total, total-append, running_total}
use Rattle.bx_market.proofs.Eligible.{eligible_later, eligible_places}
use Rattle.bx_market.proofs.BestBatch.{counted, counted_count, beside_is}
use Rattle.bx_market.proofs.Chosen.{all_count}
use Rattle.bx_market.proofs.OwnStays.{own_sold, same_beside}

abbrev pub as_result : Answer → Result Answer CannotLog
as_result a = Ok a

-- ---- what is sold is among what is chosen

pub sold_upto : (f : Row → ℕ) (batch : List Row) (answers : List Answer) (set : ℕ → Bool) → ((i : ℕ) → i < length answers → answer_at answers i ≡ Accepted → set i ≡ true) → total f (sold_of batch answers) (all_of (sold_of batch answers)) ≤ sum_below (length answers) (λ i. cond (set i) (f (row_at batch i)) 0)
sold_upto f [] answers set each = omega arith
sold_upto f (row ∷ batch) [] set each = omega arith
sold_upto f (row ∷ batch) (Accepted ∷ answers) set each =
    let rest = sold_upto f batch answers (λ i. set (suc i)) (λ i lt. each (suc i) (omega (arith, lt))) in
    let peeled : sum_below (suc (length answers)) (λ i. cond (set i) (f (row_at (row ∷ batch) i)) 0) ≡ cond (set 0) (f row) 0 + sum_below (length answers) (λ i. cond (set (suc i)) (f (row_at batch i)) 0) = sum_below-first (length answers) (λ i. cond (set i) (f (row_at (row ∷ batch) i)) 0) in
    let here : cond (set 0) (f row) 0 ≡ f row = ap (λ (b : Bool). cond b (f row) 0) (each 0 (omega arith) refl) in
    omega (arith, rest, peeled, here)
sold_upto f (row ∷ batch) (Refused why ∷ answers) set each =
    let rest = sold_upto f batch answers (λ i. set (suc i)) (λ i lt. each (suc i) (omega (arith, lt))) in
    let peeled : sum_below (suc (length answers)) (λ i. cond (set i) (f (row_at (row ∷ batch) i)) 0) ≡ cond (set 0) (f row) 0 + sum_below (length answers) (λ i. cond (set (suc i)) (f (row_at batch i)) 0) = sum_below-first (length answers) (λ i. cond (set i) (f (row_at (row ∷ batch) i)) 0) in
    omega (arith, rest, peeled)

ones : (rows : List Row) → total one rows (all_of rows) ≡ length rows
ones [] = refl
ones (row ∷ rows) = let rest = ones rows in omega (arith, rest)

-- ---- no room beside a best choice

pays_one_more : (a b : Bool) (pay : ℕ) → a ≡ false → b ≡ true → 1 ≤ pay → cond a pay 0 + 1 ≤ cond b pay 0
pays_one_more false true pay h k paid = omega (arith, paid)
pays_one_more true b pay h k paid = absurd (true≢false h)
pays_one_more false false pay h k paid = absurd (true≢false (sym k))

-- the day where the first of the batch are settled
pub record AreSettled (channels : List Bool) (d : Day) (batch : List Row) (chosen : List Bool) (d1 : Day) (answers : List Answer) : Type 0 where
  pub rows : rows_of d1 ≡ rows_of d ++ sold_of batch answers
  pub marks : marks_of d1 ≡ marks_of d ++ all_of (sold_of batch answers)
  pub moment : d1.moment ≡ d.moment
  pub maintenance : d1.maintenance ≡ d.maintenance
  pub own : (i : ℕ) → slice_index_or (own_of d1) i None ≡ slice_index_or (own_of d) i None
  pub went : AreSoldInTurn channels (sold_of batch answers) d d1
  pub each : (i : ℕ) → i < length answers → IsToldOf channels d batch chosen i (is_in chosen i) (answer_at answers i)

-- one sale after others
one_more_sold : (channels : List Bool) (rows : List Row) (row : Row) (d d1 d2 : Day) → AreSoldInTurn channels rows d d1 → IsSold channels row d1 d2 → AreSoldInTurn channels (rows ++ row ∷ []) d d2
one_more_sold channels [] row d d1 d2 same s = (d2, subst (λ (x : Day). IsSold channels row x d2) same s, refl)
one_more_sold channels (r ∷ rows) row d d1 d2 (next, first, rest) s = (next, first, one_more_sold channels rows row next d1 d2 rest s)

-- nothing is settled yet
pub none_settled : (channels : List Bool) (d : Day) (batch : List Row) (chosen : List Bool) (answers : List Answer) → answers ≡ [] → AreSettled channels d batch chosen d answers
none_settled channels d batch chosen answers none =
    let sold : sold_of batch answers ≡ [] = ap (sold_of batch) none ∙ sold_none batch in record {
      rows = sym (ap (λ (rs : List Row). rows_of d ++ rs) sold ∙ append-nil (rows_of d));
      marks = sym (ap (λ (rs : List Row). marks_of d ++ all_of rs) sold ∙ append-nil (marks_of d));
      moment = refl;
      maintenance = refl;
      own = λ i. refl;
      went = subst (λ (rs : List Row). AreSoldInTurn channels rs d d) (sym sold) refl;
      each = λ i lt. let n = ap length none in absurd (omega (arith, lt, n));
    }

module _ (channels : List Bool) (d : Day) (batch : List Row) (chosen : List Bool) (best : IsBestBatch channels d batch chosen) where
  no_room : AreBookings batch → (i : ℕ) → i < length batch → is_in chosen i ≡ false → HasNoRoom channels d batch chosen i
  no_room bookings i lt out other choice has = false_from_ne_true (is_in other i) (λ in_it.
      let most = best.best other choice in
      let more = short_sum (length batch) (λ k. cond (is_in chosen k) (row_at batch k).pay 0) (λ k. cond (is_in other k) (row_at batch k).pay 0) i 1
      (λ k inside. pays_more (is_in chosen k) (is_in other k) (row_at batch k).pay (has k)) lt
      (pays_one_more (is_in chosen i) (is_in other i) (row_at batch i).pay out in_it (bookings.each i lt).paid) in
      omega (arith, most, more))

  accepted_chosen : (i : ℕ) (b : Bool) (a : Answer) → IsToldOf channels d batch chosen i b a → a ≡ Accepted → b ≡ true
  accepted_chosen i true a told e = refl
  accepted_chosen i false Accepted told e = absurd told
  accepted_chosen i false (Refused why) told e = cc

  module _ (d1 : Day) (answers : List Answer) (settled : AreSettled channels d batch chosen d1 answers) (i : ℕ) (at : length answers ≡ i) (lt : i < length batch) where
    abbrev sold : List Row
    sold = sold_of batch answers

    sold_before : (f : Row → ℕ) → total f sold (all_of sold) ≤ sum_below i (λ k. cond (is_in chosen k) (f (row_at batch k)) 0)
    sold_before f =
        let upto = sold_upto f batch answers (is_in chosen) (λ k inside told. accepted_chosen k (is_in chosen k) (answer_at answers k) (settled.each k inside) told) in
        subst (λ (n : ℕ). total f sold (all_of sold) ≤ sum_below n (λ k. cond (is_in chosen k) (f (row_at batch k)) 0)) at upto

    module _ (in_choice : is_in chosen i ≡ true) where
      with_this : (f : Row → ℕ) → total f sold (all_of sold) + f (row_at batch i) ≤ total f batch chosen
      with_this f =
          let before = sold_before f in
          let next = sum_below-next i (λ k. cond (is_in chosen k) (f (row_at batch k)) 0) in
          let here : cond (is_in chosen i) (f (row_at batch i)) 0 ≡ f (row_at batch i) = ap (λ (b : Bool). cond b (f (row_at batch i)) 0) in_choice in
          let all = sum_below-more (i + 1) (length batch) (λ k. cond (is_in chosen k) (f (row_at batch k)) 0) (omega (arith, lt)) in
          let sum : sum_below (length batch) (λ k. cond (is_in chosen k) (f (row_at batch k)) 0) ≡ total f batch chosen = marked-total f batch chosen in
          omega (arith, before, next, here, all, sum)

      -- what counts on the day where this one is offered
      next_counted : marks_beside (own_of d1) channels (marks_with d1) ≡ (counted channels d ++ all_of sold) ++ true ∷ []
      next_counted =
          same_beside (own_of d) (own_of d1) channels (marks_with d1) settled.own
          ∙ ap (λ (ms : List Bool). marks_beside (own_of d) channels (ms ++ true ∷ [])) settled.marks
          ∙ ap (marks_beside (own_of d) channels) (append_assoc (marks_of d) (all_of sold) (true ∷ []))
          ∙ beside_is channels d (all_of sold ++ true ∷ [])
          ∙ sym (append_assoc (counted channels d) (all_of sold) (true ∷ []))

      -- it fits
      next_fits : FitsBeside channels d1 (rows_with d1 (row_at batch i)) (marks_with d1)
      next_fits =
          let row = row_at batch i in
          let count = subst (λ (ms : List Bool). FitsChannels (rows_of d ++ batch) ms channels) (beside_is channels d chosen) (best.fits i in_choice) in
          let each = counted_count channels d in
          subst (λ (ms : List Bool). FitsChannels (rows_with d1 row) ms channels) (sym next_counted) (record {
            one_each = (
                let a = length-append (counted channels d ++ all_of sold) (true ∷ []) in
                let b = length-append (rows_of d1) (row ∷ []) in
                let k = length-append (counted channels d) (all_of sold) in
                let n = all_count sold in
                let r = ap length settled.rows in
                let m = length-append (rows_of d) sold in
                omega (arith, a, b, k, n, r, m, each));
            enough = λ t.
                let f = runs t in
                let counts = all_count sold in
                let now = (counted channels d ++ all_of sold) ++ true ∷ [] in
                let lengths : length (counted channels d ++ all_of sold) ≡ length (rows_of d ++ sold) = (let a = length-append (counted channels d) (all_of sold) in let b = length-append (rows_of d) sold in omega (arith, a, b, counts, each)) in
                let rows : running_at (rows_with d1 row) now t ≡ total f (rows_with d1 row) now = running_total (rows_with d1 row) now t in
                let same : total f (rows_with d1 row) now ≡ total f ((rows_of d ++ sold) ++ row ∷ []) now = ap (λ (rs : List Row). total f (rs ++ row ∷ []) now) settled.rows in
                let last = total-append f (rows_of d ++ sold) (row ∷ []) (counted channels d ++ all_of sold) (true ∷ []) lengths in
                let inner = total-append f (rows_of d) sold (counted channels d) (all_of sold) each in
                let outer : running_at (rows_of d ++ batch) (counted channels d ++ chosen) t ≡ total f (rows_of d) (counted channels d) + total f batch chosen = running_total (rows_of d ++ batch) (counted channels d ++ chosen) t ∙ total-append f (rows_of d) batch (counted channels d) chosen each in
                let most = count.enough t in
                let all = with_this f in
                omega (arith, rows, same, last, inner, outer, most, all);
          })

      -- and has a place
      next_has_place : length d1.entries < 16000
      next_has_place =
          let places = eligible_places d.moment (length d.entries) batch i (best.eligible i in_choice) in
          let few = sum_below-le i (λ k. cond (is_in chosen k) 1 0) (λ k. cond (is_in (eligible_marks d.moment (length d.entries) batch) k) 1 0) (λ k inside. pays_more (is_in chosen k) (is_in (eligible_marks d.moment (length d.entries) batch) k) 1 (best.eligible k)) in
          let before = sold_before one in
          let count = ones sold in
          let now : length d1.entries ≡ length (rows_of d1) = sym (length-map d1.entries (λ (e : Entry). e.booking)) in
          let was : length d.entries ≡ length (rows_of d) = sym (length-map d.entries (λ (e : Entry). e.booking)) in
          let rows = ap length settled.rows in
          let sum = length-append (rows_of d) sold in
          omega (arith, places, few, before, count, now, was, rows, sum)

      told_chosen : (d2 : Day) (a : Answer) → IsOfferSettled channels (row_at batch i) d1 d2 (Ok a) → IsToldOf channels d batch chosen i true a
      told_chosen d2 (Refused Late) s = let later = eligible_later d.moment (length d.entries) batch i (best.eligible i in_choice) in absurd (omega (arith, s, later, settled.moment))
      told_chosen d2 (Refused Full) s = absurd (omega (arith, s, next_has_place))
      told_chosen d2 (Refused NoChannel) s = absurd (s next_fits)
      told_chosen d2 (Refused TookOver) s = record { sold = sold; now = d1; went = settled.went; other = s }
      told_chosen d2 a s = tt

    told_left_out : AreBookings batch → (is_in chosen i ≡ false) → (late eligible : Bool) → leb (row_at batch i).start d1.moment ≡ late → is_eligible d batch i ≡ eligible → IsToldOf channels d batch chosen i false (Refused (cond late Late (cond eligible NoChannel Full)))
    told_left_out bookings out true eligible late e = (let le = leb-true (row_at batch i).start d1.moment late in omega (arith, le, settled.moment))
    told_left_out bookings out false true late e = (e, no_room bookings i lt out)
    told_left_out bookings out false false late e = (before late, e) where
      before : leb (row_at batch i).start d1.moment ≡ false → d.moment < (row_at batch i).start
      before h = grind (arith, h, settled.moment)

    pub told_next : AreBookings batch → (d2 : Day) (a : Answer) (b : Bool) → is_in chosen i ≡ b → (b ≡ true → IsOfferSettled channels (row_at batch i) d1 d2 (Ok a)) → (b ≡ false → as_result a ≡ as_result (Refused (why_not d1.moment (row_at batch i) (is_eligible d batch i)))) → IsToldOf channels d batch chosen i b a
    told_next bookings d2 a true e chosen_so left_out = told_chosen e d2 a (chosen_so refl)
    told_next bookings d2 a false e chosen_so left_out =
        let is : a ≡ Refused (why_not d1.moment (row_at batch i) (is_eligible d batch i)) = cc (left_out refl) in
        subst (λ (x : Answer). IsToldOf channels d batch chosen i false x) (sym is) (told_left_out bookings e (leb (row_at batch i).start d1.moment) (is_eligible d batch i) refl refl)

    -- the day after this booking
    abbrev pub IsFollowing : Day → Answer → Type 0
    IsFollowing d2 Accepted = IsSold channels (row_at batch i) d1 d2
    IsFollowing d2 (Refused why) = d2 ≡ d1

    rows_next : (d2 : Day) (a : Answer) → IsFollowing d2 a → rows_of d2 ≡ rows_of d ++ sold_of batch (answers ++ a ∷ [])
    rows_next d2 Accepted s =
        let more = sold_more batch answers (omega (arith, at, lt)) ∙ ap (λ (k : ℕ). sold ++ row_at batch k ∷ []) at in
        sold_rows channels (row_at batch i) d1 d2 s ∙ (ap (λ (rs : List Row). rs ++ row_at batch i ∷ []) settled.rows ∙ (append_assoc (rows_of d) sold (row_at batch i ∷ []) ∙ ap (λ (rs : List Row). rows_of d ++ rs) (sym more)))
    rows_next d2 (Refused why) s = ap rows_of s ∙ (settled.rows ∙ ap (λ (rs : List Row). rows_of d ++ rs) (sym (sold_same batch answers why)))

    marks_next : (d2 : Day) (a : Answer) → IsFollowing d2 a → marks_of d2 ≡ marks_of d ++ all_of (sold_of batch (answers ++ a ∷ []))
    marks_next d2 Accepted s =
        let more = sold_more batch answers (omega (arith, at, lt)) ∙ ap (λ (k : ℕ). sold ++ row_at batch k ∷ []) at in
        sold_marks channels (row_at batch i) d1 d2 s ∙ (ap (λ (ms : List Bool). ms ++ true ∷ []) settled.marks ∙ (append_assoc (marks_of d) (all_of sold) (true ∷ []) ∙ ap (λ (ms : List Bool). marks_of d ++ ms) (sym (ap all_of more ∙ map-append (λ (row : Row). true) sold (row_at batch i ∷ [])))))
    marks_next d2 (Refused why) s = ap marks_of s ∙ (settled.marks ∙ ap (λ (rs : List Row). marks_of d ++ all_of rs) (sym (sold_same batch answers why)))

    went_next : (d2 : Day) (a : Answer) → IsFollowing d2 a → AreSoldInTurn channels (sold_of batch (answers ++ a ∷ [])) d d2
    went_next d2 Accepted s =
        let more = sold_more batch answers (omega (arith, at, lt)) ∙ ap (λ (k : ℕ). sold ++ row_at batch k ∷ []) at in
        subst (λ (rs : List Row). AreSoldInTurn channels rs d d2) (sym more) (one_more_sold channels sold (row_at batch i) d d1 d2 settled.went s)
    went_next d2 (Refused why) s = subst (λ (x : Day). AreSoldInTurn channels (sold_of batch (answers ++ Refused why ∷ [])) d x) (sym s) (subst (λ (rs : List Row). AreSoldInTurn channels rs d d1) (sym (sold_same batch answers why)) settled.went)

    maintenance_next : (d2 : Day) (a : Answer) → IsFollowing d2 a → d2.maintenance ≡ d1.maintenance
    maintenance_next d2 Accepted s = ap (λ (x : Day). x.maintenance) s.gone_on.day
    maintenance_next d2 (Refused why) s = ap (λ (x : Day). x.maintenance) s

    own_next : (d2 : Day) (a : Answer) → IsFollowing d2 a → (k : ℕ) → slice_index_or (own_of d2) k None ≡ slice_index_or (own_of d1) k None
    own_next d2 Accepted s k = own_sold channels (row_at batch i) d1 d2 s k
    own_next d2 (Refused why) s k = ap (λ (x : Day). slice_index_or (own_of x) k None) s

    pub settled_next : (d2 : Day) (a : Answer) → d2.moment ≡ d1.moment → IsToldOf channels d batch chosen i (is_in chosen i) a → IsFollowing d2 a → AreSettled channels d batch chosen d2 (answers ++ a ∷ [])
    settled_next d2 a moment told following = record {
      rows = rows_next d2 a following;
      marks = marks_next d2 a following;
      moment = moment ∙ settled.moment;
      maintenance = maintenance_next d2 a following ∙ settled.maintenance;
      own = λ k. own_next d2 a following k ∙ settled.own k;
      went = went_next d2 a following;
      each = λ k inside. each k inside (cases_lt k i);
    } where
      each : (k : ℕ) → k < length (answers ++ a ∷ []) → (k < i) ⊎ (i ≤ k) → IsToldOf channels d batch chosen k (is_in chosen k) (answer_at (answers ++ a ∷ []) k)
      each k inside (inl before) = subst (IsToldOf channels d batch chosen k (is_in chosen k)) (sym (get_or_append_left answers (a ∷ []) (Refused Memory) k (omega (arith, before, at)))) (settled.each k (omega (arith, before, at)))
      each k inside (inr after_it) =
          let n = length-append answers (a ∷ []) in
          let here : i ≡ k = omega (arith, inside, n, after_it, at) in
          let is : answer_at (answers ++ a ∷ []) i ≡ a = get_or-append_right answers (a ∷ []) i i (Refused Memory) at (omega arith) ∙ (let z : i - i ≡ 0 = omega arith in ap (answer_at (a ∷ [])) z) in
          subst (λ (j : ℕ). IsToldOf channels d batch chosen j (is_in chosen j) (answer_at (answers ++ a ∷ []) j)) here (subst (IsToldOf channels d batch chosen i (is_in chosen i)) (sym is) told)

    -- so it is, by what is known of the booking
    pub after_of : {W : Type 0} (dealt : W → List Deal → W → Type 0) (whole : List Bool) (tag : Option Tag) (u v : W) (d2 : Day) (a : Answer) (b : Bool) → IsToldOf channels d batch chosen i b a → (b ≡ true → IsOfferSettled channels (row_at batch i) d1 d2 (Ok a)) → IsOffered dealt whole tag u v d batch sold (row_at batch i) d1 d2 (Ok a) → IsFollowing d2 a
    after_of dealt whole tag u v d2 Accepted true told settled_so offered = settled_so refl
    after_of dealt whole tag u v d2 Accepted false told settled_so offered = absurd told
    after_of dealt whole tag u v d2 (Refused why) b told settled_so offered = offered.1

    -- one booking more is settled
    pub step : AreBookings batch → {W : Type 0} (dealt : W → List Deal → W → Type 0) (whole : List Bool) (tag : Option Tag) (u v : W) (d2 : Day) (a : Answer) (row : Row) (eligible is_chosen : Bool) → row ≡ row_at batch i → eligible ≡ is_eligible d batch i → is_chosen ≡ is_in chosen i → d2.moment ≡ d1.moment
        → IsOffered dealt whole tag u v d batch (sold_of batch answers) row d1 d2 (Ok a) → (is_chosen ≡ true → IsOfferSettled channels row d1 d2 (Ok a)) → (is_chosen ≡ false → as_result a ≡ as_result (Refused (why_not d1.moment row eligible))) → AreSettled channels d batch chosen d2 (answers ++ a ∷ [])
    step bookings dealt whole tag u v d2 a row eligible is_chosen row_is eligible_is chosen_is moment offered settled_so left_out =
        let so : is_in chosen i ≡ true → IsOfferSettled channels (row_at batch i) d1 d2 (Ok a) = λ h. subst (λ (r : Row). IsOfferSettled channels r d1 d2 (Ok a)) row_is (settled_so (chosen_is ∙ h)) in
        let left : is_in chosen i ≡ false → as_result a ≡ as_result (Refused (why_not d1.moment (row_at batch i) (is_eligible d batch i))) = λ h. left_out (chosen_is ∙ h) ∙ ap₂ (λ (r : Row) (e : Bool). as_result (Refused (why_not d1.moment r e))) row_is eligible_is in
        let told = told_next bookings d2 a (is_in chosen i) refl so left in
        settled_next d2 a moment told (after_of dealt whole tag u v d2 a (is_in chosen i) told so (subst (λ (r : Row). IsOffered dealt whole tag u v d batch (sold_of batch answers) r d1 d2 (Ok a)) row_is offered))

  -- all are settled
  pub all_told : (d1 : Day) (answers : List Answer) → AreSettled channels d batch chosen d1 answers → length answers ≡ length batch → AreTold channels d batch answers
  all_told d1 answers settled count = inl (record { chosen = chosen; best = best; one_each = count; each = λ i lt. settled.each i (omega (arith, count, lt)) })
