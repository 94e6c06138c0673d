-- Bookings that are sold in one step are sold in turn: of the first of them there is a colouring beside what has begun, as there is of all.
use Rattle.std.proofs.Common.{◌≡◌, ℕ, suc, ◌<◌, ◌≤◌, ◌&&◌, Bool, true, false, cond, List, [], ◌∷◌, ◌++◌, length, replicate, Option, Some, None, arith, refl, sym, subst, ap, ap₂, ◌∙◌, slice_index_or, append_assoc}
use Rattle.std.proofs.lemmas.List.{length-append, length-replicate, length-map, get_or_append_left}
use Rattle.bx_base.specs.Bookings.{Row, row_at, no_row, is_running, IsBooking, AreBookings}
use Rattle.bx_base.specs.Channels.{IsChannelSet, has_channel}
use Rattle.bx_base.specs.Sums.{sum_below}
use Rattle.bx_base.proofs.SumLemmas.{sum_below-same, sum_below-more}
use Rattle.bx_colour.specs.Beside.{counts_on, marks_beside}
use Rattle.bx_colour.specs.ChangedRows.{IsFirstFitAmong, choice_of, choices_of, AreChoicesIn}
use Rattle.bx_colour.specs.Colouring.{FitsChannels, IsGiven, is_in}
use Rattle.bx_colour.proofs.OutcomeAmong.{carries}
use Rattle.bx_day.specs.Changed.{changed, AgreesWith, AreReferredByRow}
use Rattle.bx_day.specs.Day.{Day, entry_at}
use Rattle.bx_day.specs.Reading.{Seated}
use Rattle.bx_day.specs.Restoring.{IsState}
use Rattle.bx_day.proofs.Once.{each_at}
use Rattle.bx_sales.specs.GoingOn.{own_at, own_of, KeepsBegun, GoesOnBeside, FitsBeside}
use Rattle.bx_sales.specs.Selling.{rows_of, marks_of, rows_with, marks_with, IsSold}
use Rattle.bx_sales.specs.SellingAll.{AreLater, rows_and, marks_and}
use Rattle.bx_sales.specs.Sold.{AreSoldInTurn}
use Rattle.bx_sales.proofs.Again.{own_same, referred_there, changed_twice, keeps_then}
use Rattle.bx_sales.proofs.Beside.{own_begun, begun_accepted, begun_apart, agrees_beside}
use Rattle.bx_sales.proofs.FoundBeside.{found_beside}
use Rattle.bx_sales.proofs.GoneOn.{rows_then, marks_then}
use Rattle.bx_sales.proofs.Keeping.{keeps_and, count_and}
use Rattle.bx_sales.proofs.Places.{rows_size, marks_size, nothing_more, joined}

-- ---- the first of more bookings

fewer_fit : (channels : List Bool) (rows more : List Row) (marks others : List Bool) → length marks ≡ length rows → FitsChannels (rows ++ more) (marks ++ others) channels → FitsChannels rows marks channels
fewer_fit channels rows more marks others count fits = record {
  one_each = count;
  enough = λ moment.
      let f : ℕ → ℕ = λ i. cond (is_in marks i && is_running (row_at rows i) moment) 1 0 in
      let g : ℕ → ℕ = λ i. cond (is_in (marks ++ others) i && is_running (row_at (rows ++ more) i) moment) 1 0 in
      let same : sum_below (length rows) f ≡ sum_below (length rows) g = sum_below-same (length rows) f g (λ i lt.
      ap₂ (λ (m : Bool) (r : Row). cond {A = ℕ} (m && is_running r moment) 1 0) (sym (get_or_append_left marks others false i (omega (arith, lt, count)))) (sym (get_or_append_left rows more no_row i lt))) in
      let size = length-append rows more in
      let fewer : sum_below (length rows) g ≤ sum_below (length (rows ++ more)) g = sum_below-more (length rows) (length (rows ++ more)) g (omega (arith, size)) in
      let most : sum_below (length (rows ++ more)) g ≤ _ = fits.enough moment in
      omega (arith, same, fewer, most);
}

fewer_bookings : (rows more : List Row) → AreBookings (rows ++ more) → AreBookings rows
fewer_bookings rows more b =
    let size = length-append rows more in
    record {
      few = (let few = b.few in omega (arith, size, few));
      each = λ i lt. subst IsBooking (get_or_append_left rows more no_row i lt) (b.each i (omega (arith, lt, size)));
    }

-- more marks behind those of what may have a channel of its own
beside_more : (own : List (Option ℕ)) (channels marks more : List Bool) → length own ≡ length marks → marks_beside own channels (marks ++ more) ≡ marks_beside own channels marks ++ more
beside_more [] channels [] more count = refl
beside_more [] channels (m ∷ marks) more count = absurd (omega (arith, count))
beside_more (o ∷ own) channels [] more count = absurd (omega (arith, count))
beside_more (o ∷ own) channels (m ∷ marks) more count = ap (λ (l : List Bool). (m && counts_on channels o) ∷ l) (beside_more own channels marks more (omega (arith, count)))

beside_size : (own : List (Option ℕ)) (channels marks : List Bool) → length own ≡ length marks → length (marks_beside own channels marks) ≡ length marks
beside_size [] channels marks count = refl
beside_size (o ∷ own) channels [] count = absurd (omega (arith, count))
beside_size (o ∷ own) channels (m ∷ marks) count = ap suc (beside_size own channels marks (omega (arith, count)))

marks_split : (xs ys : List Row) → replicate (length (xs ++ ys)) true ≡ replicate (length xs) true ++ replicate (length ys) true
marks_split [] ys = refl
marks_split (x ∷ xs) ys = ap (λ (l : List Bool). true ∷ l) (marks_split xs ys)

-- the same channels to choose from, place by place
fit_from : (rows : List Row) (own own' : List (Option ℕ)) (channels marks : List Bool) (assigned : List (Option ℕ)) → ((i : ℕ) → slice_index_or own' i None ≡ slice_index_or own i None) → IsFirstFitAmong rows (choices_of own channels) marks assigned → IsFirstFitAmong rows (choices_of own' channels) marks assigned
fit_from rows own own' channels marks assigned same fit = record {
  one_each = fit.one_each;
  given = λ i lt marked. subst (λ (o : Option ℕ). IsGiven rows (choice_of o channels) assigned i) (sym (same i)) (fit.given i lt marked);
  refused = fit.refused;
}

choices_from : (service : List Bool) (own own' : List (Option ℕ)) (channels : List Bool) → ((i : ℕ) → slice_index_or own' i None ≡ slice_index_or own i None) → AreChoicesIn service own channels → AreChoicesIn service own' channels
choices_from service own own' channels same inside i c has = inside i c (subst (λ (o : Option ℕ). has_channel (choice_of o channels) c ≡ true) (same i) has)

-- ---- a day on the way

module _ (d : Day) (x : IsState d) where
  -- some of them are sold: what has begun is the same, and whatever day comes next might have come at once
  record IsReached (done : List Row) (now : Day) : Type 0 where
    rows : rows_of now ≡ rows_and d done
    marks : marks_of now ≡ marks_and d done
    moment : now.moment ≡ d.moment
    own : (i : ℕ) → slice_index_or (own_of now) i None ≡ slice_index_or (own_of d) i None
    keeps : (rows' : List Row) (marks' : List Bool) → length (rows_and d done) ≤ length rows' → KeepsBegun d rows' marks' → KeepsBegun now rows' marks'
    again : (rows' : List Row) (assigned' : List (Option ℕ)) → length (rows_and d done) ≤ length rows' → changed rows' assigned' now ≡ changed rows' assigned' d
    referred : AreReferredByRow d.entries → AreReferredByRow now.entries

  at_first : IsReached [] d
  at_first = record {
    rows = sym (nothing_more (rows_of d));
    marks = sym (nothing_more (marks_of d));
    moment = refl;
    own = λ i. refl;
    keeps = λ rows' marks' le keeps. keeps;
    again = λ rows' assigned' le. refl;
    referred = λ by_row. by_row;
  }

  -- numbers of channels
  numbers : (i c : ℕ) → slice_index_or (own_of d) i None ≡ Some c → c < 32
  numbers i c q =
      let b = own_begun d i c q in
      let seat = each_at Seated d.entries i b.0 x.exchange.seated in
      let is = seat.channel (begun_accepted _ (entry_at d.entries i).standing b.1) in
      let same = b.2 in
      let top = is.1 in
      omega (arith, same, top)

  module _ (channels : List Bool) (set : IsChannelSet channels) (by_row : AreReferredByRow d.entries) (service : List Bool) (inside : AreChoicesIn service (own_of d) channels) where
    -- a colouring of the first of them
    record IsColoured (done : List Row) (assigned : List (Option ℕ)) : Type 0 where
      later : AreLater d.moment done
      bookings : AreBookings (rows_and d done)
      fit : IsFirstFitAmong (rows_and d done) (choices_of (own_of d) channels) (marks_and d done) assigned

    -- the day with these
    abbrev with_these : List Row → List (Option ℕ) → Day
    with_these done assigned = changed (rows_and d done) assigned d

    module _ (done : List Row) (assigned : List (Option ℕ)) (c : IsColoured done assigned) where
      all_keep : KeepsBegun d (rows_and d done) (marks_and d done)
      all_keep = keeps_and d x done c.later

      agrees : AgreesWith d (rows_and d done) assigned
      agrees = agrees_beside d (rows_and d done) (marks_and d done) all_keep channels assigned c.fit (λ more. by_row)

      gone : GoesOnBeside channels (rows_and d done) (marks_and d done) d (with_these done assigned)
      gone = record {
        service = service;
        choices = inside;
        assigned = assigned;
        first_fit = c.fit;
        keeps = all_keep;
        change = record {
          bookings = c.bookings;
          carried = carries (rows_and d done) (choices_of (own_of d) channels) (marks_and d done) assigned (count_and d x done) c.fit service inside;
          agrees = agrees;
        };
        day = refl;
      }

      reached : IsReached done (with_these done assigned)
      reached = record {
        rows = rows_then channels (rows_and d done) (marks_and d done) d (with_these done assigned) (count_and d x done) gone;
        marks = marks_then channels (rows_and d done) (marks_and d done) d (with_these done assigned) (count_and d x done) gone;
        moment = refl;
        own = own_same d x.ahead channels (rows_and d done) (marks_and d done) assigned all_keep c.fit agrees;
        keeps = λ rows' marks' le keeps. keeps_then d x.ahead channels (rows_and d done) (marks_and d done) assigned all_keep c.fit agrees rows' le marks' keeps;
        again = λ rows' assigned' le. changed_twice d x.ahead channels (rows_and d done) (marks_and d done) assigned all_keep c.fit agrees rows' le assigned';
        referred = referred_there d x.ahead channels (rows_and d done) (marks_and d done) assigned all_keep c.fit agrees x.exchange.numbered;
      }

    -- one more is sold on a day that was reached
    module _ (done : List Row) (row : Row) (now : Day) (here : IsReached done now) (assigned : List (Option ℕ)) (c : IsColoured (done ++ row ∷ []) assigned) where
      abbrev more : List Row
      more = done ++ row ∷ []

      rows_more : rows_with now row ≡ rows_and d more
      rows_more = ap (λ (rs : List Row). rs ++ row ∷ []) here.rows ∙ append_assoc (rows_of d) done (row ∷ [])

      marks_more : marks_with now ≡ marks_and d more
      marks_more =
          ap (λ (ms : List Bool). ms ++ true ∷ []) here.marks ∙ append_assoc (marks_of d) (replicate (length done) true) (true ∷ [])
          ∙ ap (λ (ms : List Bool). marks_of d ++ ms) (sym (marks_split done (row ∷ [])))

      longer : length (rows_and d done) ≤ length (rows_and d more)
      longer =
          let a = length-append (rows_of d) done in
          let b = length-append (rows_of d) more in
          let n = length-append done (row ∷ []) in
          omega (arith, a, b, n)

      keeps_more : KeepsBegun now (rows_and d more) (marks_and d more)
      keeps_more = here.keeps (rows_and d more) (marks_and d more) longer (keeps_and d x more c.later)

      fit_more : IsFirstFitAmong (rows_and d more) (choices_of (own_of now) channels) (marks_and d more) assigned
      fit_more = fit_from (rows_and d more) (own_of d) (own_of now) channels (marks_and d more) assigned here.own c.fit

      goes : GoesOnBeside channels (rows_and d more) (marks_and d more) now (with_these more assigned)
      goes = record {
        service = service;
        choices = choices_from service (own_of d) (own_of now) channels here.own inside;
        assigned = assigned;
        first_fit = fit_more;
        keeps = keeps_more;
        change = record {
          bookings = c.bookings;
          carried = carries (rows_and d more) (choices_of (own_of d) channels) (marks_and d more) assigned (count_and d x more) c.fit service inside;
          agrees = agrees_beside now (rows_and d more) (marks_and d more) keeps_more channels assigned fit_more (λ shorter. here.referred by_row);
        };
        day = sym (here.again (rows_and d more) assigned longer);
      }

      row_later : now.moment < row.start
      row_later =
          let n = length-append done (row ∷ []) in
          let last : length done < length more = omega (arith, n) in
          let early = c.later (length done) last in
          let start = ap (λ (r : Row). r.start) (last_row done row) in
          let same = here.moment in
          omega (arith, early, start, same)
        where
          last_row : (rows : List Row) (r : Row) → row_at (rows ++ r ∷ []) (length rows) ≡ r
          last_row [] r = refl
          last_row (y ∷ rows) r = last_row rows r

      one_sold : IsSold channels row now (with_these more assigned)
      one_sold = record {
        later = row_later;
        gone_on = subst (λ ms. GoesOnBeside channels (rows_with now row) ms now (with_these more assigned)) (sym marks_more)
            (subst (λ rs. GoesOnBeside channels rs (marks_and d more) now (with_these more assigned)) (sym rows_more) goes);
      }

    -- ---- of the first of them there is a colouring

    module _ (done rest : List Row) (later : AreLater d.moment (done ++ rest)) (bookings : AreBookings (rows_and d (done ++ rest))) (fits : FitsBeside channels d (rows_and d (done ++ rest)) (marks_and d (done ++ rest))) where
      first_later : AreLater d.moment done
      first_later i lt =
          let n = length-append done rest in
          let early = later i (omega (arith, lt, n)) in
          let start = ap (λ (r : Row). r.start) (get_or_append_left done rest no_row i lt) in
          omega (arith, early, start)

      first_bookings : AreBookings (rows_and d done)
      first_bookings = fewer_bookings (rows_and d done) rest (subst AreBookings (sym (append_assoc (rows_of d) done rest)) bookings)

      own_count : length (own_of d) ≡ length (marks_of d)
      own_count = length-map d.entries (own_at d.moment) ∙ sym (marks_size d)

      beside_and : (more : List Row) → marks_beside (own_of d) channels (marks_and d more) ≡ marks_beside (own_of d) channels (marks_of d) ++ replicate (length more) true
      beside_and more = beside_more (own_of d) channels (marks_of d) (replicate (length more) true) own_count

      first_fits : FitsBeside channels d (rows_and d done) (marks_and d done)
      first_fits =
          let own = marks_beside (own_of d) channels (marks_of d) in
          let split : marks_beside (own_of d) channels (marks_and d (done ++ rest)) ≡ marks_beside (own_of d) channels (marks_and d done) ++ replicate (length rest) true =
          beside_and (done ++ rest) ∙ ap (λ (ms : List Bool). own ++ ms) (marks_split done rest) ∙ sym (append_assoc own (replicate (length done) true) (replicate (length rest) true))
          ∙ ap (λ (ms : List Bool). ms ++ replicate (length rest) true) (sym (beside_and done)) in
          let count : length (marks_beside (own_of d) channels (marks_and d done)) ≡ length (rows_and d done) =
          (let e = ap (λ (ms : List Bool). length ms) (beside_and done) in let a = length-append own (replicate (length done) true) in let b = length-replicate (length done) true in
          let k = beside_size (own_of d) channels (marks_of d) own_count in let r = length-append (rows_of d) done in let m = marks_size d in let n = rows_size d in omega (arith, e, a, b, k, r, m, n)) in
          fewer_fit channels (rows_and d done) rest (marks_beside (own_of d) channels (marks_and d done)) (replicate (length rest) true) count
          (subst (λ rs. FitsChannels rs (marks_beside (own_of d) channels (marks_and d done) ++ replicate (length rest) true) channels) (sym (append_assoc (rows_of d) done rest))
          (subst (λ ms. FitsChannels (rows_and d (done ++ rest)) ms channels) split fits))

      found : (assigned : List (Option ℕ)) × IsColoured done assigned
      found =
          let f = found_beside d.moment (rows_and d done) (own_of d) channels (marks_and d done) first_bookings set numbers (begun_apart d x (rows_and d done) (marks_and d done) (keeps_and d x done first_later)) first_fits in
          (f.0, record { later = first_later; bookings = first_bookings; fit = f.1 })

    -- ---- all of them, in turn

    -- the last colouring is the one that is given
    in_turn : (done rest : List Row) (row : Row) (now : Day) → IsReached done now → (last : List (Option ℕ)) → IsColoured ((done ++ row ∷ []) ++ rest) last → FitsBeside channels d (rows_and d ((done ++ row ∷ []) ++ rest)) (marks_and d ((done ++ row ∷ []) ++ rest)) → AreSoldInTurn channels (row ∷ rest) now (with_these ((done ++ row ∷ []) ++ rest) last)
    in_turn done [] row now here last c fits =
        let more = done ++ row ∷ [] in
        let is : more ++ [] ≡ more = nothing_more more in
        subst (λ (rs : List Row). AreSoldInTurn channels (row ∷ []) now (with_these rs last)) (sym is)
        (with_these more last, one_sold done row now here last (subst (λ (rs : List Row). IsColoured rs last) is c), refl)
    in_turn done (next ∷ rest) row now here last c fits =
        let more = done ++ row ∷ [] in
        let f = found more (next ∷ rest) c.later c.bookings fits in
        let is : (more ++ next ∷ []) ++ rest ≡ more ++ next ∷ rest = joined more rest next in (
          with_these more f.0,
          one_sold done row now here f.0 f.1,
          subst (λ (rs : List Row). AreSoldInTurn channels (next ∷ rest) (with_these more f.0) (with_these rs last)) is
              (in_turn more rest next (with_these more f.0) (reached more f.0 f.1) last (subst (λ (rs : List Row). IsColoured rs last) (sym is) c)
              (subst (λ (rs : List Row). FitsBeside channels d (rows_and d rs) (marks_and d rs)) (sym is) fits)),
        )

-- none is sold, or there is a first
pub all_in_turn : (channels : List Bool) → IsChannelSet channels → (rows : List Row) (d d' : Day) → IsState d → (length rows ≡ 0 → ⊥) → AreLater d.moment rows → FitsBeside channels d (rows_and d rows) (marks_and d rows) → GoesOnBeside channels (rows_and d rows) (marks_and d rows) d d' → AreSoldInTurn channels rows d d'
all_in_turn channels set [] d d' x some later fits g = absurd (some refl)
all_in_turn channels set (row ∷ rest) d d' x some later fits g =
    let by_row = g.change.agrees.by_row (let a = length-append (rows_of d) (row ∷ rest) in let n = rows_size d in omega (arith, a, n)) in
    subst (AreSoldInTurn channels (row ∷ rest) d) (sym g.day)
    (in_turn d x channels set by_row g.service g.choices [] rest row d (at_first d x) g.assigned (record { later = later; bookings = g.change.bookings; fit = g.first_fit }) fits)

-- ---- the bookings and the marks of the day after

pub one_more_each : (d : Day) (row : Row) → length (marks_with d) ≡ length (rows_with d row)
one_more_each d row =
    let a = length-append (marks_of d) (true ∷ []) in
    let b = length-append (rows_of d) (row ∷ []) in
    let m = marks_size d in
    let n = rows_size d in
    omega (arith, a, b, m, n)

pub sold_rows : (channels : List Bool) (row : Row) (d d' : Day) → IsSold channels row d d' → rows_of d' ≡ rows_with d row
sold_rows channels row d d' s = rows_then channels (rows_with d row) (marks_with d) d d' (one_more_each d row) s.gone_on

pub sold_marks : (channels : List Bool) (row : Row) (d d' : Day) → IsSold channels row d d' → marks_of d' ≡ marks_with d
sold_marks channels row d d' s = marks_then channels (rows_with d row) (marks_with d) d d' (one_more_each d row) s.gone_on

pub rows_in_turn : (channels : List Bool) (rows : List Row) (d d' : Day) → AreSoldInTurn channels rows d d' → rows_of d' ≡ rows_and d rows
rows_in_turn channels [] d d' is = ap rows_of is ∙ sym (nothing_more (rows_of d))
rows_in_turn channels (row ∷ rows) d d' (sold, one, more) =
    rows_in_turn channels rows sold d' more ∙ ap (λ (rs : List Row). rs ++ rows) (sold_rows channels row d sold one) ∙ joined (rows_of d) rows row

pub marks_in_turn : (channels : List Bool) (rows : List Row) (d d' : Day) → AreSoldInTurn channels rows d d' → marks_of d' ≡ marks_and d rows
marks_in_turn channels [] d d' is = ap marks_of is ∙ sym (nothing_more (marks_of d))
marks_in_turn channels (row ∷ rows) d d' (sold, one, more) =
    marks_in_turn channels rows sold d' more ∙ ap (λ (ms : List Bool). ms ++ replicate (length rows) true) (sold_marks channels row d sold one) ∙ joined (marks_of d) (replicate (length rows) true) true
