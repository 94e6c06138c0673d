-- A journal tells the day and its last plan, by induction along it: so far the day is that of one plan, which is carried, over the events so far. What amends
-- the plan is another plan that agrees with the day so far, and the law of changed plans carries the events over to it; where the plan of the morning is first
-- fit, each such plan is, since what has begun keeps the channel that first fit gave it.
use Rattle.std.proofs.Common.{◌≡◌, ℕ, ◌-◌, ◌<◌, ◌≤◌, not, Bool, true, false, List, [], ◌∷◌, ◌++◌, map, length, Option, Some, None, is_some, unwrap_or, slice_set, slice_index_or, arith, refl, sym, subst, ap, ◌∙◌, inl, inr, nat_lt, length-set, if◌then◌else◌}
use Rattle.std.specs.List.{AllByRecursion}
use Rattle.std.proofs.lemmas.Bool.{true≢false, false≢true, cases_lt, le-ltb}
use Rattle.std.proofs.lemmas.List.{length-append, length-map}
use Rattle.bx_base.specs.Bookings.{Row, row_at, AreBookings, Carries}
use Rattle.bx_base.specs.Channels.{has_channel}
use Rattle.bx_base.specs.Plans.{is_accepted, channel_at}
use Rattle.bx_channels.specs.Marks.{is_marked}
use Rattle.bx_colour.specs.ChangedRows.{IsFirstFitAmong, AreSameUpTo, AreChoicesIn, choices_of}
use Rattle.bx_colour.specs.Colouring.{IsFirstFit, is_in}
use Rattle.bx_colour.proofs.FirstFitBeside.{first_fit_beside}
use Rattle.bx_colour.proofs.FirstFitChanged.{among}
use Rattle.bx_colour.proofs.OutcomeAmong.{carries, accepts_same}
use Rattle.bx_day.specs.Changed.{was_never_live, changed, AgreesWith, AreReferredByRow, EndsAlike}
use Rattle.bx_day.specs.Day.{Day, entry_at, is_unoffered, opening}
use Rattle.bx_day.specs.Invariant.{is_refused}
use Rattle.bx_day.specs.Outages.{live_happens, live_day_after}
use Rattle.bx_day.specs.declared.entry.Entry.{Entry}
use Rattle.bx_day.specs.declared.entry.Standing.{Standing}
use Rattle.bx_day.specs.declared.entry.Standing.TheVariants.{Refused, Unoffered}
use Rattle.bx_day.proofs.ChangedPlan.{changed_day}
use Rattle.bx_day.proofs.Law.{IsFrame}
use Rattle.bx_day.proofs.Lived.{Lived, day_lived}
use Rattle.bx_day.proofs.Once.{decide, each_at}
use Rattle.bx_day.proofs.Staying.{event_stays}
use Rattle.bx_events.specs.Events.{LiveEvent, OnLink, WithoutLink, Amended, HeardByRulesTwo}
use Rattle.bx_events.specs.declared.amendment.Amendment.{Amendment}
use Rattle.bx_events.specs.declared.amendment.Amendment.TheVariants.{Sold, Cancelled, Changed, SoldByRulesTwo, Delayed, Dropped, Out}
use Rattle.bx_sales.specs.Amending.{AmendsDay, row_numbered, row_named, behind_row, rows_amended, marks_amended}
use Rattle.bx_sales.specs.Changing.{rows_changed_in}
use Rattle.bx_sales.specs.GoingOn.{is_to_come, own_of, GoesOnBeside}
use Rattle.bx_sales.specs.Journal.{rows_after, marks_after, RunsThrough, AreAllLeft, HasLastPlan}
use Rattle.bx_sales.specs.Leaving.{promised_channel, promised_channels, IsStranded, GoesOnStill, IsDelayed, IsDropped}
use Rattle.bx_sales.specs.Left.{left_in_service}
use Rattle.bx_sales.specs.Selling.{rows_of, marks_of, IsSold}
use Rattle.bx_sales.specs.Tags.{row_behind}
use Rattle.bx_sales.proofs.Beside.{all_in, waiting_accepted, begun_accepted, begun_by, WaitsAhead, started, own_begun, own_some}
use Rattle.bx_sales.proofs.Changes.{one_more}
use Rattle.bx_sales.proofs.Fitting.{marked_so}
use Rattle.bx_sales.proofs.LeftOver.{left_here, left_all}
use Rattle.bx_sales.proofs.Places.{nothing_more, joined, promised_there, none_there, marks_set, given_before}
use Rattle.bx_sales.proofs.PlanDays.{size, frame_at, referred_now}
use Rattle.bx_sales.proofs.Rows.{same_bools, marks_plain, first_fit_marks}
use Rattle.bx_sales.proofs.Told.{same_channels, once, rows_now}

-- ---- the day of a plan

abbrev pub plan_of : (channels : List Bool) (rows : List Row) (marks : List Bool) (assigned : List (Option ℕ)) (events : List LiveEvent) (d : Day) → length assigned ≡ length rows → map is_some assigned ≡ marks → AreBookings rows → Carries rows channels (is_accepted assigned) (channel_at assigned) → d ≡ live_day_after events (opening rows assigned) → HasLastPlan channels rows marks events d
plan_of channels rows marks assigned events d count accepted bookings carried day = record {
  bookings = bookings;
  rows_are = ap rows_of day ∙ rows_now rows channels assigned events bookings carried;
  marks_are = ap marks_of day ∙ marks_plain rows channels assigned events count bookings carried ∙ accepted;
  last = assigned;
  one_each = count;
  accepted = accepted;
  carried = carried;
  day = day;
}

-- the same, which is first fit where the plan of the morning was
pub record PlanAlong (F : Type 0) (channels : List Bool) (rows : List Row) (marks : List Bool) (events : List LiveEvent) (d : Day) : Type 0 where
  pub plan : HasLastPlan channels rows marks events d
  pub first_fit : F → IsFirstFit rows channels marks plan.last

-- and the day before went on with it
pub record GoesAlong (F : Type 0) (channels : List Bool) (rows : List Row) (marks : List Bool) (events : List LiveEvent) (d d1 : Day) : Type 0 where
  pub along : PlanAlong F channels rows marks events d1
  pub agrees : AgreesWith d rows along.plan.last
  pub day : d1 ≡ changed rows along.plan.last d

-- by what happens
pub happened : (F : Type 0) (channels : List Bool) (rows : List Row) (marks : List Bool) (events : List LiveEvent) (d : Day) (event : LiveEvent) → PlanAlong F channels rows marks events d → PlanAlong F channels rows marks (events ++ event ∷ []) (live_happens d event).day
happened F channels rows marks events d event h =
    let p = h.plan in
    record {
      plan = plan_of channels rows marks p.last (events ++ event ∷ []) (live_happens d event).day p.one_each p.accepted p.bookings p.carried (ap (λ (x : Day). (live_happens x event).day) p.day ∙ one_more events event (opening rows p.last));
      first_fit = h.first_fit;
    }

-- ---- by what amends the plan

module _ (F : Type 0) (channels : List Bool) (rows : List Row) (marks : List Bool) (events : List LiveEvent) (d : Day) (p : HasLastPlan channels rows marks events d) where
  as_many : length marks ≡ length rows
  as_many = sym (ap length p.accepted) ∙ length-map p.last is_some ∙ p.one_each

  -- ---- what has begun is of the plan

  abbrev at : ℕ → Entry
  at i = entry_at d.entries i

  entry_frame : (i : ℕ) → i < length rows → IsFrame (row_at rows i) (slice_index_or p.last i None) (at i)
  entry_frame i lt = subst (λ (x : Day). IsFrame (row_at rows i) (slice_index_or p.last i None) (entry_at x.entries i)) (sym p.day) (frame_at rows channels p.last events p.bookings p.carried i lt)

  -- what starts later waits
  waits_ahead : WaitsAhead d
  waits_ahead i lt accepted early =
      waiting (at i).standing (lived.ahead early) accepted
    where
      lived : Lived d.moment (at i)
      lived = each_at (Lived d.moment) d.entries i lt (subst (λ (x : Day). AllByRecursion (Lived x.moment) x.entries) (sym p.day) (day_lived rows channels p.last events p.bookings p.carried))

      waiting : (s : Standing) → was_never_live s ≡ true → is_refused s ≡ false → is_unoffered s ≡ true
      waiting Unoffered idle accepted = refl
      waiting Refused idle accepted = absurd (true≢false accepted)
      waiting s idle accepted = absurd (false≢true idle)

  entry_count : length d.entries ≡ length rows
  entry_count = ap (λ (x : Day). length x.entries) p.day ∙ size rows channels p.last events p.bookings p.carried

  marked_at : (i : ℕ) → is_in marks i ≡ is_accepted p.last i
  marked_at i = ap (λ (ms : List Bool). is_in ms i) (sym p.accepted) ∙ marked_so p.last i

  accepted_at : (i : ℕ) → i < length rows → is_refused (at i).standing ≡ not (is_in marks i)
  accepted_at i lt = (entry_frame i lt).accepted ∙ ap not (sym (marked_at i))

  start_at : (i : ℕ) → i < length rows → (at i).booking.start ≡ (row_at rows i).start
  start_at i lt = ap (λ (b : Row). b.start) (entry_frame i lt).booking

  -- an accepted one whose start has come has begun
  begun_at : (i : ℕ) → i < length rows → is_in marks i ≡ true → (row_at rows i).start ≤ d.moment → is_to_come d.moment (at i) ≡ false
  begun_at i lt marked by =
      begun_by (nat_lt d.moment (at i).booking.start) (at i).standing (accepted_at i lt ∙ ap not marked) (le-ltb d.moment (at i).booking.start (let s = start_at i lt in omega (arith, by, s)))

  given_at : (i : ℕ) → i < length rows → is_in marks i ≡ true → slice_index_or p.last i None ≡ Some (at i).channel
  given_at i lt marked = some_value (slice_index_or p.last i None) (at i).channel (sym (marked_at i) ∙ marked) (entry_frame i lt).channel
    where
      some_value : (a : Option ℕ) (c : ℕ) → is_some a ≡ true → c ≡ unwrap_or a 0 → a ≡ Some c
      some_value (Some x) c h q = ap Some (sym q)
      some_value None c h q = absurd (false≢true h)

  -- its channel is one of these
  own_in : (left : List Bool) → ((c : ℕ) → has_channel left c ≡ true → has_channel channels c ≡ true) → AreChoicesIn channels (own_of d) left
  own_in left part = all_in channels (own_of d) left (record {
    of_left = part;
    of_own = λ i c lt own. (
        let b = own_begun d i c own in
        let inside : i < length rows = let n = entry_count in let k = b.0 in omega (arith, n, k) in
        let marked : is_in marks i ≡ true = twice (is_in marks i) (sym (accepted_at i inside) ∙ begun_accepted (nat_lt d.moment (at i).booking.start) (at i).standing b.1) in
        subst (λ n. has_channel channels n ≡ true) (ap (λ (o : Option ℕ). unwrap_or o 0) (given_at i inside marked) ∙ b.2) (p.carried.in_service i inside (sym (marked_at i) ∙ marked)));
  })
    where
      twice : (b : Bool) → not b ≡ false → b ≡ true
      twice true h = refl
      twice false h = absurd (true≢false h)

  -- ---- the plan that the day goes on with

  module _ (left : List Bool) (part : (c : ℕ) → has_channel left c ≡ true → has_channel channels c ≡ true) (whole : F → left ≡ channels) (rows' : List Row) (marks' : List Bool) (d1 : Day) (count : length marks' ≡ length rows') (g : GoesOnBeside left rows' marks' d d1) where
    carried_there : Carries rows' channels (is_accepted g.assigned) (channel_at g.assigned)
    carried_there = carries rows' (choices_of (own_of d) left) marks' g.assigned count g.first_fit channels (own_in left part)

    marks_there : map is_some g.assigned ≡ marks'
    marks_there = same_bools (map is_some g.assigned) marks' (length-map g.assigned is_some ∙ g.first_fit.one_each ∙ sym count) (λ i inside.
        marked_so g.assigned i ∙ accepts_same rows' (choices_of (own_of d) left) marks' g.assigned count g.first_fit i)

    starts_same : (i : ℕ) → i < length d.entries → is_to_come d.moment (at i) ≡ false → (row_at rows' i).start ≤ d.moment
    starts_same i lt h = let by = started d waits_ahead i lt h in let s = (g.keeps.begun i lt h).start in omega (arith, by, s)

    same_begun : AreSameUpTo d.moment rows marks (λ i. channels) rows' marks' (λ i. channels)
    same_begun = record {
      longer = (let n = g.keeps.longer in let k = entry_count in omega (arith, n, k));
      begun = λ i lt marked by. (
          let inside : i < length d.entries = let k = entry_count in omega (arith, lt, k) in
          let h = begun_at i lt marked by in
          let same = g.keeps.begun i inside h in
          let end = ap (λ (b : Row). b.end) (entry_frame i lt).booking in
          (g.keeps.marked i inside h, record { start = same.start ∙ start_at i lt; end = subst (λ (e : ℕ). EndsAlike d.moment e (row_at rows' i).end) end same.end }));
      choices = λ i lt marked by. refl;
      no_other = λ i lt marked by. elim (cases_lt i (length d.entries)) [
        | inl inside ↦ decide (is_to_come d.moment (at i))
            (λ come. absurd (let early = g.keeps.ahead i inside come marked in omega (arith, early, by)))
            (λ h. (
            let within : i < length rows = let k = entry_count in omega (arith, inside, k) in
            let accepted : is_in marks i ≡ true = not_not (is_in marks i) (sym (accepted_at i within) ∙ begun_accepted (nat_lt d.moment (at i).booking.start) (at i).standing h) in
            (within, accepted, (let s = started d waits_ahead i inside h in let q = start_at i within in omega (arith, s, q)))))
        | inr past ↦ absurd (let early = g.keeps.fresh i past lt marked in omega (arith, early, by))
      ];
    }
      where
        not_not : (b : Bool) → not b ≡ false → b ≡ true
        not_not true h = refl
        not_not false h = absurd (true≢false h)

    first_there : F → IsFirstFit rows channels marks p.last → IsFirstFit rows' channels marks' g.assigned
    first_there f first =
        let fit = subst (λ cs. IsFirstFitAmong rows' (choices_of (own_of d) cs) marks' g.assigned) (whole f) g.first_fit in
        let all = first_fit_beside d.moment channels (own_of d) (λ i. channels) (λ i. channels) rows marks p.last rows' marks' g.assigned
        (among rows channels marks p.last first) fit same_begun
        (λ i lt marked by. (
        let inside : i < length d.entries = let k = entry_count in omega (arith, lt, k) in
        own_some d i inside (begun_at i lt marked by) ∙ sym (given_at i lt marked)))
        (λ i lt marked early. (none_own i early (slice_index_or (own_of d) i None) refl, refl)) in
        record { one_each = all.one_each; given = all.given; refused = all.refused }
      where
        none_own : (i : ℕ) → d.moment < (row_at rows' i).start → (o : Option ℕ) → slice_index_or (own_of d) i None ≡ o → slice_index_or (own_of d) i None ≡ None
        none_own i early None q = q
        none_own i early (Some c) q = absurd (let b = own_begun d i c q in let by = starts_same i b.0 b.1 in omega (arith, by, early))

    gone_along : (F → IsFirstFit rows channels marks p.last) → GoesAlong F channels rows' marks' events d d1
    gone_along first = record {
      along = record {
        plan = plan_of channels rows' marks' g.assigned events d1 g.first_fit.one_each marks_there g.change.bookings carried_there
            (g.day ∙ ap (changed rows' g.assigned) p.day
            ∙ sym (changed_day rows p.last rows' g.assigned events p.bookings g.change.bookings (subst (λ (y : Day). AgreesWith y rows' g.assigned) p.day g.change.agrees)));
        first_fit = λ f. first_there f (first f);
      };
      agrees = g.change.agrees;
      day = g.day;
    }

  -- with the rows and the marks of the plan in place of those of the day
  gone : (left : List Bool) → ((c : ℕ) → has_channel left c ≡ true → has_channel channels c ≡ true) → (F → left ≡ channels) → (rows' : List Row) (marks' : List Bool) (of_rows : List Row → List Row) (of_marks : List Bool → List Bool) (d1 : Day) → rows' ≡ of_rows rows → marks' ≡ of_marks marks → length marks' ≡ length rows' → GoesOnBeside left (of_rows (rows_of d)) (of_marks (marks_of d)) d d1 → (F → IsFirstFit rows channels marks p.last) → GoesAlong F channels rows' marks' events d d1
  gone left part whole rows' marks' of_rows of_marks d1 r m count g first =
      gone_along left part whole rows' marks' d1 count (subst (λ ms. GoesOnBeside left rows' ms d d1) (ap of_marks p.marks_are ∙ sym m) (subst (λ rs. GoesOnBeside left rs (of_marks (marks_of d)) d d1) (ap of_rows p.rows_are ∙ sym r) g)) first

  sold : (left : List Bool) → ((c : ℕ) → has_channel left c ≡ true → has_channel channels c ≡ true) → (F → left ≡ channels) → (row : Row) (d1 : Day) → IsSold left row d d1 → (F → IsFirstFit rows channels marks p.last) → GoesAlong F channels (rows ++ row ∷ []) (marks ++ true ∷ []) events d d1
  sold left part whole row d1 is first =
      gone left part whole (rows ++ row ∷ []) (marks ++ true ∷ []) (λ rs. rs ++ row ∷ []) (λ ms. ms ++ true ∷ []) d1 refl refl
      (let a = length-append marks (true ∷ []) in let b = length-append rows (row ∷ []) in let n = as_many in omega (arith, a, b, n)) is.gone_on first

  -- ---- channels as they are

  last_at : (i : ℕ) → i < length rows → slice_index_or (promised_channels d) i None ≡ slice_index_or p.last i None
  last_at i lt = promised_there d.entries i (let k = entry_count in omega (arith, lt, k)) ∙ by_mark (is_in marks i) refl
    where
      by_mark : (b : Bool) → is_in marks i ≡ b → promised_channel (at i) ≡ slice_index_or p.last i None
      by_mark true marked = ap (λ x. if x then None else Some (at i).channel) (accepted_at i lt ∙ ap not marked) ∙ sym (given_at i lt marked)
      by_mark false out = ap (λ x. if x then None else Some (at i).channel) (accepted_at i lt ∙ ap not out) ∙ sym (none_there (slice_index_or p.last i None) (sym (marked_at i) ∙ out))

  -- the channels of the day are those of its plan
  last_are : promised_channels d ≡ p.last
  last_are = same_channels (promised_channels d) p.last (length-map d.entries promised_channel ∙ entry_count ∙ sym p.one_each) (λ i lt. last_at i (let n = p.one_each in omega (arith, lt, n)))

  -- no booking waits on a channel that is lost where none is
  none_stranded : (i : ℕ) → IsStranded d i → AreAllLeft channels d → ⊥
  none_stranded i s all =
      let lt : i < length rows = let k = entry_count in let n = s.inside in omega (arith, k, n) in
      let marked : is_in marks i ≡ true = twice (is_in marks i) (sym (accepted_at i lt) ∙ waiting_accepted (at i).standing s.waits) in
      let has = p.carried.in_service i lt (sym (marked_at i) ∙ marked) in
      true≢false (sym s.lost ∙ all (at i).channel (subst (λ o. has_channel channels (unwrap_or o 0) ≡ true) (given_at i lt marked) has))
    where
      twice : (b : Bool) → not b ≡ false → b ≡ true
      twice true h = refl
      twice false h = absurd (true≢false h)

  module _ (rows' : List Row) (assigned : List (Option ℕ)) (d1 : Day) (same_size : length rows' ≡ length rows) (count : length assigned ≡ length rows') (fewer : (i : ℕ) → is_some (slice_index_or assigned i None) ≡ true → slice_index_or assigned i None ≡ slice_index_or p.last i None) (g : GoesOnStill rows' assigned d d1) where
    carried_still : Carries rows' channels (is_accepted assigned) (channel_at assigned)
    carried_still = record {
      in_service = λ i lt given. (
          let same = fewer i given in
          let has = p.carried.in_service i (let n = same_size in omega (arith, lt, n)) (ap is_some (sym same) ∙ given) in
          subst (λ o. has_channel channels (unwrap_or o 0) ≡ true) (sym same) has);
      apart = g.change.carried.apart;
    }

    still_along : (marks' : List Bool) → map is_some assigned ≡ marks' → (F → AreAllLeft channels d) → (AreAllLeft channels d → ⊥) → GoesAlong F channels rows' marks' events d d1
    still_along marks' accepted whole never = record {
      along = record {
        plan = plan_of channels rows' marks' assigned events d1 count accepted g.change.bookings carried_still
            (g.day ∙ ap (changed rows' assigned) p.day
            ∙ sym (changed_day rows p.last rows' assigned events p.bookings g.change.bookings (subst (λ (y : Day). AgreesWith y rows' assigned) p.day g.change.agrees)));
        first_fit = λ f. absurd (never (whole f));
      };
      agrees = g.change.agrees;
      day = g.day;
    }

  delayed : (row : ℕ) (b : Row) (d1 : Day) → IsDelayed row b d d1 → (F → AreAllLeft channels d) → GoesAlong F channels (rows_changed_in rows row b) marks events d d1
  delayed row b d1 is whole =
      let place = row - 1 in
      let g = subst (λ rs. GoesOnStill (rows_changed_in rs row b) p.last d d1) p.rows_are (subst (λ a. GoesOnStill (rows_changed_in (rows_of d) row b) a d d1) last_are is.gone_on) in
      let size = length-set rows place b in
      still_along (rows_changed_in rows row b) p.last d1 size (p.one_each ∙ sym size) (λ i given. refl) g marks p.accepted whole (none_stranded place is.may.stranded)

  dropped : (row : ℕ) (d1 : Day) → IsDropped row d d1 → (F → AreAllLeft channels d) → GoesAlong F channels rows (slice_set marks (row - 1) false) events d d1
  dropped row d1 is whole =
      let place = row - 1 in
      let assigned = slice_set p.last place None in
      let g = subst (λ rs. GoesOnStill rs assigned d d1) p.rows_are (subst (λ a. GoesOnStill (rows_of d) (slice_set a place None) d d1) last_are is.gone_on) in
      still_along rows assigned d1 refl (length-set p.last place None ∙ p.one_each) (given_before p.last place) g (slice_set marks place false)
      (marks_set p.last place ∙ ap (λ ms. slice_set ms place false) p.accepted) whole (none_stranded is.may.any.index is.may.any.is)

  pub amended : (row_on : List ℕ → Row) (kind : Amendment) (line : List ℕ) (d1 : Day) → AmendsDay channels row_on kind line d d1 → (F → AreAllLeft channels d) → (F → IsFirstFit rows channels marks p.last) → GoesAlong F channels (rows_amended row_on kind line rows) (marks_amended kind line marks) events d d1
  amended row_on Sold line d1 is whole first = sold (left_in_service channels d) (left_here channels d) (λ f. left_all channels d (whole f)) (row_behind row_on line) d1 is first
  amended row_on SoldByRulesTwo line d1 is whole first = sold channels (λ c has. has) (λ f. refl) (row_behind row_on line) d1 is first
  amended row_on Cancelled line d1 is whole first =
      let place = row_numbered line - 1 in
      gone (left_in_service channels d) (left_here channels d) (λ f. left_all channels d (whole f)) rows (slice_set marks place false) (λ rs. rs) (λ ms. slice_set ms place false) d1 refl refl (let n = length-set marks place false in n ∙ as_many) is.gone_on first
  amended row_on Changed line d1 is whole first =
      let row = row_named line in
      let b = row_on (behind_row line) in
      gone (left_in_service channels d) (left_here channels d) (λ f. left_all channels d (whole f)) (rows_changed_in rows row b) marks (λ rs. rows_changed_in rs row b) (λ ms. ms) d1 refl refl (as_many ∙ sym (length-set rows (row - 1) b)) is.gone_on first
  amended row_on Delayed line d1 is whole first = delayed (row_named line) (row_on (behind_row line)) d1 is whole
  amended row_on Dropped line d1 is whole first = dropped (row_numbered line) d1 is whole
  amended row_on Out line d1 is whole first =
      gone (left_in_service channels d) (left_here channels d) (λ f. left_all channels d (whole f)) rows marks (λ rs. rs) (λ ms. ms) d1 refl refl as_many is.recoloured first

-- ---- along the journal

-- what is lost stays lost
kept_left : (channels : List Bool) (row_on : List ℕ → Row) (kind : Amendment) (line : List ℕ) (d d1 : Day) → AmendsDay channels row_on kind line d d1 → d1.maintenance ≡ d.maintenance
kept_left channels row_on Sold line d d1 is = ap (λ (x : Day). x.maintenance) is.gone_on.day
kept_left channels row_on SoldByRulesTwo line d d1 is = ap (λ (x : Day). x.maintenance) is.gone_on.day
kept_left channels row_on Cancelled line d d1 is = ap (λ (x : Day). x.maintenance) is.gone_on.day
kept_left channels row_on Changed line d d1 is = ap (λ (x : Day). x.maintenance) is.gone_on.day
kept_left channels row_on Delayed line d d1 is = ap (λ (x : Day). x.maintenance) is.gone_on.day
kept_left channels row_on Dropped line d d1 is = ap (λ (x : Day). x.maintenance) is.gone_on.day
kept_left channels row_on Out line d d1 is = ap (λ (x : Day). x.maintenance) is.recoloured.day

unlost : (d d1 : Day) (c : ℕ) → (is_marked d.maintenance c ≡ true → is_marked d1.maintenance c ≡ true) → is_marked d1.maintenance c ≡ false → is_marked d.maintenance c ≡ false
unlost d d1 c stays none = decide (is_marked d.maintenance c) (λ yes. absurd (true≢false (sym (stays yes) ∙ none))) (λ no. no)

left_after : (channels : List Bool) (d : Day) (event : LiveEvent) → AreAllLeft channels (live_happens d event).day → AreAllLeft channels d
left_after channels d event all = λ c has. unlost d (live_happens d event).day c ((event_stays d event).maintenance c) (all c has)

left_before : (channels : List Bool) (row_on : List ℕ → Row) (events : List LiveEvent) (d now : Day) → RunsThrough channels row_on events d now → AreAllLeft channels now → AreAllLeft channels d
left_before channels row_on [] d now through all = subst (AreAllLeft channels) through all
left_before channels row_on (Amended kind line ∷ events) d now (d1, is, rest) all = λ c has.
    ap (λ (ms : List Bool). is_marked ms c) (sym (kept_left channels row_on kind line d d1 is)) ∙ left_before channels row_on events d1 now rest all c has
left_before channels row_on (OnLink event ∷ events) d now rest all = left_after channels d (OnLink event) (left_before channels row_on events (live_happens d (OnLink event)).day now rest all)
left_before channels row_on (WithoutLink rules ∷ events) d now rest all = left_after channels d (WithoutLink rules) (left_before channels row_on events (live_happens d (WithoutLink rules)).day now rest all)
left_before channels row_on (HeardByRulesTwo octets ∷ events) d now rest all = left_after channels d (HeardByRulesTwo octets) (left_before channels row_on events (live_happens d (HeardByRulesTwo octets)).day now rest all)

module _ (F : Type 0) (channels : List Bool) (row_on : List ℕ → Row) (now : Day) (whole : F → AreAllLeft channels now) where
  along : (events before : List LiveEvent) (rows : List Row) (marks : List Bool) (d : Day) → PlanAlong F channels rows marks before d → RunsThrough channels row_on events d now
      → PlanAlong F channels (rows_after row_on events rows) (marks_after events marks) (before ++ events) now
  along [] before rows marks d h through =
      subst (λ (xs : List LiveEvent). PlanAlong F channels rows marks xs now) (sym (nothing_more before)) (subst (PlanAlong F channels rows marks before) (sym through) h)
  along (Amended kind line ∷ events) before rows marks d h (d1, is, rest) =
      let rows' = rows_amended row_on kind line rows in
      let marks' = marks_amended kind line marks in
      let here : F → AreAllLeft channels d = λ f. left_before channels row_on (Amended kind line ∷ events) d now (d1, is, rest) (whole f) in
      let there = happened F channels rows' marks' before d1 (Amended kind line) (amended F channels rows marks before d h.plan row_on kind line d1 is here h.first_fit).along in
      subst (λ (xs : List LiveEvent). PlanAlong F channels (rows_after row_on events rows') (marks_after events marks') xs now) (joined before events (Amended kind line))
      (along events (before ++ Amended kind line ∷ []) rows' marks' d1 there rest)
  along (OnLink event ∷ events) before rows marks d h rest =
      subst (λ (xs : List LiveEvent). PlanAlong F channels (rows_after row_on events rows) (marks_after events marks) xs now) (joined before events (OnLink event))
      (along events (before ++ OnLink event ∷ []) rows marks (live_happens d (OnLink event)).day (happened F channels rows marks before d (OnLink event) h) rest)
  along (WithoutLink rules ∷ events) before rows marks d h rest =
      subst (λ (xs : List LiveEvent). PlanAlong F channels (rows_after row_on events rows) (marks_after events marks) xs now) (joined before events (WithoutLink rules))
      (along events (before ++ WithoutLink rules ∷ []) rows marks (live_happens d (WithoutLink rules)).day (happened F channels rows marks before d (WithoutLink rules) h) rest)
  along (HeardByRulesTwo octets ∷ events) before rows marks d h rest =
      subst (λ (xs : List LiveEvent). PlanAlong F channels (rows_after row_on events rows) (marks_after events marks) xs now) (joined before events (HeardByRulesTwo octets))
      (along events (before ++ HeardByRulesTwo octets ∷ []) rows marks (live_happens d (HeardByRulesTwo octets)).day (happened F channels rows marks before d (HeardByRulesTwo octets) h) rest)

-- from the plan of a morning, which is first fit
pub first_along : (channels : List Bool) (row_on : List ℕ → Row) (rows : List Row) (accepted : List Bool) (assigned : List (Option ℕ)) (events : List LiveEvent) (d : Day) → length accepted ≡ length rows → AreBookings rows → Carries rows channels (is_accepted assigned) (channel_at assigned) → IsFirstFit rows channels accepted assigned → RunsThrough channels row_on events (opening rows assigned) d → AreAllLeft channels d
    → PlanAlong (Unit {0}) channels (rows_after row_on events rows) (marks_after events accepted) events d
first_along channels row_on rows accepted assigned events d count bookings carries first through all =
    let marks = first_fit_marks rows channels accepted assigned count first in
    let morning = plan_of channels rows accepted assigned [] (opening rows assigned) first.one_each marks bookings carries refl in
    along (Unit {0}) channels row_on d (λ always. all) events [] rows accepted (opening rows assigned) (record { plan = morning; first_fit = λ always. first }) through

pub told_by : (channels : List Bool) (row_on : List ℕ → Row) (rows : List Row) (accepted : List Bool) (assigned : List (Option ℕ)) (events : List LiveEvent) (d : Day) → length accepted ≡ length rows → AreBookings rows → Carries rows channels (is_accepted assigned) (channel_at assigned) → IsFirstFit rows channels accepted assigned → RunsThrough channels row_on events (opening rows assigned) d → AreAllLeft channels d → (last : List (Option ℕ)) → IsFirstFit (rows_after row_on events rows) channels (marks_after events accepted) last → d ≡ live_day_after events (opening (rows_after row_on events rows) last)
told_by channels row_on rows accepted assigned events d count bookings carries first through all last fit =
    let h = first_along channels row_on rows accepted assigned events d count bookings carries first through all in
    h.plan.day ∙ ap (λ a. live_day_after events (opening (rows_after row_on events rows) a)) (once (rows_after row_on events rows) channels (marks_after events accepted) h.plan.last last (h.first_fit tt) fit)

pub amended_plan : (channels : List Bool) (row_on : List ℕ → Row) (rows : List Row) (assigned : List (Option ℕ)) (events : List LiveEvent) (d : Day) → length assigned ≡ length rows → AreBookings rows → Carries rows channels (is_accepted assigned) (channel_at assigned) → RunsThrough channels row_on events (opening rows assigned) d
    → HasLastPlan channels (rows_after row_on events rows) (marks_after events (map is_some assigned)) events d
amended_plan channels row_on rows assigned events d count bookings carries through =
    let morning = plan_of channels rows (map is_some assigned) assigned [] (opening rows assigned) count refl bookings carries refl in
    (along ⊥ channels row_on d (λ never. absurd never) events [] rows (map is_some assigned) (opening rows assigned) (record { plan = morning; first_fit = λ never. absurd never }) through).plan

-- from a day of a plan on
pub plan_along : (channels : List Bool) (row_on : List ℕ → Row) (events before : List LiveEvent) (rows : List Row) (marks : List Bool) (d now : Day) → HasLastPlan channels rows marks before d → RunsThrough channels row_on events d now
    → HasLastPlan channels (rows_after row_on events rows) (marks_after events marks) (before ++ events) now
plan_along channels row_on events before rows marks d now p through = (along ⊥ channels row_on now (λ never. absurd never) events before rows marks d (record { plan = p; first_fit = λ never. absurd never }) through).plan

-- and by bookings that are sold, which are not in the journal yet
pub plan_sold : (left channels : List Bool) → ((c : ℕ) → has_channel left c ≡ true → has_channel channels c ≡ true) → (events : List LiveEvent) (row : Row) (rows : List Row) (marks : List Bool) (d d1 : Day) → HasLastPlan channels rows marks events d → IsSold left row d d1 → HasLastPlan channels (rows ++ row ∷ []) (marks ++ true ∷ []) events d1
plan_sold left channels part events row rows marks d d1 p is = (sold ⊥ channels rows marks events d p left part (λ never. absurd never) row d1 is (λ never. absurd never)).along.plan

-- a day of a plan has its rows as references
pub referred_on : (channels : List Bool) (rows : List Row) (marks : List Bool) (events : List LiveEvent) (d : Day) → HasLastPlan channels rows marks events d → AreReferredByRow d.entries
referred_on channels rows marks events d p = subst (λ (x : Day). AreReferredByRow x.entries) (sym p.day) (referred_now rows channels p.last events p.bookings p.carried)

-- one list of events after another
pub through_more : (channels : List Bool) (row_on : List ℕ → Row) (xs ys : List LiveEvent) (a b c : Day) → RunsThrough channels row_on xs a b → RunsThrough channels row_on ys b c → RunsThrough channels row_on (xs ++ ys) a c
through_more channels row_on [] ys a b c e more = subst (λ (d : Day). RunsThrough channels row_on ys d c) e more
through_more channels row_on (Amended kind line ∷ xs) ys a b c (amended, is, rest) more = (amended, is, through_more channels row_on xs ys amended b c rest more)
through_more channels row_on (OnLink event ∷ xs) ys a b c rest more = through_more channels row_on xs ys (live_happens a (OnLink event)).day b c rest more
through_more channels row_on (WithoutLink rules ∷ xs) ys a b c rest more = through_more channels row_on xs ys (live_happens a (WithoutLink rules)).day b c rest more
through_more channels row_on (HeardByRulesTwo octets ∷ xs) ys a b c rest more = through_more channels row_on xs ys (live_happens a (HeardByRulesTwo octets)).day b c rest more
