-- A call that may start at a free second fits beside all that is promised, and one that fits starts at a free second.
use Rattle.std.proofs.Common.{◌≡◌, ℕ, zero, suc, ◌+◌, ◌<◌, ◌≤◌, ◌&&◌, not, Bool, true, false, nat_lt, if◌then◌else◌, List, [], ◌∷◌, ◌++◌, map, length, length-append, refl, sym, subst, ap, ap₂, ◌∙◌, arith}
use Rattle.std.proofs.lemmas.Bool.{true≢false}
use Rattle.std.proofs.lemmas.Bool.Decides.{nat_tests}
use Rattle.std.proofs.lemmas.List.{get_or_push, get_or_append_left, append-nil}
use Rattle.bx_base.specs.Bookings.{Row, row_at, is_running, no_row}
use Rattle.bx_base.specs.Channels.{count_of}
use Rattle.bx_base.specs.Sums.{sum_below}
use Rattle.bx_base.specs.declared.booking.TheConstants.{MAX_MOMENT}
use Rattle.bx_base.specs.declared.bookings.TheConstants.{MAX_BOOKINGS}
use Rattle.bx_base.proofs.SumLemmas.{sum_below-same}
use Rattle.bx_channels.specs.Marks.{is_marked}
use Rattle.bx_day.specs.Day.{Day}
use Rattle.bx_day.specs.Invariant.{is_refused}
use Rattle.bx_day.specs.declared.entry.Entry.{Entry}
use Rattle.bx_colour.specs.Beside.{marks_beside}
use Rattle.bx_market.specs.Choices.{is_counted, promised, is_eligible, IsChoice}
use Rattle.bx_sales.specs.GoingOn.{own_at, own_of}
use Rattle.bx_sales.specs.Left.{left_in_service}
use Rattle.bx_sales.specs.Selling.{rows_of, marks_of}
use Rattle.bx_office_world.specs.FreeStarts.{running_below, promised_at, IsWished, IsFreeStart}
use Rattle.bx_office_world.specs.declared.desk.Opened.{Opened}
use Rattle.bx_office_world.specs.declared.wish.Wish.{Wish}

sum_below-first : (n : ℕ) (f : ℕ → ℕ) → sum_below (suc n) f ≡ f 0 + sum_below n (λ i. f (suc i))
sum_below-first zero f = omega arith
sum_below-first (suc n) f = omega (arith, sum_below-first n f)

-- ---- what runs of all that is promised

-- how many marked rows run at a second
abbrev running_at : List Row → List Bool → ℕ → ℕ
running_at rows marks t = sum_below (length rows) (λ i. if is_marked marks i && is_running (row_at rows i) t then 1 else 0)

one_entry : (b : Bool) (row : Row) (rows : List Row) (t n : ℕ) → n ≡ running_below rows (length rows) t
    → (if b && is_running row t then 1 else 0) + n ≡ running_below (if b then record row { must = true } ∷ rows else rows) (length (if b then record row { must = true } ∷ rows else rows)) t
one_entry false row rows t n e = omega (arith, e)
one_entry true row rows t n e =
    let peeled : running_below (record row { must = true } ∷ rows) (length (record row { must = true } ∷ rows)) t ≡ (if is_running row t then 1 else 0) + running_below rows (length rows) t =
    sum_below-first (length rows) (λ i. if is_running (row_at (record row { must = true } ∷ rows) i) t then 1 else 0) in
    omega (arith, e, peeled)

abbrev row_in : Entry → Row
row_in e = e.booking

abbrev mark_in : Entry → Bool
mark_in e = not (is_refused e.standing)

module _ (channels : List Bool) (moment : ℕ) where
  -- the marks of what is promised and counts on these channels
  abbrev counted : List Entry → List Bool
  counted es = marks_beside (map (own_at moment) es) channels (map mark_in es)

  runs_of : (es : List Entry) (t : ℕ) → running_at (map row_in es) (counted es) t ≡ running_below (promised channels moment es) (length (promised channels moment es)) t
  runs_of [] t = refl
  runs_of (e ∷ es) t =
      let rows = map row_in es in
      let marks = counted es in
      let counts = is_counted channels moment e in
      let peeled : running_at (e.booking ∷ rows) (counts ∷ marks) t ≡ (if counts && is_running e.booking t then 1 else 0) + running_at rows marks t =
      sum_below-first (length rows) (λ i. if is_marked (counts ∷ marks) i && is_running (row_at (e.booking ∷ rows) i) t then 1 else 0) in
      peeled ∙ one_entry counts e.booking (promised channels moment es) t (running_at rows marks t) (runs_of es t)

  -- a row more has no channel of its own
  counted_more : (es : List Entry) (more : List Bool) → marks_beside (map (own_at moment) es) channels (map mark_in es ++ more) ≡ counted es ++ more
  counted_more [] more = refl
  counted_more (e ∷ es) more = ap (λ (marks : List Bool). is_counted channels moment e ∷ marks) (counted_more es more)

  counted_each : (es : List Entry) → length (counted es) ≡ length (map row_in es)
  counted_each [] = refl
  counted_each (e ∷ es) = ap suc (counted_each es)

-- ---- one more

with_one : (rows : List Row) (marks : List Bool) (row : Row) (t : ℕ) → length marks ≡ length rows → running_at (rows ++ row ∷ []) (marks ++ true ∷ []) t ≡ running_at rows marks t + (if is_running row t then 1 else 0)
with_one rows marks row t size =
    let f : ℕ → ℕ = λ (i : ℕ). if is_marked (marks ++ true ∷ []) i && is_running (row_at (rows ++ row ∷ []) i) t then 1 else 0 in
    let g : ℕ → ℕ = λ (i : ℕ). if is_marked marks i && is_running (row_at rows i) t then 1 else 0 in
    let count : length (rows ++ row ∷ []) ≡ suc (length rows) = (let e = length-append rows (row ∷ []) in omega (arith, e)) in
    let same : sum_below (length rows) f ≡ sum_below (length rows) g = sum_below-same (length rows) f g
    (λ i lt. ap₂ (λ (b : Bool) (r : Row). if b && is_running r t then 1 else 0) (get_or_append_left marks (true ∷ []) false i (omega (arith, lt, size))) (get_or_append_left rows (row ∷ []) no_row i lt)) in
    let last : f (length rows) ≡ (if is_running row t then 1 else 0) =
    ap₂ (λ (b : Bool) (r : Row). if b && is_running r t then 1 else 0) (get_or_push marks true false (length rows) size) (get_or_push rows row no_row (length rows) refl) in
    ap (λ (n : ℕ). sum_below n f) count ∙ ap₂ (λ (a b : ℕ). a + b) same last

module _ (channels : List Bool) (d : Day) where
  abbrev promised_marks : List Bool
  promised_marks = counted channels d.moment d.entries

  -- what runs of all that is promised, and of one row more
  of_day : (row : Row) (t : ℕ) → running_at (rows_of d ++ row ∷ []) (promised_marks ++ true ∷ []) t ≡ promised_at d channels t + (if is_running row t then 1 else 0)
  of_day row t =
      with_one (rows_of d) promised_marks row t (counted_each channels d.moment d.entries) ∙ ap (λ (n : ℕ). n + (if is_running row t then 1 else 0)) (runs_of channels d.moment d.entries t)

-- ---- what is free

runs_then : (row : Row) (t : ℕ) → row.start ≤ t → t < row.end → is_running row t ≡ true
runs_then row t le lt = grind (arith, nat_tests)

starts_by : (row : Row) (t : ℕ) → is_running row t ≡ true → row.start ≤ t
starts_by row t e = grind (arith, nat_tests)

ends_past : (row : Row) (t : ℕ) → is_running row t ≡ true → t < row.end
ends_past row t e = grind (arith, nat_tests)

room_then : (b : Bool) (n m : ℕ) → n ≤ m → (b ≡ true → n < m) → n + (if b then 1 else 0) ≤ m
room_then true n m le lt = omega (arith, lt refl)
room_then false n m le lt = omega (arith, le)

room_left : (b : Bool) (n m : ℕ) → b ≡ true → n + (if b then 1 else 0) ≤ m → n < m
room_left true n m e le = omega (arith, le)
room_left false n m e le = absurd (true≢false (sym e))

-- nothing more is chosen: the channels carry what is promised
promised_few : (channels : List Bool) (d : Day) (t : ℕ) → IsChoice channels d [] [] → promised_at d channels t ≤ count_of channels
promised_few channels d t none =
    let marks : marks_beside (own_of d) channels (marks_of d ++ []) ≡ promised_marks channels d = ap (marks_beside (own_of d) channels) (append-nil (marks_of d)) in
    let all : running_at (rows_of d ++ []) (marks_beside (own_of d) channels (marks_of d ++ [])) t ≡ running_at (rows_of d) (promised_marks channels d) t = ap₂ (λ (rows : List Row) (ms : List Bool). running_at rows ms t) (append-nil (rows_of d)) marks in
    subst (λ (n : ℕ). n ≤ count_of channels) (all ∙ runs_of channels d.moment d.entries t) (none.fits.enough t)

tests_hold : (moment start count : ℕ) → moment < start → count < MAX_BOOKINGS → (nat_lt moment start && nat_lt count MAX_BOOKINGS) ≡ true
tests_hold moment start count later room = grind (arith, nat_tests)

may_be_chosen : (d : Day) (row : Row) → d.moment < row.start → length d.entries < MAX_BOOKINGS → (i : ℕ) → is_marked (true ∷ []) i ≡ true → is_eligible d (row ∷ []) i ≡ true
may_be_chosen d row later room zero e = tests_hold d.moment row.start (length d.entries) later room
may_be_chosen d row later room (suc i) e = absurd (true≢false (sym e))

module _ (channels : List Bool) (d : Day) (row : Row) where
  abbrev with_row : List Bool
  with_row = marks_beside (own_of d) channels (marks_of d ++ true ∷ [])

  with_row_is : with_row ≡ promised_marks channels d ++ true ∷ []
  with_row_is = counted_more channels d.moment d.entries (true ∷ [])

  one_mark_each : length with_row ≡ length (rows_of d ++ row ∷ [])
  one_mark_each =
      ap length with_row_is ∙ length-append (promised_marks channels d) (true ∷ []) ∙ ap (λ (n : ℕ). n + 1) (counted_each channels d.moment d.entries) ∙ sym (length-append (rows_of d) (row ∷ []))

  with_row_runs : (t : ℕ) → running_at (rows_of d ++ row ∷ []) with_row t ≡ promised_at d channels t + (if is_running row t then 1 else 0)
  with_row_runs t = ap (λ (marks : List Bool). running_at (rows_of d ++ row ∷ []) marks t) with_row_is ∙ of_day channels d row t

pub free_fits : (opened : Opened) (d : Day) (wish : Wish) (row : Row) → IsChoice (left_in_service opened.channels d) d [] [] → length d.entries < MAX_BOOKINGS → row.end ≡ row.start + wish.length → IsFreeStart opened d wish row.start
    → IsChoice (left_in_service opened.channels d) d (row ∷ []) (true ∷ [])
free_fits opened d wish row none room ends s =
    let left = left_in_service opened.channels d in
    record {
      one_each = refl;
      eligible = may_be_chosen d row s.wished.later room;
      fits = record {
        one_each = one_mark_each left d row;
        enough = λ t. subst (λ (n : ℕ). n ≤ count_of left) (sym (with_row_runs left d row t))
            (room_then (is_running row t) (promised_at d left t) (count_of left) (promised_few left d t none)
            (λ e. s.free t (starts_by row t e) (subst (λ (n : ℕ). t < n) ends (ends_past row t e))));
      };
    }

pub fits_free : (opened : Opened) (d : Day) (wish : Wish) (row : Row) → IsWished d.moment opened.last wish row.start → row.end ≡ row.start + wish.length → row.end ≤ MAX_MOMENT
    → IsChoice (left_in_service opened.channels d) d (row ∷ []) (true ∷ []) → IsFreeStart opened d wish row.start
fits_free opened d wish row wished ends within chosen =
    let left = left_in_service opened.channels d in
    record {
      wished = wished;
      in_day = omega (arith, ends, within);
      free = λ t ge lt. room_left (is_running row t) (promised_at d left t) (count_of left) (runs_then row t ge (subst (λ (n : ℕ). t < n) (sym ends) lt))
          (subst (λ (n : ℕ). n ≤ count_of left) (with_row_runs left d row t) (chosen.fits.enough t));
    }
