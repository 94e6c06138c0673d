-- What stands at a place of a day, and of lists in which one is another.
use Rattle.std.proofs.Common.{◌≡◌, ◌≢◌, ℕ, zero, suc, ◌-◌, ◌<◌, ◌≤◌, not, Bool, false, List, [], ◌∷◌, ◌++◌, map, length, Option, Some, None, is_some, true, arith, refl, sym, ap, set, slice_index_or, get_or-set_same, get_or-set_other}
use Rattle.std.proofs.lemmas.List.{get_or_append_left, get_or-append_right, length-map}
use Rattle.std.proofs.lemmas.Bool.{true≢false}
use Rattle.bx_base.specs.Bookings.{Row, row_at, no_row}
use Rattle.bx_colour.specs.Colouring.{is_in}
use Rattle.bx_day.specs.Day.{Day, entry_at}
use Rattle.bx_day.specs.Invariant.{is_refused}
use Rattle.bx_day.specs.declared.entry.Entry.{Entry}
use Rattle.bx_sales.specs.GoingOn.{own_at}
use Rattle.bx_sales.specs.Leaving.{promised_channel}
use Rattle.bx_sales.specs.Selling.{rows_of, marks_of}

pub nothing_more : {X : Type 0} (xs : List X) → xs ++ [] ≡ xs
nothing_more [] = refl
nothing_more (x ∷ xs) = ap (λ ys. x ∷ ys) (nothing_more xs)

pub joined : {X : Type 0} (xs ys : List X) (y : X) → (xs ++ y ∷ []) ++ ys ≡ xs ++ y ∷ ys
joined [] ys y = refl
joined (x ∷ xs) ys y = ap (λ zs. x ∷ zs) (joined xs ys y)

-- ---- of a day

pub rows_size : (d : Day) → length (rows_of d) ≡ length d.entries
rows_size d = length-map d.entries (λ (e : Entry). e.booking)

pub marks_size : (d : Day) → length (marks_of d) ≡ length d.entries
marks_size d = length-map d.entries (λ (e : Entry). not (is_refused e.standing))

pub row_there : (es : List Entry) (i : ℕ) → i < length es → row_at (map (λ (e : Entry). e.booking) es) i ≡ (entry_at es i).booking
row_there [] i lt = absurd (omega (arith, lt))
row_there (e ∷ es) zero lt = refl
row_there (e ∷ es) (suc i) lt = row_there es i (omega (arith, lt))

pub mark_there : (es : List Entry) (i : ℕ) → i < length es → is_in (map (λ (e : Entry). not (is_refused e.standing)) es) i ≡ not (is_refused (entry_at es i).standing)
mark_there [] i lt = absurd (omega (arith, lt))
mark_there (e ∷ es) zero lt = refl
mark_there (e ∷ es) (suc i) lt = mark_there es i (omega (arith, lt))

pub own_there : (t : ℕ) (es : List Entry) (i : ℕ) → i < length es → slice_index_or (map (own_at t) es) i None ≡ own_at t (entry_at es i)
own_there t [] i lt = absurd (omega (arith, lt))
own_there t (e ∷ es) zero lt = refl
own_there t (e ∷ es) (suc i) lt = own_there t es i (omega (arith, lt))

-- ---- of lists in which one is another

pub other_mark : (marks : List Bool) (place i : ℕ) → i ≢ place → is_in (set marks place false) i ≡ is_in marks i
other_mark marks place i differs = get_or-set_other marks place i false false differs

pub no_mark : (marks : List Bool) (place i : ℕ) → i ≡ place → is_in (set marks place false) i ≡ false
no_mark [] k i q = refl
no_mark (m ∷ ms) zero zero q = refl
no_mark (m ∷ ms) zero (suc i) q = absurd (omega (arith, q))
no_mark (m ∷ ms) (suc k) zero q = absurd (omega (arith, q))
no_mark (m ∷ ms) (suc k) (suc i) q = no_mark ms k i (omega (arith, q))

pub other_row : (rows : List Row) (place : ℕ) (b : Row) (i : ℕ) → i ≢ place → row_at (set rows place b) i ≡ row_at rows i
other_row rows place b i differs = get_or-set_other rows place i b no_row differs

pub this_row : (rows : List Row) (place : ℕ) (b : Row) → place < length rows → row_at (set rows place b) place ≡ b
this_row rows place b within = get_or-set_same rows place b no_row within

-- ---- of lists with more behind them

pub first_row : (rows more : List Row) (i : ℕ) → i < length rows → row_at (rows ++ more) i ≡ row_at rows i
first_row rows more i lt = get_or_append_left rows more no_row i lt

pub more_row : (rows more : List Row) (i : ℕ) → length rows ≤ i → row_at (rows ++ more) i ≡ row_at more (i - length rows)
more_row rows more i past = get_or-append_right rows more (length rows) i no_row refl past

pub first_mark : (marks more : List Bool) (i : ℕ) → i < length marks → is_in (marks ++ more) i ≡ is_in marks i
first_mark marks more i lt = get_or_append_left marks more false i lt

-- ---- of channels

pub promised_there : (es : List Entry) (i : ℕ) → i < length es → slice_index_or (map promised_channel es) i None ≡ promised_channel (entry_at es i)
promised_there [] i lt = absurd (omega (arith, lt))
promised_there (e ∷ es) zero lt = refl
promised_there (e ∷ es) (suc i) lt = promised_there es i (omega (arith, lt))

pub none_there : (o : Option ℕ) → is_some o ≡ false → o ≡ None
none_there None none = refl
none_there (Some c) none = absurd (true≢false none)

pub marks_set : (assigned : List (Option ℕ)) (place : ℕ) → map is_some (set assigned place None) ≡ set (map is_some assigned) place false
marks_set [] place = refl
marks_set (a ∷ assigned) zero = refl
marks_set (a ∷ assigned) (suc place) = ap (λ ms. is_some a ∷ ms) (marks_set assigned place)

-- what has a channel where one has none any more had it before
pub given_before : (assigned : List (Option ℕ)) (place i : ℕ) → is_some (slice_index_or (set assigned place None) i None) ≡ true → slice_index_or (set assigned place None) i None ≡ slice_index_or assigned i None
given_before [] place i given = refl
given_before (a ∷ assigned) zero zero given = absurd (true≢false (sym given))
given_before (a ∷ assigned) zero (suc i) given = refl
given_before (a ∷ assigned) (suc place) zero given = refl
given_before (a ∷ assigned) (suc place) (suc i) given = given_before assigned place i given
