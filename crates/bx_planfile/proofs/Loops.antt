-- Reading bookings or prices one after the other, as a loop does.
use Rattle.std.proofs.Common.{◌≡◌, ℕ, suc, ◌-◌, ◌+◌, ◌≤◌, ◌<◌, List, [], ◌∷◌, ◌++◌, Option, Result, Ok, Err, refl, sym, subst, ◌∙◌, append_assoc, arith}
use Rattle.std.proofs.lemmas.List.{append-nil}
use Rattle.bx_base.specs.Bookings.{Row}
use Rattle.bx_base.specs.Bound.{Charge}
use Rattle.bx_planfile.specs.declared.version.Version.{Version}
use Rattle.bx_planfile.specs.declared.fault.PlanTextFault.{PlanTextFault}
use Rattle.bx_planfile.specs.declared.fault.PlanTextFault.TheVariants.{BadLine, BadCount, OutOfLimits, Trailing, Memory}
use Rattle.bx_planfile.specs.Forms.{Entry}
use Rattle.bx_planfile.specs.Reading.{◌>>=◌, Fails, Entries, entries, read_line, read_booking, read_price, read_bookings, read_prices, SomeBookings, SomePrices}

-- a fault of the first step is the fault of the whole
pub fails_along : {A B : Type 0} (e : PlanTextFault) (r : Result A PlanTextFault) (f : A → Result B PlanTextFault) → Fails e r → Fails e (r >>= f)
fails_along (BadLine n) r f h = rw h refl
fails_along BadCount r f h = rw h refl
fails_along (OutOfLimits n) r f h = rw h refl
fails_along Trailing r f h = rw h refl
fails_along Memory r f h = tt

pub fails_from : {A : Type 0} (e : PlanTextFault) (r : Result A PlanTextFault) → r ≡ Err e → Fails e r
fails_from (BadLine n) r h = h
fails_from BadCount r h = h
fails_from (OutOfLimits n) r h = h
fails_from Trailing r h = h
fails_from Memory r h = tt

-- bookings that were read before, and those that are still read
abbrev pub with_entries : List Row → List (Option ℕ) → Result Entries PlanTextFault → Result Entries PlanTextFault
with_entries rows assigned read = read >>= λ x. Ok (entries (rows ++ x.rows) (assigned ++ x.assigned) x.rest)

with_none : (read : Result Entries PlanTextFault) → with_entries [] [] read ≡ read
with_none (Ok x) = refl
with_none (Err f) = refl

-- nothing was read yet
pub no_entries : (version : Version) (n : ℕ) (bytes : List ℕ) (m : ℕ) → with_entries [] [] (read_bookings version (m - 0) (n + 0) bytes) ≡ read_bookings version m n bytes
no_entries version n bytes m =
    let k : m - 0 ≡ m = omega arith in
    let line : n + 0 ≡ n = omega arith in
    rw (k, line) (with_none (read_bookings version m n bytes))

regroup_entries : (rows : List Row) (assigned : List (Option ℕ)) (e : Entry) (read : Result Entries PlanTextFault)
    → with_entries rows assigned (read >>= λ more. Ok (entries (e.row ∷ more.rows) (e.channel ∷ more.assigned) more.rest)) ≡ with_entries (rows ++ e.row ∷ []) (assigned ++ e.channel ∷ []) read
regroup_entries rows assigned e (Ok x) = simp append_assoc
regroup_entries rows assigned e (Err f) = refl

module _ (version : Version) (count i n : ℕ) (bytes : List ℕ) (rows : List Row) (assigned : List (Option ℕ)) (total : Result Entries PlanTextFault)
    (so_far : with_entries rows assigned (read_bookings version (count - i) (n + i) bytes) ≡ total) where
  pub booking_follows : (fields : List (List ℕ)) (after : List ℕ) (e : Entry) → i < count → read_line (n + i) bytes ≡ Ok (fields, after) → read_booking version (n + i) fields ≡ Ok e
      → with_entries (rows ++ e.row ∷ []) (assigned ++ e.channel ∷ []) (read_bookings version (count - (i + 1)) (n + (i + 1)) after) ≡ total
  unfolding read_bookings
  booking_follows fields after e lt line booking =
      let k : count - i ≡ suc (count - (i + 1)) = omega arith in
      let next : n + i + 1 ≡ n + (i + 1) = omega arith in
      let one : with_entries rows assigned (read_bookings version (count - i) (n + i) bytes) ≡ with_entries (rows ++ e.row ∷ []) (assigned ++ e.channel ∷ []) (read_bookings version (count - (i + 1)) (n + (i + 1)) after)
      = rw (k, line, booking, next) (regroup_entries rows assigned e (read_bookings version (count - (i + 1)) (n + (i + 1)) after)) in
      sym one ∙ so_far

  pub booking_line_fails : (f : PlanTextFault) → i < count → Fails f (read_line (n + i) bytes) → Fails f total
  unfolding read_bookings
  booking_line_fails f lt h =
      let k : count - i ≡ suc (count - (i + 1)) = omega arith in
      subst (Fails f) so_far (rw k (fails_along f _ _ (fails_along f _ _ h)))

  pub booking_fails : (fields : List (List ℕ)) (after : List ℕ) (f : PlanTextFault) → i < count → read_line (n + i) bytes ≡ Ok (fields, after) → Fails f (read_booking version (n + i) fields) → Fails f total
  unfolding read_bookings
  booking_fails fields after f lt line h =
      let k : count - i ≡ suc (count - (i + 1)) = omega arith in
      subst (Fails f) so_far (rw (k, line) (fails_along f _ _ (fails_along f _ _ h)))

  pub bookings_done : count ≤ i → total ≡ Ok (entries rows assigned bytes)
  unfolding read_bookings
  bookings_done le =
      let k : count - i ≡ 0 = omega arith in
      sym so_far ∙ rw k (simp append-nil)

-- prices that were read before, and those that are still read
abbrev pub with_prices : List Charge → Result (List Charge × List ℕ) PlanTextFault → Result (List Charge × List ℕ) PlanTextFault
with_prices prefix read = read >>= λ x. Ok (prefix ++ x.0, x.1)

with_no_prices : (read : Result (List Charge × List ℕ) PlanTextFault) → with_prices [] read ≡ read
with_no_prices (Ok x) = refl
with_no_prices (Err f) = refl

pub no_prices : (n : ℕ) (bytes : List ℕ) (m : ℕ) → with_prices [] (read_prices (m - 0) (n + 0) bytes) ≡ read_prices m n bytes
no_prices n bytes m =
    let k : m - 0 ≡ m = omega arith in
    let line : n + 0 ≡ n = omega arith in
    rw (k, line) (with_no_prices (read_prices m n bytes))

regroup_prices : (prefix : List Charge) (p : Charge) (read : Result (List Charge × List ℕ) PlanTextFault) → with_prices prefix (read >>= λ more. Ok (p ∷ more.0, more.1)) ≡ with_prices (prefix ++ p ∷ []) read
regroup_prices prefix p (Ok x) = simp append_assoc
regroup_prices prefix p (Err f) = refl

module _ (count i n : ℕ) (bytes : List ℕ) (prefix : List Charge) (total : Result (List Charge × List ℕ) PlanTextFault)
    (so_far : with_prices prefix (read_prices (count - i) (n + i) bytes) ≡ total) where
  pub price_follows : (fields : List (List ℕ)) (after : List ℕ) (p : Charge) → i < count → read_line (n + i) bytes ≡ Ok (fields, after) → read_price (n + i) fields ≡ Ok p
      → with_prices (prefix ++ p ∷ []) (read_prices (count - (i + 1)) (n + (i + 1)) after) ≡ total
  unfolding read_prices
  price_follows fields after p lt line price =
      let k : count - i ≡ suc (count - (i + 1)) = omega arith in
      let next : n + i + 1 ≡ n + (i + 1) = omega arith in
      let one : with_prices prefix (read_prices (count - i) (n + i) bytes) ≡ with_prices (prefix ++ p ∷ []) (read_prices (count - (i + 1)) (n + (i + 1)) after)
      = rw (k, line, price, next) (regroup_prices prefix p (read_prices (count - (i + 1)) (n + (i + 1)) after)) in
      sym one ∙ so_far

  pub price_line_fails : (f : PlanTextFault) → i < count → Fails f (read_line (n + i) bytes) → Fails f total
  unfolding read_prices
  price_line_fails f lt h =
      let k : count - i ≡ suc (count - (i + 1)) = omega arith in
      subst (Fails f) so_far (rw k (fails_along f _ _ (fails_along f _ _ h)))

  pub price_fails : (fields : List (List ℕ)) (after : List ℕ) (f : PlanTextFault) → i < count → read_line (n + i) bytes ≡ Ok (fields, after) → Fails f (read_price (n + i) fields) → Fails f total
  unfolding read_prices
  price_fails fields after f lt line h =
      let k : count - i ≡ suc (count - (i + 1)) = omega arith in
      subst (Fails f) so_far (rw (k, line) (fails_along f _ _ (fails_along f _ _ h)))

  pub prices_done : count ≤ i → total ≡ Ok (prefix, bytes)
  unfolding read_prices
  prices_done le =
      let k : count - i ≡ 0 = omega arith in
      sym so_far ∙ rw k (simp append-nil)

-- ---- where the lists grow

pub bookings_grow : (version : Version) (count i n : ℕ) (all bytes : List ℕ) (rows : List Row) (assigned : List (Option ℕ))
    → ((m : ℕ) → i ≤ m → with_entries rows assigned (read_bookings version (m - i) (n + i) bytes) ≡ read_bookings version m n all)
    → (fields : List (List ℕ)) (after : List ℕ) (e : Entry) → i < count → read_line (n + i) bytes ≡ Ok (fields, after) → read_booking version (n + i) fields ≡ Ok e → SomeBookings version count n all
bookings_grow version count i n all bytes rows assigned so_far fields after e lt line booking =
    let total = read_bookings version (i + 1) n all in
    let next = booking_follows version (i + 1) i n bytes rows assigned total (so_far (i + 1) (omega arith)) fields after e (omega arith) line booking in
    let made = bookings_done version (i + 1) (i + 1) n after (rows ++ e.row ∷ []) (assigned ++ e.channel ∷ []) total next (omega arith) in
    (i + 1, omega arith, omega arith, (entries (rows ++ e.row ∷ []) (assigned ++ e.channel ∷ []) after, made))

pub prices_grow : (count i n : ℕ) (all bytes : List ℕ) (prefix : List Charge)
    → ((m : ℕ) → i ≤ m → with_prices prefix (read_prices (m - i) (n + i) bytes) ≡ read_prices m n all)
    → (fields : List (List ℕ)) (after : List ℕ) (p : Charge) → i < count → read_line (n + i) bytes ≡ Ok (fields, after) → read_price (n + i) fields ≡ Ok p → SomePrices count n all
prices_grow count i n all bytes prefix so_far fields after p lt line price =
    let total = read_prices (i + 1) n all in
    let next = price_follows (i + 1) i n bytes prefix total (so_far (i + 1) (omega arith)) fields after p (omega arith) line price in
    let made = prices_done (i + 1) (i + 1) n after (prefix ++ p ∷ []) total next (omega arith) in
    (i + 1, omega arith, omega arith, ((prefix ++ p ∷ [], after), made))
