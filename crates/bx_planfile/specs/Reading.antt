-- Reading a plan from its first line to its last, with the first fault that is met.
use Rattle.std.specs.Prelude.{◌≡◌, ◌⊎◌, ◌≤◌, ℕ, zero, suc, ◌+◌, ◌==◌, nat_le, List, [], ◌∷◌, length, Bool, Option, Some, None, Result, Ok, Err, codes, if◌then◌else◌}
use Rattle.bx_base.specs.Bookings.{Row}
use Rattle.bx_base.specs.Bound.{Charge}
use Rattle.bx_base.specs.PlanParts.{Parts}
use Rattle.bx_planfile.specs.declared.version.Version.{Version}
use Rattle.bx_planfile.specs.declared.fault.PlanTextFault.{PlanTextFault}
use Rattle.bx_planfile.specs.declared.fault.PlanTextFault.TheVariants.{BadLine, BadCount, OutOfLimits, Trailing, Memory}
use Rattle.bx_planfile.specs.Lines.{first_line}
use Rattle.bx_planfile.specs.Forms.{Entry, header_form, named_form, channels_form, channel_set, booking_form, is_within, price_form, is_charge, is_end}
use Rattle.bx_base.specs.declared.bookings.TheConstants.{MAX_BOOKINGS}
use Rattle.bx_base.specs.declared.plan.TheConstants.{MAX_PRICES, MAX_TOTAL}

infixl 10 ◌>>=◌
abbrev pub ◌>>=◌ : {A B : Type 0} → Result A PlanTextFault → (A → Result B PlanTextFault) → Result B PlanTextFault
(Ok x) >>= f = f x
(Err e) >>= f = Err e

-- What a function returned, seen by view, is what reading gives, unless memory was refused.
abbrev pub Fails : {Y : Type 0} → PlanTextFault → Result Y PlanTextFault → Type 0
Fails (BadLine n) read = read ≡ Err (BadLine n)
Fails BadCount read = read ≡ Err BadCount
Fails (OutOfLimits n) read = read ≡ Err (OutOfLimits n)
Fails Trailing read = read ≡ Err Trailing
Fails Memory read = Unit {0}

abbrev pub Gives : {X Y : Type 0} → (X → Y) → Result X PlanTextFault → Result Y PlanTextFault → Type 0
Gives view (Ok x) read = read ≡ Ok (view x)
Gives view (Err e) read = Fails e read

-- a value where there is one, and else this fault
abbrev pub or_fault : {A : Type 0} → PlanTextFault → Option A → Result A PlanTextFault
or_fault e None = Err e
or_fault e (Some x) = Ok x

-- a value where the test holds, and else this fault
abbrev pub where_holds : {A : Type 0} → Bool → PlanTextFault → A → Result A PlanTextFault
where_holds holds e x = if holds then Ok x else Err e

-- the fields of the first line, which is line n of the text, and what stands after it
unfoldable pub read_line : ℕ → List ℕ → Result (List (List ℕ) × List ℕ) PlanTextFault
read_line n bytes = or_fault (BadLine n) (first_line bytes)

-- Each reads the fields of line n. The form comes before the limits.
unfoldable pub read_header : ℕ → List (List ℕ) → Result Version PlanTextFault
read_header n fields = or_fault (BadLine n) (header_form fields)

unfoldable pub read_channels : ℕ → List (List ℕ) → Result (List Bool) PlanTextFault
read_channels n fields = do
  numbers ← or_fault (BadLine n) (channels_form fields)
  or_fault (OutOfLimits n) (channel_set numbers)

unfoldable pub read_count : List ℕ → ℕ → ℕ → List (List ℕ) → Result ℕ PlanTextFault
read_count word most n fields = do
  count ← or_fault (BadLine n) (named_form word fields)
  where_holds (nat_le count most) BadCount count

unfoldable pub read_booking : Version → ℕ → List (List ℕ) → Result Entry PlanTextFault
read_booking version n fields = do
  entry ← or_fault (BadLine n) (booking_form version fields)
  where_holds (is_within entry) (OutOfLimits n) entry

unfoldable pub read_price : ℕ → List (List ℕ) → Result Charge PlanTextFault
read_price n fields = do
  price ← or_fault (BadLine n) (price_form fields)
  where_holds (is_charge price) (OutOfLimits n) price

unfoldable pub read_total : ℕ → List (List ℕ) → Result ℕ PlanTextFault
read_total n fields = do
  total ← or_fault (BadLine n) (named_form (codes "total") fields)
  where_holds (nat_le total MAX_TOTAL) (OutOfLimits n) total

-- the last line, with nothing after it
unfoldable pub read_end : ℕ → List (List ℕ) → List ℕ → Result (List ℕ) PlanTextFault
read_end n fields rest = do
  following ← where_holds (is_end fields) (BadLine n) rest
  where_holds (length following == 0) Trailing following

-- bookings, and the channel of each, with what stands after them
pub record Entries : Type 0 where
  pub rows : List Row
  pub assigned : List (Option ℕ)
  pub rest : List ℕ

abbrev pub entries : List Row → List (Option ℕ) → List ℕ → Entries
entries rows assigned rest = record { rows = rows; assigned = assigned; rest = rest }

-- so many bookings, the first of them in line n
unfoldable pub read_bookings : Version → ℕ → ℕ → List ℕ → Result Entries PlanTextFault
read_bookings version zero n bytes = Ok (entries [] [] bytes)
read_bookings version (suc count) n bytes = do
  line ← read_line n bytes
  entry ← read_booking version n line.0
  more ← read_bookings version count (n + 1) line.1
  Ok (entries (entry.row ∷ more.rows) (entry.channel ∷ more.assigned) more.rest)

-- so many prices, the first of them in line n
unfoldable pub read_prices : ℕ → ℕ → List ℕ → Result (List Charge × List ℕ) PlanTextFault
read_prices zero n bytes = Ok ([], bytes)
read_prices (suc count) n bytes = do
  line ← read_line n bytes
  price ← read_price n line.0
  more ← read_prices count (n + 1) line.1
  Ok (price ∷ more.0, more.1)

-- from the count of the prices, in line n, to the end: the prices and the total
unfoldable pub read_tail : ℕ → List ℕ → Result (List Charge × ℕ) PlanTextFault
read_tail n bytes = do
  line ← read_line n bytes
  count ← read_count (codes "prices") MAX_PRICES n line.0
  prices ← read_prices count (n + 1) line.1
  last ← read_line (n + 1 + count) prices.1
  total ← read_total (n + 1 + count) last.0
  ending ← read_line (n + 2 + count) last.1
  rest ← read_end (n + 2 + count) ending.0 ending.1
  Ok (prices.0, total)

-- the lines before the bookings, and what stands after them
pub record Head : Type 0 where
  pub version : Version
  pub channels : List Bool
  pub count : ℕ
  pub rest : List ℕ

abbrev pub head_of : Version → List Bool → ℕ → List ℕ → Head
head_of version channels count rest = record { version = version; channels = channels; count = count; rest = rest }

unfoldable pub read_head : List ℕ → Result Head PlanTextFault
read_head bytes = do
  first ← read_line 1 bytes
  version ← read_header 1 first.0
  second ← read_line 2 first.1
  channels ← read_channels 2 second.0
  third ← read_line 3 second.1
  count ← read_count (codes "bookings") MAX_BOOKINGS 3 third.0
  Ok (head_of version channels count third.1)

-- all lines of a plan
unfoldable pub read_all : List ℕ → Result Parts PlanTextFault
read_all bytes = do
  head ← read_head bytes
  entries ← read_bookings head.version head.count 4 head.rest
  tail ← read_tail (4 + head.count) entries.rest
  Ok (record { rows = entries.rows; channels = head.channels; assigned = entries.assigned; prices = tail.0; total = tail.1 })

-- Places at which a plan that is read grows: after the line of a booking or of a price, where all lines up to
-- it have no fault.
abbrev pub SomeBookings : Version → ℕ → ℕ → List ℕ → Type 0
SomeBookings version count n bytes = (k : ℕ) × (1 ≤ k) × (k ≤ count) × ((x : Entries) × (read_bookings version k n bytes ≡ Ok x))

abbrev pub SomePrices : ℕ → ℕ → List ℕ → Type 0
SomePrices count n bytes = (k : ℕ) × (1 ≤ k) × (k ≤ count) × ((x : List Charge × List ℕ) × (read_prices k n bytes ≡ Ok x))

pub record GrowsInTail (n : ℕ) (bytes : List ℕ) : Type 0 where
  pub line : List (List ℕ) × List ℕ
  pub count : ℕ
  pub is_line : read_line n bytes ≡ Ok line
  pub is_count : read_count (codes "prices") MAX_PRICES n line.0 ≡ Ok count
  pub grows : SomePrices count (n + 1) line.1

pub record Grows (bytes : List ℕ) : Type 0 where
  pub head : Head
  pub is_head : read_head bytes ≡ Ok head
  pub grows : SomeBookings head.version head.count 4 head.rest
      ⊎ ((x : Entries) × (read_bookings head.version head.count 4 head.rest ≡ Ok x) × GrowsInTail (4 + head.count) x.rest)
