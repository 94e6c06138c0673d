-- Private: how a choice is made: by a plan of all that is held, and of the eligible bookings of the batch.
use Rattle.std.specs.Prelude.{◌≡◌, ◌≤◌, ◌<◌, ℕ, ◌+◌, ◌&&◌, Bool, true, false, List, [], ◌∷◌, length, replicate, Option, if◌then◌else◌}
use Rattle.bx_base.specs.Bookings.{Row, row_at, row_of, pay_of}
use Rattle.bx_base.specs.Channels.{count_of}
use Rattle.bx_base.specs.Plans.{is_accepted}
use Rattle.bx_colour.specs.Colouring.{is_in, running_at}
use Rattle.bx_day.specs.Day.{Day}
use Rattle.bx_market.specs.Choices.{IsBestBatch}
use Rattle.bx_sales.specs.Left.{left_in_service}

-- a booking that a plan may leave out
abbrev pub free_row : Row → Row
free_row row = row_of row.start row.end row.pay row.number false false

-- those of a batch that are marked
abbrev pub free_rows : List Row → List Bool → List Row
free_rows [] eligible = []
free_rows (row ∷ rows) [] = []
free_rows (row ∷ rows) (true ∷ eligible) = free_row row ∷ free_rows rows eligible
free_rows (row ∷ rows) (false ∷ eligible) = free_rows rows eligible

-- the same, as they are
abbrev pub chosen_rows : List Row → List Bool → List Row
chosen_rows [] chosen = []
chosen_rows (row ∷ rows) [] = []
chosen_rows (row ∷ rows) (true ∷ chosen) = row ∷ chosen_rows rows chosen
chosen_rows (row ∷ rows) (false ∷ chosen) = chosen_rows rows chosen

-- which bookings of the batch are accepted, where the first that is marked has this place in the plan
abbrev pub chosen_marks : List Bool → List (Option ℕ) → ℕ → List Bool
chosen_marks [] assigned place = []
chosen_marks (eligible ∷ more) assigned place = (eligible && is_accepted assigned place) ∷ chosen_marks more assigned (if eligible then place + 1 else place)

-- each of these has to be held
abbrev pub AreMustRows : List Row → Type 0
AreMustRows held = (i : ℕ) → i < length held → (row_at held i).must ≡ true

-- at no moment more of those that are held, and of a batch, run than there are channels
abbrev pub FitsTogether : List Bool → List Row → List Row → List Bool → Type 0
FitsTogether channels held batch marks = (t : ℕ) → running_at held (replicate (length held) true) t + running_at batch marks t ≤ count_of channels

-- some eligible bookings of a batch, which the channels carry beside those that are held
pub record IsSelection (channels : List Bool) (held batch : List Row) (eligible marks : List Bool) : Type 0 where
  pub one_each : length marks ≡ length batch
  pub among : (i : ℕ) → is_in marks i ≡ true → is_in eligible i ≡ true
  pub fits : FitsTogether channels held batch marks

-- those that pay most; where the channels do not even carry what is held, none
pub record IsBestSelection (channels : List Bool) (held batch : List Row) (eligible marks : List Bool) : Type 0 where
  pub one_each : length marks ≡ length batch
  pub among : (i : ℕ) → is_in marks i ≡ true → is_in eligible i ≡ true
  pub fits : (i : ℕ) → is_in marks i ≡ true → FitsTogether channels held batch marks
  pub best : (other : List Bool) → IsSelection channels held batch eligible other → pay_of batch (is_in other) ≤ pay_of batch (is_in marks)

-- a best choice of a batch on the channels that are left
pub record IsBestOnLeft (channels : List Bool) (d : Day) (batch : List Row) (chosen : List Bool) : Type 0 where
  pub best : IsBestBatch (left_in_service channels d) d batch chosen
