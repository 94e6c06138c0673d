-- What the customer of a batch is told of each of its bookings.
use Rattle.std.specs.Prelude.{◌≡◌, ◌⊎◌, ◌≤◌, ◌<◌, ℕ, Bool, true, false, List, length, slice_index_or}
use Rattle.bx_base.specs.Bookings.{Row, row_at}
use Rattle.bx_colour.specs.Colouring.{is_in}
use Rattle.bx_day.specs.Day.{Day}
use Rattle.bx_day.specs.Changed.{AreReferredByRow}
use Rattle.bx_sales.specs.Sold.{AreSoldInTurn}
use Rattle.bx_sales.specs.declared.selling.NoSale.{NoSale}
use Rattle.bx_sales.specs.declared.selling.NoSale.TheVariants.{Late, Full, NoChannel, TookOver, Memory}
use Rattle.bx_market.specs.declared.market.Answer.{Answer}
use Rattle.bx_market.specs.declared.market.Answer.TheVariants.{Accepted, Refused}
use Rattle.bx_market.specs.Choices.{is_eligible, IsBestBatch, HasNoRoom}

abbrev pub answer_at : List Answer → ℕ → Answer
answer_at answers i = slice_index_or answers i (Refused Memory)

-- why a booking is not chosen
abbrev pub IsWhyNot : List Bool → Day → List Row → List Bool → ℕ → NoSale → Type 0
IsWhyNot channels d batch chosen i Late = (row_at batch i).start ≤ d.moment
IsWhyNot channels d batch chosen i Full = (d.moment < (row_at batch i).start) × (is_eligible d batch i ≡ false)
IsWhyNot channels d batch chosen i NoChannel = (is_eligible d batch i ≡ true) × HasNoRoom channels d batch chosen i
IsWhyNot channels d batch chosen i TookOver = ⊥
IsWhyNot channels d batch chosen i Memory = ⊥

-- from this day on some bookings were sold, and it then has one whose reference is not its row, as a day that took over from another
pub record HasTakenOver (channels : List Bool) (d : Day) : Type 0 where
  pub sold : List Row
  pub now : Day
  pub went : AreSoldInTurn channels sold d now
  pub other : ¬ AreReferredByRow now.entries

-- A booking that is chosen is sold, unless memory runs out, or the day took over from another. Of one that is not chosen it is told why
abbrev pub IsToldOf : List Bool → Day → List Row → List Bool → ℕ → Bool → Answer → Type 0
IsToldOf channels d batch chosen i true Accepted = Unit {0}
IsToldOf channels d batch chosen i true (Refused TookOver) = HasTakenOver channels d
IsToldOf channels d batch chosen i true (Refused Memory) = Unit {0}
IsToldOf channels d batch chosen i true (Refused _) = ⊥
IsToldOf channels d batch chosen i false Accepted = ⊥
IsToldOf channels d batch chosen i false (Refused why) = IsWhyNot channels d batch chosen i why

-- a best choice was made, and each booking is told what becomes of it
pub record AreToldByChoice (channels : List Bool) (d : Day) (batch : List Row) (answers : List Answer) : Type 0 where
  pub chosen : List Bool
  pub best : IsBestBatch channels d batch chosen
  pub one_each : length answers ≡ length batch
  pub each : (i : ℕ) → i < length batch → IsToldOf channels d batch chosen i (is_in chosen i) (answer_at answers i)

-- memory ran out before anything was chosen
pub record AreToldOfMemory (d : Day) (batch : List Row) (answers : List Answer) : Type 0 where
  pub one_each : length answers ≡ length batch
  pub late : (i : ℕ) → i < length batch → (row_at batch i).start ≤ d.moment → answer_at answers i ≡ Refused Late
  pub memory : (i : ℕ) → i < length batch → d.moment < (row_at batch i).start → answer_at answers i ≡ Refused Memory

-- what the customer of a batch is told, that was asked for on this day
abbrev pub AreTold : List Bool → Day → List Row → List Answer → Type 0
AreTold channels d batch answers = AreToldByChoice channels d batch answers ⊎ AreToldOfMemory d batch answers
