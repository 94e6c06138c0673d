-- The booking of a row, and the first fault of one.
use Rattle.std.specs.Prelude.{◌≡◌, ◌≢◌, ◌⊎◌, ◌<◌, ◌≤◌, ℕ, ◌&&◌, nat_le, nat_lt, if◌then◌else◌, Bool, true, false, ℤ, pos, ◌-ℤ◌, ◌<ℤ◌, List, length, codes, Option, Some, None, Result, Ok, Err}
use Rattle.std.specs.List.{list_all}
use Rattle.std.specs.Char.{is_ascii_digit}
use Rattle.std.specs.Str.{bytes_eq}
use Rattle.bx_base.specs.Bookings.{Row}
use Rattle.bx_channels.specs.Numbers.{IsNumber}
use Rattle.bx_text.specs.Digits.{decimal_value}
use Rattle.bx_text.specs.Records.{field_of}
use Rattle.bx_calendar.specs.DayParts.{start_of, length_of}
use Rattle.bx_calendar.specs.Times.{IsTime, is_whole_time, instant_of}
use Rattle.bx_calendar.specs.declared.day.Day.{Day}
use Rattle.bx_book.specs.declared.fault.BookFault.{BookFault}
use Rattle.bx_book.specs.declared.fault.BookFault.TheVariants as f

-- a day: its first second, and how many seconds it lasts
pub record Span : Type 0 where
  pub start : ℤ
  pub length : ℕ

abbrev pub span_of : Day → Span
span_of day = record { start = start_of day; length = length_of day }

-- the seconds from the start of the day to the time
abbrev pub since_start : ℤ → List ℕ → ℤ
since_start start field = instant_of field -ℤ start

-- the field is a time of a whole second, m seconds after the start of the day and not after its end
pub record IsMomentOf (span : Span) (field : List ℕ) (m : ℕ) : Type 0 where
  pub time : IsTime field
  pub whole : is_whole_time field ≡ true
  pub moment : since_start span.start field ≡ pos m
  pub within : m ≤ span.length

-- what is wrong with a field that should be such a time
abbrev pub IsTimeFault : Span → ℕ → List ℕ → BookFault → Type 0
IsTimeFault span row field (f.NotATime r) = (r ≡ row) × ¬ IsTime field
IsTimeFault span row field (f.NotWholeSeconds r) = (r ≡ row) × IsTime field × (is_whole_time field ≡ false)
IsTimeFault span row field (f.OutsideDay r) = (r ≡ row) × IsTime field × (is_whole_time field ≡ true)
    × ((since_start span.start field <ℤ pos 0) ⊎ (pos span.length <ℤ since_start span.start field))
IsTimeFault span row field e = ⊥

-- the moment of a field, or its fault
abbrev pub IsMomentRead : Span → ℕ → List ℕ → Result ℕ BookFault → Type 0
IsMomentRead span row field (Ok m) = IsMomentOf span field m
IsMomentRead span row field (Err e) = IsTimeFault span row field e

-- 1 to 10 digits with a value of 1 to 1,000,000,000
abbrev pub pay_value : List ℕ → ℕ
pay_value field = decimal_value field

abbrev pub is_pay : List ℕ → Bool
is_pay field = nat_le (length field) 10 && list_all is_ascii_digit field && nat_lt 0 (pay_value field) && nat_le (pay_value field) 1_000_000_000

-- one of two words, the second one for true
abbrev pub word_value : List ℕ → List ℕ → List ℕ → Option Bool
word_value plain marked field = if bytes_eq field plain then Some false else (if bytes_eq field marked then Some true else None)

-- the mark and the direction, where the header names them; the plain ones where it does not
abbrev pub must_of : ℕ → List (List ℕ) → Option Bool
must_of columns fields = if nat_lt columns 5 then Some false else word_value (codes "no") (codes "yes") (field_of fields 4)

abbrev pub inward_of : ℕ → List (List ℕ) → Option Bool
inward_of columns fields = if nat_lt columns 6 then Some false else word_value (codes "out") (codes "in") (field_of fields 5)

-- a row whose fields are as many as the header's, and whose first two are moments
pub record HasTimes (span : Span) (columns : ℕ) (fields : List (List ℕ)) (start end : ℕ) : Type 0 where
  pub wide : length fields ≡ columns
  pub starts : IsMomentOf span (field_of fields 0) start
  pub ends : IsMomentOf span (field_of fields 1) end

-- and which is without fault up to its number, or to its pay
abbrev pub IsRight : Span → ℕ → List (List ℕ) → Type 0
IsRight span columns fields = (start end : ℕ) × HasTimes span columns fields start end × (start < end)

abbrev pub IsRightToNumber : Span → ℕ → List (List ℕ) → Type 0
IsRightToNumber span columns fields = IsRight span columns fields × IsNumber (field_of fields 2)

abbrev pub IsRightToPay : Span → ℕ → List (List ℕ) → Type 0
IsRightToPay span columns fields = IsRightToNumber span columns fields × (is_pay (field_of fields 3) ≡ true)

-- the fields are those of this booking
pub record IsRowOf (span : Span) (columns : ℕ) (fields : List (List ℕ)) (row : Row) : Type 0 where
  pub times : HasTimes span columns fields row.start row.end
  pub in_order : row.start < row.end
  pub number_is : row.number ≡ field_of fields 2
  pub number : IsNumber (field_of fields 2)
  pub pay_is : row.pay ≡ pay_value (field_of fields 3)
  pub pay : is_pay (field_of fields 3) ≡ true
  pub must : must_of columns fields ≡ Some row.must
  pub inward : inward_of columns fields ≡ Some row.inward

-- the first fault of a row: the fields before are without one
abbrev pub IsRowFault : Span → ℕ → ℕ → List (List ℕ) → BookFault → Type 0
IsRowFault span columns row fields (f.WrongColumns r) = (r ≡ row) × (length fields ≢ columns)
IsRowFault span columns row fields (f.EndNotAfterStart r) = (r ≡ row) × (start end : ℕ) × HasTimes span columns fields start end × (end ≤ start)
IsRowFault span columns row fields (f.BadNumber r) = (r ≡ row) × IsRight span columns fields × ¬ IsNumber (field_of fields 2)
IsRowFault span columns row fields (f.BadPay r) = (r ≡ row) × IsRightToNumber span columns fields × (is_pay (field_of fields 3) ≡ false)
IsRowFault span columns row fields (f.BadMust r) = (r ≡ row) × IsRightToPay span columns fields × (must_of columns fields ≡ None)
IsRowFault span columns row fields (f.BadDirection r) = (r ≡ row) × IsRightToPay span columns fields × ((b : Bool) × (must_of columns fields ≡ Some b)) × (inward_of columns fields ≡ None)
IsRowFault span columns row fields e = (length fields ≡ columns)
    × (IsTimeFault span row (field_of fields 0) e ⊎ ((start : ℕ) × IsMomentOf span (field_of fields 0) start × IsTimeFault span row (field_of fields 1) e))
