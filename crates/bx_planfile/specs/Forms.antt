-- The form of each line, and the limits of its values.
use Rattle.std.specs.Prelude.{ℕ, ◌==◌, ◌&&◌, ◌||◌, not, nat_lt, nat_le, List, [], ◌∷◌, length, map, Bool, true, false, Option, Some, None, codes, slice_index, slice_set, replicate, if◌then◌else◌}
use Rattle.std.specs.List.{list_all}
use Rattle.std.specs.Char.{is_ascii_digit}
use Rattle.std.specs.Str.{bytes_eq}
use Rattle.bx_base.specs.Bookings.{Row, row_of}
use Rattle.bx_base.specs.Bound.{Charge, charge_of}
use Rattle.bx_planfile.specs.declared.version.Version.{Version}
use Rattle.bx_planfile.specs.declared.version.Version.TheVariants.{One, Two, Three}
use Rattle.bx_text.specs.Digits.{decimal_value}
use Rattle.bx_planfile.specs.Lines.{field, fields_from}
use Rattle.bx_base.specs.declared.booking.TheConstants.{MAX_MOMENT, MAX_PAY}
use Rattle.bx_base.specs.declared.plan.TheConstants.{MAX_TOTAL}

abbrev pub is_nothing : List (List ℕ) → Bool
is_nothing fields = length fields == 0

-- one or more digits
abbrev pub is_digits : List ℕ → Bool
is_digits field = nat_lt 0 (length field) && list_all is_ascii_digit field

-- `0`, or digits with no leading zero
abbrev pub is_decimal : List ℕ → Bool
is_decimal field = is_digits field && (not (slice_index field 0 == 48) || (length field == 1))

-- ---- the first line

abbrev pub version_of : List ℕ → Option Version
version_of field =
    if bytes_eq field (codes "1") then Some One
    else (if bytes_eq field (codes "2") then Some Two else (if bytes_eq field (codes "3") then Some Three else None))

unfoldable pub header_form : List (List ℕ) → Option Version
header_form fields =
    if bytes_eq (field 0 fields) (codes "bx-plan") && is_nothing (fields_from 2 fields) then version_of (field 1 fields) else None

-- ---- a word and a number

unfoldable pub named_form : List ℕ → List (List ℕ) → Option ℕ
named_form word fields =
    if bytes_eq (field 0 fields) word && is_decimal (field 1 fields) && is_nothing (fields_from 2 fields)
    then Some (decimal_value (field 1 fields)) else None

-- ---- the channels

unfoldable pub channels_form : List (List ℕ) → Option (List ℕ)
channels_form fields =
    if bytes_eq (field 0 fields) (codes "channels") && list_all is_decimal (fields_from 1 fields)
    then Some (map decimal_value (fields_from 1 fields)) else None

-- the number of a B channel
abbrev pub is_channel_number : ℕ → Bool
is_channel_number n = nat_lt 0 n && nat_lt n 32 && not (n == 16)

-- a set, and these channels, each above the last one before it
abbrev pub with_channels : List Bool → ℕ → List ℕ → Option (List Bool)
with_channels set last [] = Some set
with_channels set last (n ∷ ns) = if nat_lt last n && is_channel_number n then with_channels (slice_set set n true) n ns else None

unfoldable pub channel_set : List ℕ → Option (List Bool)
channel_set numbers = with_channels (replicate 32 false) 0 numbers

-- ---- a booking

-- a booking, and its channel where it is accepted
pub record Entry : Type 0 where
  pub row : Row
  pub channel : Option ℕ

abbrev pub is_channel_field : List ℕ → Bool
is_channel_field field = bytes_eq field (codes "-") || is_decimal field

abbrev pub channel_field_of : List ℕ → Option ℕ
channel_field_of field = if bytes_eq field (codes "-") then None else Some (decimal_value field)

abbrev pub is_must_field : List ℕ → Bool
is_must_field field = bytes_eq field (codes "must") || bytes_eq field (codes "free")

abbrev pub is_direction_field : List ℕ → Bool
is_direction_field field = bytes_eq field (codes "in") || bytes_eq field (codes "out")

-- the marks after a booking
pub record Marks : Type 0 where
  pub must : Bool
  pub inward : Bool

abbrev pub marks : Bool → Bool → Marks
marks must inward = record { must = must; inward = inward }

abbrev pub marks_form : Version → List (List ℕ) → Option Marks
marks_form One fields = if is_nothing fields then Some (marks false false) else None
marks_form Two fields =
    if is_must_field (field 0 fields) && is_nothing (fields_from 1 fields)
    then Some (marks (bytes_eq (field 0 fields) (codes "must")) false) else None
marks_form Three fields =
    if is_must_field (field 0 fields) && is_direction_field (field 1 fields) && is_nothing (fields_from 2 fields)
    then Some (marks (bytes_eq (field 0 fields) (codes "must")) (bytes_eq (field 1 fields) (codes "in"))) else None

abbrev pub file_entry_of : List (List ℕ) → Marks → Entry
file_entry_of fields marks = record {
  row = row_of (decimal_value (field 0 fields)) (decimal_value (field 1 fields)) (decimal_value (field 2 fields)) (field 3 fields) marks.must marks.inward;
  channel = channel_field_of (field 4 fields);
}

abbrev pub marked : List (List ℕ) → Option Marks → Option Entry
marked fields None = None
marked fields (Some marks) = Some (file_entry_of fields marks)

unfoldable pub booking_form : Version → List (List ℕ) → Option Entry
booking_form version fields =
    if is_decimal (field 0 fields) && is_decimal (field 1 fields) && is_decimal (field 2 fields) && is_digits (field 3 fields) && is_channel_field (field 4 fields)
    then marked fields (marks_form version (fields_from 5 fields)) else None

abbrev pub is_assignable : Option ℕ → Bool
is_assignable None = true
is_assignable (Some channel) = is_channel_number channel

-- a booking within its limits, on a B channel where it is accepted
unfoldable pub is_within : Entry → Bool
is_within entry =
    nat_lt entry.row.start entry.row.end && nat_le entry.row.end MAX_MOMENT
    && nat_le 1 entry.row.pay && nat_le entry.row.pay MAX_PAY
    && nat_le (length entry.row.number) 15 && is_assignable entry.channel

-- ---- a price

unfoldable pub price_form : List (List ℕ) → Option Charge
price_form fields =
    if is_decimal (field 0 fields) && is_decimal (field 1 fields) && is_nothing (fields_from 2 fields)
    then Some (charge_of (decimal_value (field 0 fields)) (decimal_value (field 1 fields))) else None

unfoldable pub is_charge : Charge → Bool
is_charge price = nat_lt price.moment MAX_MOMENT && nat_le 1 price.amount && nat_le price.amount MAX_TOTAL

-- ---- the last line

unfoldable pub is_end : List (List ℕ) → Bool
is_end fields = bytes_eq (field 0 fields) (codes "end") && is_nothing (fields_from 1 fields)
