-- The rows of a script.
use Rattle.std.specs.Prelude.{◌≡◌, ◌≢◌, ℕ, ◌==◌, ◌&&◌, nat_le, if◌then◌else◌, Bool, List, length, codes, Option, Some, None, option_map, option_and_then}
use Rattle.std.specs.List.{list_all}
use Rattle.std.specs.Char.{is_ascii_digit}
use Rattle.std.specs.Str.{bytes_eq}
use Rattle.bx_q931.specs.Values.{is_number, is_channel}
use Rattle.bx_calls.specs.declared.user_state.Policy.{Policy}
use Rattle.bx_calls.specs.declared.user_state.Policy.TheVariants.{Answer, Busy, Silent, Alert, Proceed, Clear}
use Rattle.bx_text.specs.Digits.{decimal_value}
use Rattle.bx_text.specs.Records.{field_of}
use Rattle.bx_far.specs.declared.row.ScriptRow.{ScriptRow}
use Rattle.bx_far.specs.declared.row.ScriptRow.TheVariants.{Follows, Calls}
use Rattle.bx_far.specs.declared.fault.ScriptFault.{ScriptFault}
use Rattle.bx_far.specs.declared.fault.ScriptFault.TheVariants as f

-- 1 to 15 digits
abbrev pub number_of : List ℕ → Option (List ℕ)
number_of field = if is_number field then Some field else None

-- 1 to 6 digits with a value of 0 to 100,000
abbrev pub is_seconds : List ℕ → Bool
is_seconds field = nat_le 1 (length field) && nat_le (length field) 6 && list_all is_ascii_digit field && nat_le (decimal_value field) 100000

abbrev pub script_seconds_of : List ℕ → Option ℕ
script_seconds_of field = if is_seconds field then Some (decimal_value field) else None

-- a B channel, in one or two digits
abbrev pub is_channel_text : List ℕ → Bool
is_channel_text field = nat_le (length field) 2 && list_all is_ascii_digit field && is_channel (decimal_value field)

abbrev pub script_channel_of : List ℕ → Option ℕ
script_channel_of field = if is_channel_text field then Some (decimal_value field) else None

abbrev pub policy_word : List ℕ → ℕ → Option Policy
policy_word name seconds =
    if bytes_eq name (codes "answer") then Some (Answer seconds)
    else if bytes_eq name (codes "busy") then Some Busy
    else if bytes_eq name (codes "silent") then Some Silent
    else if bytes_eq name (codes "alert") then Some Alert
    else if bytes_eq name (codes "proceed") then Some Proceed
    else if bytes_eq name (codes "clear") then Some (Clear seconds)
    else None

-- a row that follows a policy: `*` stands for any number
abbrev pub follows_row : List ℕ → Policy → Option ScriptRow
follows_row called policy =
    if bytes_eq called (codes "*") then Some (Follows None policy)
    else option_map (λ number. Follows (Some number) policy) (number_of called)

-- a row that calls, at moment 1 or later
abbrev pub calls_at : ℕ → Option (List ℕ) → Option ℕ → Option ScriptRow
calls_at moment (Some number) (Some channel) = Some (Calls number moment channel)
calls_at moment _ _ = None

abbrev pub calls_row : List ℕ → ℕ → List ℕ → Option ScriptRow
calls_row called moment channel = if moment == 0 then None else calls_at moment (number_of called) (script_channel_of channel)

-- the channel of a row that does not call is empty, and so is a fourth field where there is none
abbrev pub policy_row : List (List ℕ) → ℕ → Option ScriptRow
policy_row fields seconds =
    if length (field_of fields 3) == 0
    then option_and_then (follows_row (field_of fields 0)) (policy_word (field_of fields 1) seconds)
    else None

abbrev pub script_row_in : ℕ → List (List ℕ) → ℕ → Option ScriptRow
script_row_in columns fields seconds =
    if (columns == 4) && bytes_eq (field_of fields 1) (codes "call")
    then calls_row (field_of fields 0) seconds (field_of fields 3)
    else policy_row fields seconds

-- the row of these fields, under a header of this many columns
abbrev pub script_row_of : ℕ → List (List ℕ) → Option ScriptRow
script_row_of columns fields = option_and_then (script_row_in columns fields) (script_seconds_of (field_of fields 2))

-- the fields are those of this row
pub record IsScriptRowOf (columns : ℕ) (fields : List (List ℕ)) (row : ScriptRow) : Type 0 where
  pub wide : length fields ≡ columns
  pub row_is : script_row_of columns fields ≡ Some row

-- the first fault of a row
abbrev pub IsScriptRowFault : ℕ → ℕ → List (List ℕ) → ScriptFault → Type 0
IsScriptRowFault columns row fields (f.WrongColumns r) = (r ≡ row) × (length fields ≢ columns)
IsScriptRowFault columns row fields (f.BadEntry r) = (r ≡ row) × (length fields ≡ columns) × (script_row_of columns fields ≡ None)
IsScriptRowFault columns row fields e = ⊥
