-- The rows of a script's text, and its first fault.
use Rattle.std.specs.Prelude.{ℕ, ◌==◌, ◌&&◌, if◌then◌else◌, Bool, List, length, codes, Option, Some, None}
use Rattle.std.specs.Str.{bytes_eq}
use Rattle.bx_text.specs.Forms.{Form}
use Rattle.bx_text.specs.Records.{field_of}
use Rattle.bx_text.specs.Rows.{HasRows, IsFirstFault}
use Rattle.bx_text.specs.declared.rows_fault.RowsFault.TheVariants as rows
use Rattle.bx_far.specs.ScriptRows.{IsScriptRowOf, IsScriptRowFault}
use Rattle.bx_far.specs.declared.row.ScriptRow.{ScriptRow}
use Rattle.bx_far.specs.declared.fault.ScriptFault.{ScriptFault}
use Rattle.bx_far.specs.declared.fault.ScriptFault.TheVariants as f

abbrev pub has_script_base : List (List ℕ) → Bool
has_script_base fields = bytes_eq (field_of fields 0) (codes "number") && bytes_eq (field_of fields 1) (codes "policy")
    && bytes_eq (field_of fields 2) (codes "seconds")

abbrev pub has_channel_column : List (List ℕ) → Bool
has_channel_column fields = has_script_base fields && bytes_eq (field_of fields 3) (codes "channel")

-- how many columns the rows have under this header, if it is one
abbrev pub script_columns : List (List ℕ) → Option ℕ
script_columns fields =
    if (length fields == 3) && has_script_base fields then Some 3
    else (if (length fields == 4) && has_channel_column fields then Some 4 else None)

-- what the rows of a script are
abbrev pub script_form : Form ScriptRow ScriptFault
script_form = record { columns_under = script_columns; IsRow = IsScriptRowOf; IsRowFault = IsScriptRowFault }

-- the text has just these rows
abbrev pub IsScript : List ℕ → List ScriptRow → Type 0
IsScript text script = HasRows script_form text script

-- the first fault of a text: what stands before it is without one
abbrev pub IsScriptFault : List ℕ → ScriptFault → Type 0
IsScriptFault text f.BadHeader = IsFirstFault script_form text rows.BadHeader
IsScriptFault text f.TooMany = IsFirstFault script_form text rows.TooMany
IsScriptFault text f.Memory = IsFirstFault script_form text rows.Memory
IsScriptFault text e = IsFirstFault script_form text (rows.Row e)
