-- Private: what its functions promise one another.
use Rattle.std.specs.Prelude.{ℕ, ◌==◌, if◌then◌else◌, List, Option, Some, None, Result, Ok, Err, suc, [], ◌∷◌, slice_index_or}
use Rattle.bx_far.specs.declared.row.ScriptRow.{ScriptRow}
use Rattle.bx_far.specs.declared.row.ScriptRow.TheVariants.{Follows, Calls}
use Rattle.bx_far.specs.declared.fault.ScriptFault.{ScriptFault}
use Rattle.bx_far.specs.declared.fault.ScriptFault.TheVariants as f
use Rattle.bx_far.specs.ScriptRows.{IsScriptRowOf, IsScriptRowFault}
use Rattle.bx_text.specs.declared.rows_fault.RowsFault.{RowsFault}
use Rattle.bx_text.specs.declared.rows_fault.RowsFault.TheVariants as rows
use Rattle.bx_calls.specs.PlainCalls.{PlainUserCall}
use Rattle.bx_calls.specs.declared.transition.Next.{Next}
use Rattle.bx_calls.specs.declared.transition.Next.TheVariants.{Live, Over, Broken}

abbrev pub IsScriptRowRead : ℕ → ℕ → List (List ℕ) → Result ScriptRow ScriptFault → Type 0
IsScriptRowRead columns row fields (Ok entry) = IsScriptRowOf columns fields entry
IsScriptRowRead columns row fields (Err e) = IsScriptRowFault columns row fields e

-- a fault of rows as one of a script
abbrev pub script_told_as : RowsFault ScriptFault → ScriptFault
script_told_as rows.BadHeader = f.BadHeader
script_told_as (rows.Row e) = e
script_told_as rows.TooMany = f.TooMany
script_told_as rows.Memory = f.Memory

abbrev pub call_slot_at : List (Option PlainUserCall) → ℕ → Option PlainUserCall
call_slot_at slots c = slice_index_or slots c None

-- what is left in the slot of a call of which this became
abbrev pub live_call_of : Next PlainUserCall → Option PlainUserCall
live_call_of (Live call) = Some call
live_call_of Over = None
live_call_of Broken = None

-- how many rows call at this moment, and how many after it
abbrev pub calls_now : ℕ → List ScriptRow → ℕ
calls_now t [] = 0
calls_now t (Follows number policy ∷ rows) = calls_now t rows
calls_now t (Calls number moment channel ∷ rows) = if moment == t then suc (calls_now t rows) else calls_now t rows
