-- The first fault of a row is that of its script.
use Rattle.std.proofs.Common.{ℕ, List, IfSome, Option, None, Some}
use Rattle.bx_text.specs.Rows.{IsFirstFault}
use Rattle.bx_text.specs.declared.rows_fault.RowsFault.{RowsFault}
use Rattle.bx_text.specs.declared.rows_fault.RowsFault.TheVariants as rows
use Rattle.bx_far.specs.ScriptTexts.{script_form, IsScriptFault}
use Rattle.bx_far.specs.Inside.{script_told_as}
use Rattle.bx_far.specs.declared.fault.ScriptFault.{ScriptFault}
use Rattle.bx_far.specs.declared.fault.ScriptFault.TheVariants as f

module _ (text : List ℕ) where
  row_told : (e : ScriptFault) → IsFirstFault script_form text (rows.Row e) → IsScriptFault text e
  row_told f.BadHeader h = absurd h.5
  row_told (f.WrongColumns r) h = h
  row_told (f.BadEntry r) h = h
  row_told f.TooMany h = absurd h.5
  row_told f.Memory h = tt

  fault_told : (e : RowsFault ScriptFault) → IsFirstFault script_form text e → IsScriptFault text (script_told_as e)
  fault_told rows.BadHeader h = h
  fault_told (rows.Row e) h = row_told e h
  fault_told rows.TooMany h = h
  fault_told rows.Memory h = tt

pub known_fault : (known : Option (List ℕ)) (e : RowsFault ScriptFault) → IfSome known (λ text. IsFirstFault script_form text e) → IfSome known (λ text. IsScriptFault text (script_told_as e))
known_fault None e h = tt
known_fault (Some text) e h = fault_told text e h
