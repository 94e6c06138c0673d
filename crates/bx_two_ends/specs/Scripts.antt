-- The premise of both laws on scripts: rows within their limits. Each script that is read keeps it.
use Rattle.std.specs.Prelude.{ℕ, ◌≤◌, List, length}
use Rattle.std.specs.List.{AllByRecursion}
use Rattle.bx_base.specs.declared.bookings.TheConstants.{MAX_BOOKINGS}
use Rattle.bx_channels.specs.ChannelNumbers.{IsChannel}
use Rattle.bx_channels.specs.Numbers.{IsNumber}
use Rattle.bx_far.specs.ScriptTexts.{IsScript}
use Rattle.bx_far.specs.declared.row.ScriptRow.{ScriptRow}
use Rattle.bx_far.specs.declared.row.ScriptRow.TheVariants.{Follows, Calls}

-- a row that calls names a number and a B channel
abbrev pub IsScriptRow : ScriptRow → Type 0
IsScriptRow (Follows number policy) = Unit {0}
IsScriptRow (Calls number moment channel) = IsNumber number × IsChannel channel

pub record AreScriptRows (script : List ScriptRow) : Type 0 where
  pub few : length script ≤ MAX_BOOKINGS
  pub each : AllByRecursion IsScriptRow script

-- of every script that a text is read as; that it has at most 16,000 rows is in the type of what `Script::read` answers
abbrev pub ScriptsFit : Type 0
ScriptsFit = (text : List ℕ) (script : List ScriptRow) → IsScript text script → AllByRecursion IsScriptRow script
