-- Private: what its functions promise one another.
use Rattle.std.specs.Prelude.{◌≡◌, ℕ, true, List, Err, Bool}
use Rattle.hex.specs.Hex.{decode_of}
use Rattle.hex.specs.declared.error.FromHexError.{FromHexError}
use Rattle.bx_check_commands.specs.declared.fault.CommandFault.{CommandFault}
use Rattle.bx_check_commands.specs.declared.fault.CommandFault.TheVariants.{CannotWrite, NotHex, Memory, Check}
use Rattle.bx_devices.specs.Devices.{Writing, KeepsOutput}
use Rattle.bx_devices.specs.Octets.{AppendsPrefix}
use Rattle.bx_base.specs.Bookings.{Row}
use Rattle.bx_base.specs.PlanParts.{Parts}
use Rattle.bx_check.specs.Check.{IsOutcome}
use Rattle.bx_check_commands.specs.Proved.{IsProvedFor, proved_line}

-- the text is no hexadecimal, or there was no memory for its octets
abbrev pub IsHexFault : List ℕ → CommandFault → Type 0
IsHexFault text NotHex = (e : FromHexError) × (decode_of text ≡ Err e)
IsHexFault text Memory = Unit {0}
IsHexFault text _ = ⊥

-- why a plan is not proved
abbrev pub IsFaulty : List Row → List Bool → Parts → CommandFault → Type 0
IsFaulty rows channels plan (Check fault) = IsOutcome rows channels plan (Err fault)
IsFaulty rows channels plan _ = ⊥

-- why a plan is not proved, or its proof not written
abbrev pub IsPlanJudged : List Row → List Bool → Parts → Writing → CommandFault → Type 0
IsPlanJudged rows channels plan output (Check fault) = IsOutcome rows channels plan (Err fault) × KeepsOutput output
IsPlanJudged rows channels plan output CannotWrite = (output.is_faulted ≡ true) × ((total : ℕ) × IsProvedFor rows channels plan total × AppendsPrefix output.before output.after (proved_line total))
IsPlanJudged rows channels plan output _ = ⊥
