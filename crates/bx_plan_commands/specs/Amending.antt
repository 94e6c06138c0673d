-- What is written of an amended plan, and what each refusal says.
use Rattle.std.specs.Prelude.{◌≡◌, Bool, true, List}
use Rattle.std.specs.Io.KnownBytes.{Appends}
use Rattle.bx_base.specs.Bookings.{Row}
use Rattle.bx_devices.specs.Devices.{Writing, KeepsOutput}
use Rattle.bx_devices.specs.Octets.{AppendsPrefix}
use Rattle.bx_base.specs.PlanParts.{Parts, IsPlan}
use Rattle.bx_planfile.specs.declared.version.Version.TheVariants.{Three}
use Rattle.bx_planfile.specs.Text.{plan_text}
use Rattle.bx_plan_commands.specs.declared.amending.AmendFault.{AmendFault}
use Rattle.bx_plan_commands.specs.declared.amending.AmendFault.TheVariants.{Amend, WriteFailed}
use Rattle.bx_planner.specs.Amending.{IsBestPlan, IsNoAmendment}

-- this is a best plan of these rows and channels, and its text was written
pub record IsAmended (rows : List Row) (channels : List Bool) (output : Writing) (plan : Parts) : Type 0 where
  pub limits : IsPlan plan
  pub best : IsBestPlan rows channels plan
  pub written : Appends output.before output.after (plan_text Three plan)

-- a prefix of such a text was written
pub record IsCutAmended (rows : List Row) (channels : List Bool) (output : Writing) : Type 0 where
  pub plan : Parts
  pub limits : IsPlan plan
  pub best : IsBestPlan rows channels plan
  pub written : AppendsPrefix output.before output.after (plan_text Three plan)

-- each refusal: what went wrong, and that nothing was written, but where the output failed
abbrev pub IsAmendRefusal : List Row → List Bool → Writing → AmendFault → Type 0
IsAmendRefusal rows channels output (Amend fail) = IsNoAmendment rows channels fail × KeepsOutput output
IsAmendRefusal rows channels output WriteFailed = (output.is_faulted ≡ true) × IsCutAmended rows channels output
