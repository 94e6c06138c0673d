-- What a planning run has read and written, and what each of its refusals says.
use Rattle.std.specs.Prelude.{◌≡◌, true, false, Bool, List}
use Rattle.std.specs.Io.KnownBytes.{Appends}
use Rattle.bx_base.specs.Bookings.{Row}
use Rattle.bx_devices.specs.Devices.{Reading, Writing, KeepsOutput}
use Rattle.bx_devices.specs.Octets.{AppendsPrefix, ReadsWithin}
use Rattle.bx_devices.specs.declared.octets.TheConstants.{MAX_OCTETS}
use Rattle.bx_base.specs.PlanParts.{Parts, IsPlan}
use Rattle.bx_book.specs.Rows.{Span}
use Rattle.bx_book.specs.Streams.{IsBookRead, IsStreamFault}
use Rattle.bx_book.specs.declared.stream.StreamFault.TheVariants as stream
use Rattle.bx_planfile.specs.declared.version.Version.TheVariants.{Three}
use Rattle.bx_planfile.specs.Text.{plan_text}
use Rattle.bx_planner.specs.Musts.{IsTooManyMust}
use Rattle.bx_plan_commands.specs.declared.planning.RunFault.{RunFault}
use Rattle.bx_plan_commands.specs.declared.planning.RunFault.TheVariants.{ReadFailed, TooLong, Book, TooManyMust, WriteFailed, Memory}
use Rattle.bx_planner.specs.Proved.{IsProved}

-- the input was read to its end, this is such a plan of its bookings, and its text was written
pub record IsPlanRun (input : Reading) (output : Writing) (span : Span) (channels : List Bool) (plan : Parts) : Type 0 where
  pub rows : List Row
  pub read : IsBookRead input span rows
  pub limits : IsPlan plan
  pub proved : IsProved rows channels plan
  pub written : Appends output.before output.after (plan_text Three plan)

-- a prefix of the text of such a plan was written
pub record IsPlanCut (input : Reading) (output : Writing) (span : Span) (channels : List Bool) : Type 0 where
  pub rows : List Row
  pub read : IsBookRead input span rows
  pub plan : Parts
  pub limits : IsPlan plan
  pub proved : IsProved rows channels plan
  pub written : AppendsPrefix output.before output.after (plan_text Three plan)

-- each refusal: what went wrong, and that nothing was written, but where the output failed
abbrev pub IsRunRefusal : Reading → Writing → Span → List Bool → RunFault → Type 0
IsRunRefusal input output span channels ReadFailed = IsStreamFault input span stream.ReadFailed × KeepsOutput output
IsRunRefusal input output span channels TooLong = IsStreamFault input span stream.TooLong × KeepsOutput output
IsRunRefusal input output span channels (Book fault) = IsStreamFault input span (stream.Book fault) × KeepsOutput output
IsRunRefusal input output span channels (TooManyMust moment) = ((rows : List Row) × IsBookRead input span rows × IsTooManyMust rows channels moment) × KeepsOutput output
IsRunRefusal input output span channels WriteFailed = (output.is_faulted ≡ true) × IsPlanCut input output span channels
IsRunRefusal input output span channels Memory = ((input.is_faulted ≡ false) × ReadsWithin input.before input.after MAX_OCTETS) × KeepsOutput output
