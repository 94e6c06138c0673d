-- What is written of what each count of channels would earn, and what each refusal says.
use Rattle.std.specs.Prelude.{◌≡◌, ℕ, true, List}
use Rattle.std.specs.Io.KnownBytes.{Appends}
use Rattle.bx_base.specs.Bookings.{Row}
use Rattle.bx_devices.specs.Devices.{Reading, Writing, KeepsOutput}
use Rattle.bx_devices.specs.Octets.{AppendsPrefix}
use Rattle.bx_book.specs.Rows.{Span}
use Rattle.bx_book.specs.Streams.{IsBookRead, IsStreamFault}
use Rattle.bx_planner.specs.Earnings.{AreEarnings}
use Rattle.bx_planner.specs.declared.earnings.Earning.{Earning}
use Rattle.bx_plan_commands.specs.EarningLines.{earning_lines}
use Rattle.bx_plan_commands.specs.declared.earning.CapacityFault.{CapacityFault}
use Rattle.bx_plan_commands.specs.declared.earning.CapacityFault.TheVariants.{Unread, WriteFailed, Memory}

-- the lines of what 0 to 30 channels would earn with these bookings
pub record IsTable (rows : List Row) (text : List ℕ) : Type 0 where
  pub earnings : List Earning
  pub are : AreEarnings rows earnings
  pub lines : text ≡ earning_lines 0 earnings

-- the input was read to its end, and just the lines of its bookings were written
pub record IsTabled (input : Reading) (output : Writing) (span : Span) : Type 0 where
  pub rows : List Row
  pub read : IsBookRead input span rows
  pub text : List ℕ
  pub table : IsTable rows text
  pub written : Appends output.before output.after text

-- a prefix of them was
pub record IsCutTable (input : Reading) (output : Writing) (span : Span) : Type 0 where
  pub rows : List Row
  pub read : IsBookRead input span rows
  pub text : List ℕ
  pub table : IsTable rows text
  pub written : AppendsPrefix output.before output.after text

-- each refusal: what went wrong, and that nothing was written, but where the output failed
abbrev pub IsCapacityRefusal : Reading → Writing → Span → CapacityFault → Type 0
IsCapacityRefusal input output span (Unread fault) = IsStreamFault input span fault × KeepsOutput output
IsCapacityRefusal input output span WriteFailed = (output.is_faulted ≡ true) × IsCutTable input output span
IsCapacityRefusal input output span Memory = ((rows : List Row) × IsBookRead input span rows) × KeepsOutput output
