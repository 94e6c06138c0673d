-- What is written of a plan.
use Rattle.std.specs.Prelude.{◌≡◌, ◌++◌, true, List, Option, ℕ, codes}
use Rattle.std.specs.Io.KnownBytes.{Appends}
use Rattle.bx_devices.specs.Devices.{Writing, KeepsOutput}
use Rattle.bx_devices.specs.Octets.{AppendsPrefix}
use Rattle.bx_base.specs.PlanParts.{Parts}
use Rattle.bx_calendar.specs.declared.clock.Clock.{Clock}
use Rattle.bx_chart.specs.Plain.{is_plain}
use Rattle.bx_chart.specs.Bars.{bars}
use Rattle.bx_chart.specs.Barless.{IsBarless}
use Rattle.bx_chart.specs.Frames.{head, gain_words, front}
use Rattle.bx_chart.specs.Hours.{hours, room_of}
use Rattle.bx_chart.specs.declared.writing.ChartFault.{ChartFault}
use Rattle.bx_chart.specs.declared.writing.ChartFault.TheVariants as fault

-- a picture: LF and printable ASCII, with the total and the counts, what one more channel would add, a lane for each channel in
-- service, the bars of all that the plan accepts in the order of the rows, and no bar after them; and the hours at its end
pub record IsChart (plan : Parts) (gain : ℕ) (clock : Option Clock) (text : List ℕ) : Type 0 where
  pub plain : is_plain text ≡ true
  pub between : List ℕ
  pub barless : IsBarless between
  pub parts : text ≡ ((((((head plan (room_of plan clock) ++ gain_words gain) ++ front plan (room_of plan clock)) ++ bars plan clock) ++ codes "</svg>\n") ++ between) ++ hours plan clock) ++ codes "</svg>\n"

-- one was written
pub record IsDrawn (plan : Parts) (gain : ℕ) (clock : Option Clock) (output : Writing) : Type 0 where
  pub text : List ℕ
  pub is : IsChart plan gain clock text
  pub written : Appends output.before output.after text

-- a front of one was
pub record IsCutDrawn (plan : Parts) (gain : ℕ) (clock : Option Clock) (output : Writing) : Type 0 where
  pub text : List ℕ
  pub is : IsChart plan gain clock text
  pub written : AppendsPrefix output.before output.after text

-- each refusal: nothing was written, or the output failed
abbrev pub IsChartRefusal : Parts → ℕ → Option Clock → Writing → ChartFault → Type 0
IsChartRefusal plan gain clock output fault.Memory = KeepsOutput output
IsChartRefusal plan gain clock output fault.WriteFailed = (output.is_faulted ≡ true) × IsCutDrawn plan gain clock output
