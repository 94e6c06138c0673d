-- Why words name no day, from what is said of each fault.
use Rattle.std.proofs.Common.{◌≡◌, ◌↔◌, ℕ, List, Result, Err, refl}
use Rattle.bx_base.specs.Channels.{AreChannels}
use Rattle.bx_calendar.specs.NamedDays.{IsDayFault}
use Rattle.bx_calendar.specs.declared.day.DayFault.{DayFault}
use Rattle.bx_calendar.specs.declared.day.DayFault.TheVariants.{BadDate, BadZone, OutOfRange, OddDay}
use Rattle.bx_plan_commands.specs.FileRefusals.{IsNoDay, AreNoTerms}
use Rattle.bx_plan_commands.specs.declared.fault.FileFault.{FileFault}
use Rattle.bx_plan_commands.specs.declared.fault.FileFault.TheVariants as files
use Rattle.bx_request.specs.declared.request.Terms.{Terms}

abbrev At : (T : Type 0) → DayFault → DayFault → Type 0
At T found named = ◌≡◌ {A = Result T DayFault} (Err found) (Err named)

pub no_day : {T : Type 0} (date zone : List ℕ) (fault : DayFault)
    → (At T fault BadDate ↔ IsDayFault date zone BadDate)
    → (At T fault BadZone → IsDayFault date zone BadZone)
    → (At T fault OutOfRange → IsDayFault date zone OutOfRange)
    → (At T fault OddDay → IsDayFault date zone OddDay)
    → IsDayFault date zone fault
no_day date zone BadDate (there, back) bad out odd = there refl
no_day date zone BadZone date_so bad out odd = bad refl
no_day date zone OutOfRange date_so bad out odd = out refl
no_day date zone OddDay date_so bad out odd = odd refl

pub no_terms : (terms : Terms) (fault : FileFault) → AreChannels terms.channels.items → IsNoDay terms.date.now terms.zone.now fault → AreNoTerms terms fault
no_terms terms (files.Day fault) channels why = (channels, why)
no_terms terms fault channels why = absurd why
