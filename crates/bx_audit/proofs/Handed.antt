-- What a command answers, by what it called last.
use Rattle.std.proofs.Common.{ℕ, Bool, List, Option, Result, Ok, Err, OnOk}
use Rattle.std.specs.Prelude.{IfErr}
use Rattle.bx_calendar.specs.declared.clock.Clock.{Clock}
use Rattle.bx_check_commands.specs.declared.fault.CommandFault.TheVariants.{CannotWrite, Memory}
use Rattle.bx_day.specs.Day.{Day}
use Rattle.bx_day_chart.specs.Sights.{Sight}
use Rattle.bx_day_openings.specs.Recording.{IsClockOf}
use Rattle.bx_day_openings.specs.declared.fault.DayCommandFault.{DayCommandFault}
use Rattle.bx_day_openings.specs.declared.fault.DayCommandFault.TheVariants.{Command}
use Rattle.bx_devices.specs.Devices.{writing_of}
use Rattle.bx_devices.specs.declared.watched.Watched.{Watched}
use Rattle.bx_request.specs.declared.request.DayChartRequest.{DayChartRequest}
use Rattle.bx_request.specs.declared.request.SoldRequest.{SoldRequest}
use Rattle.bx_audit.specs.Charted.{IsDaySeen}
use Rattle.bx_audit.specs.Inside.{IsPlanUnwritten, IsDayUndrawn}
use Rattle.bx_audit.specs.Recorded.{IsDayTold}
use Rattle.bx_audit.specs.Uncharted.{IsDayChartCommandRefusal}
use Rattle.bx_audit.specs.Unsold.{IsSoldRefusal}
use Rattle.bx_audit.proofs.SoldDays.{last_of}

pub on_ok : {A E : Type 0} (P Q : Type 0) (r : Result A E) → (P → Q) → OnOk r P → OnOk r Q
on_ok P Q (Ok a) f p = f p
on_ok P Q (Err e) f p = tt

pub on_both : {A E : Type 0} (P Q R : Type 0) (r : Result A E) → (P → Q → R) → OnOk r P → OnOk r Q → OnOk r R
on_both P Q R (Ok a) f p q = f p q
on_both P Q R (Err e) f p q = tt

pub if_err : {A E : Type 0} (P Q : E → Type 0) (r : Result A E) → ((e : E) → P e → Q e) → IfErr r P → IfErr r Q
if_err P Q (Ok a) f p = tt
if_err P Q (Err e) f p = f e p

-- a picture that is not drawn
pub undrawn : {W : Type 0} (gives : List ℕ → Option (List ℕ) → Type 0) (request : DayChartRequest) (contents : W → Option (List ℕ)) (old new : Watched W) (day : Day) (channels : List Bool) (sight : Sight) (clock : Option Clock)
    → IsDaySeen gives request.plan.now request.journal.now channels day sight → IsClockOf request.day clock
    → (fault : DayCommandFault) → IsDayUndrawn day channels sight clock (writing_of contents old new) fault → IsDayChartCommandRefusal gives request contents old new fault
undrawn gives request contents old new day channels sight clock seen named (Command CannotWrite) (faulted, cut) = record {
  day = day;
  channels = channels;
  sight = sight;
  seen = seen;
  clock = clock;
  clock_of = named;
  faulted = faulted;
  cut = cut;
}
undrawn gives request contents old new day channels sight clock seen named (Command Memory) kept = kept
undrawn gives request contents old new day channels sight clock seen named fault none = absurd none

-- a last plan whose text is not written
pub unwritten : {W : Type 0} (gives : List ℕ → Option (List ℕ) → Type 0) (request : SoldRequest) (contents : W → Option (List ℕ)) (old new : Watched W) (day : Day) (channels : List Bool)
    → IsDayTold gives request.plan.now request.journal.now channels day
    → (fault : DayCommandFault) → IsPlanUnwritten day channels contents old new fault → IsSoldRefusal gives request contents old new fault
unwritten gives request contents old new day channels told (Command CannotWrite) cut = record {
  last = cut.last;
  is = last_of gives request.plan.now request.journal.now channels day told cut.last cut.is;
  faulted = cut.faulted;
  written = cut.written;
}
unwritten gives request contents old new day channels told (Command Memory) still = (tt, still)
unwritten gives request contents old new day channels told fault none = absurd none
