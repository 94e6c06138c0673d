-- Private: what the functions of a live day promise one another.
use Rattle.std.specs.Prelude.{◌≡◌, ◌⊎◌, ℕ, Bool, true, false, List, Option, Some, None, unwrap_or}
use Rattle.bx_day.specs.Day.{Day}
use Rattle.bx_day.specs.declared.outcome.GivenUp.{GivenUp}
use Rattle.bx_day_openings.specs.Hours.{AreHours}
use Rattle.bx_day_openings.specs.TiedDays.{IsTiedOpening}
use Rattle.bx_day_openings.specs.declared.hours.Hours.{Hours}
use Rattle.bx_day_openings.specs.declared.plan_opening.DayOpening.{DayOpening}
use Rattle.bx_request.specs.declared.request.LiveRequest.{LiveRequest}
use Rattle.bx_line_world.specs.Wires.{WireAct}
use Rattle.bx_live.specs.declared.log.Log.{Log}
use Rattle.bx_live.specs.declared.schedule.Schedule.{Schedule}
use Rattle.bx_calendar.specs.declared.day.Day.{Day as CalendarDay}
use Rattle.bx_office_door.specs.Lending.{Lending}
use Rattle.bx_office_door.specs.declared.shared.SharedDoor.{SharedDoor}
use Rattle.bx_live_commands.specs.LiveRuns.{RunsByLine, StopsByLine}
use Rattle.bx_live_commands.specs.OfficeRuns.{SellsByLine, StopsSelling}
use Rattle.bx_live_commands.specs.declared.by_office.Premises.{Premises}
use Rattle.bx_live_commands.specs.declared.live_end.LiveEnd.{LiveEnd}
use Rattle.bx_live_commands.specs.Heads.{live_head}
use Rattle.bx_live_commands.specs.LiveDays.{IsLiveDay, IsLiveStopped, has_office}
use Rattle.bx_journal_files.specs.OpeningFaults.{IsUnlogged}
use Rattle.bx_journal_files.specs.Resuming.{IsNoLog}
use Rattle.bx_journal_files.specs.declared.fault.LiveFault.{LiveFault}

-- an office is opened where one is wanted: it sells on these channels, on this day, at the rate that the words name; 0, where they name none
abbrev pub IsOpenAt : {S : Type 0} → Bool → List Bool → CalendarDay → Option ℕ → Option (Premises S) → Type 0
IsOpenAt is_wanted channels day rate None = is_wanted ≡ false
IsOpenAt is_wanted channels day rate (Some premises) = (is_wanted ≡ true) × ((premises.channels ≡ channels) × (premises.day ≡ day) × (premises.rate ≡ unwrap_or rate 0))

-- an opened day was run, where the opening, the hours and whether there is an office are those of the words
abbrev pub IsLiveRun : {F : Type 0} → Type 0 → (F → Option (List ℕ)) → LiveRequest → Hours → DayOpening → Option (Premises SharedDoor) → LiveEnd → Type 0
IsLiveRun H files request hours opening premises end =
    AreHours request.hours hours → IsTiedOpening opening.exchange opening.channels opening.digest → IsOpenAt (has_office request) opening.channels hours.day request.rate premises → IsLiveDay H files request end.exchange end.given_up.items

-- its journal is not read, or the run of such a day was over before its end
abbrev pub StopsRun : Type 0 → Type 0 → LiveRequest → Hours → DayOpening → Option (Premises SharedDoor) → LiveFault → Type 0
StopsRun H F request hours opening premises fault =
    AreHours request.hours hours → IsTiedOpening opening.exchange opening.channels opening.digest → IsOpenAt (has_office request) opening.channels hours.day request.rate premises
    → IsNoLog request.journal (live_head opening.digest hours) opening.channels opening.exchange fault ⊎ (IsUnlogged request.journal fault × IsLiveStopped H F request)

-- the rest of a day, with this office or without, on these channels
abbrev pub RunsWith : {W D S : Type 0} → Option (Premises S) → (W → List WireAct → W → Type 0) → (S → Lending → S → Type 0) → (D → List ℕ → Type 0) → (D → List ℕ → Type 0) → (D → ℕ) → (D → ℕ → List ℕ → Type 0) → (D → Bool) → W → Schedule → Log D → List Bool → ℕ → Day → Day → List (Option GivenUp) → List (Option GivenUp) → Type 0
RunsWith None did lent holds may_leave moment left_since has_failed wire schedule kept channels turns from to before after = RunsByLine did holds may_leave moment left_since has_failed wire schedule kept channels turns from to before after
RunsWith (Some premises) did lent holds may_leave moment left_since has_failed wire schedule kept channels turns from to before after = SellsByLine did lent holds may_leave moment left_since has_failed wire schedule kept premises turns from to before after

abbrev pub StopsWith : {W D S : Type 0} → Option (Premises S) → (W → List WireAct → W → Type 0) → (S → Lending → S → Type 0) → (D → List ℕ → Type 0) → (D → List ℕ → Type 0) → (D → ℕ) → (D → ℕ → List ℕ → Type 0) → (D → Bool) → W → Schedule → Log D → List Bool → ℕ → Day → Type 0
StopsWith None did lent holds may_leave moment left_since has_failed wire schedule kept channels turns from = StopsByLine did holds may_leave moment left_since has_failed wire schedule kept channels turns from
StopsWith (Some premises) did lent holds may_leave moment left_since has_failed wire schedule kept channels turns from = StopsSelling did lent holds may_leave moment left_since has_failed wire schedule kept premises turns from
