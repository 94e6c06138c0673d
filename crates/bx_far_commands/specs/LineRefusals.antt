-- Why the far end of a day over a data link is refused, and what it did to its output then.
use Rattle.std.specs.Prelude.{ℕ, false, List, Option, ◌⊎◌}
use Rattle.bx_day_openings.specs.AtHand.{HasFarEnd, HasFile}
use Rattle.bx_day_openings.specs.Hours.{AreHours, IsNoHours}
use Rattle.bx_day_openings.specs.OpeningRefusals.{IsNoFarEnd, IsNoFile, IsNoLine}
use Rattle.bx_day_openings.specs.declared.fault.DayCommandFault.{DayCommandFault}
use Rattle.bx_day_openings.specs.declared.hours.Hours.{Hours}
use Rattle.bx_devices.specs.Watching.{device_of}
use Rattle.bx_devices.specs.declared.watched.Watched.{Watched}
use Rattle.bx_far_commands.specs.FarRefusals.{IsRefusedRun}
use Rattle.bx_far_commands.specs.LineDays.{IsFarLineDone, IsFarLineCut, capture_of}
use Rattle.bx_request.specs.declared.request.DayHours.{DayHours}
use Rattle.bx_request.specs.declared.request.FarLineRequest.{FarLineRequest}

-- when the day is
abbrev pub HasHours : DayHours → Type 0
HasHours words = (hours : Hours) × AreHours words hours

-- why it stops: what it needs is opened in this order, and what is tested first is answered
abbrev pub StopsFarLine : {F : Type 0} → (F → Option (List ℕ)) → FarLineRequest → DayCommandFault → Type 0
StopsFarLine files request fault =
    IsNoHours request.hours fault
    ⊎ (HasHours request.hours × IsNoFarEnd request.script.now fault)
    ⊎ (HasHours request.hours × HasFarEnd × IsNoFile (capture_of request) fault)
    ⊎ (HasHours request.hours × HasFarEnd × HasFile files (capture_of request) × IsNoLine fault)

-- why it told nothing, or not all
abbrev pub IsFarLineNotDone : {F W : Type 0} → Type 0 → (F → Option (List ℕ)) → FarLineRequest → (W → Option (List ℕ)) → Watched W → Watched W → DayCommandFault → Type 0
IsFarLineNotDone H files request contents old new fault = IsRefusedRun (StopsFarLine files request) (IsFarLineCut H files request) contents old new fault

-- the same; or it told all, and the file of its capture was not written whole
abbrev pub IsFarLineRefusal : {F W : Type 0} → Type 0 → (F → Option (List ℕ)) → FarLineRequest → (W → Option (List ℕ)) → Watched W → Watched W → DayCommandFault → Type 0
IsFarLineRefusal H files request contents old new fault =
    IsFarLineNotDone H files request contents old new fault
    ⊎ (IsFarLineDone H files request (contents (device_of old)) (contents (device_of new)) false × IsNoFile (capture_of request) fault)
