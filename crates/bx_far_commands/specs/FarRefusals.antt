-- Why the far end of a day is refused, and what it did to its output then.
use Rattle.std.specs.Prelude.{◌≡◌, ℕ, true, false, List, Option, ◌⊎◌}
use Rattle.bx_devices.specs.declared.watched.Watched.{Watched}
use Rattle.bx_devices.specs.Watching.{device_of, is_faulted}
use Rattle.bx_check_commands.specs.declared.fault.CommandFault.TheVariants.{CannotWrite}
use Rattle.bx_request.specs.declared.request.FarRequest.{FarRequest}
use Rattle.bx_day_openings.specs.AtHand.{HasFirst, HasFarEnd, HasFile}
use Rattle.bx_day_openings.specs.OpeningRefusals.{IsNoFirst, IsNoFarEnd, IsNoFile, IsUnconnected}
use Rattle.bx_far_commands.specs.CapturedDays.{IsFarDone, IsFarStopped}
use Rattle.bx_far_commands.specs.Days.{IsFarCut}
use Rattle.bx_day_openings.specs.declared.fault.DayCommandFault.{DayCommandFault}
use Rattle.bx_day_openings.specs.declared.fault.DayCommandFault.TheVariants.{Command, Link}

-- the session had a fault
abbrev pub IsSessionFault : DayCommandFault → Type 0
IsSessionFault (Link fault) = Unit {0}
IsSessionFault _ = ⊥

-- why a day does not come to its end once it is opened; where that is a fault of the session, this was kept of it
abbrev pub IsUnjoined : Type 0 → DayCommandFault → Type 0
IsUnjoined kept fault = IsUnconnected fault ⊎ (IsSessionFault fault × kept)

-- why it stops: what it needs is opened in this order, and what is tested first is answered
abbrev pub StopsFarEnd : {F : Type 0} → (F → Option (List ℕ)) → FarRequest → DayCommandFault → Type 0
StopsFarEnd files request fault =
    IsNoFirst request.sight.capture fault
    ⊎ (HasFirst request.sight.capture × IsNoFarEnd request.script.now fault)
    ⊎ (HasFirst request.sight.capture × HasFarEnd × IsNoFile request.sight.capture fault)
    ⊎ (HasFirst request.sight.capture × HasFarEnd × HasFile files request.sight.capture × IsUnjoined (IsFarStopped files request.sight.capture) fault)

-- the output has failed, and a prefix of what was to be written was written; at any other fault there is this reason
-- for it, and the output is as it was
abbrev pub IsRefusedRun : {W : Type 0} → (DayCommandFault → Type 0) → (Option (List ℕ) → Option (List ℕ) → Type 0) → (W → Option (List ℕ)) → Watched W → Watched W → DayCommandFault → Type 0
IsRefusedRun reason cut contents old new (Command CannotWrite) = (is_faulted new ≡ true) × cut (contents (device_of old)) (contents (device_of new))
IsRefusedRun reason cut contents old new fault = reason fault × (new ≡ old)

-- why it told nothing, or not all
abbrev pub IsFarNotDone : {F W : Type 0} → (F → Option (List ℕ)) → FarRequest → (W → Option (List ℕ)) → Watched W → Watched W → DayCommandFault → Type 0
IsFarNotDone files request contents old new fault = IsRefusedRun (StopsFarEnd files request) IsFarCut contents old new fault

-- the same; or it told all, and the file of its capture was not written whole
abbrev pub IsFarRefusal : {F W : Type 0} → (F → Option (List ℕ)) → FarRequest → (W → Option (List ℕ)) → Watched W → Watched W → DayCommandFault → Type 0
IsFarRefusal files request contents old new fault =
    IsFarNotDone files request contents old new fault ⊎ (IsFarDone files request.sight.capture (contents (device_of old)) (contents (device_of new)) false × IsNoFile request.sight.capture fault)
