-- Why a live day is refused, and what was written then.
use Rattle.std.specs.Prelude.{◌≡◌, ◌⊎◌, ℕ, true, List, Option}
use Rattle.bx_check_commands.specs.declared.fault.CommandFault.TheVariants.{CannotWrite, Memory}
use Rattle.bx_day_openings.specs.Hours.{IsNoHours}
use Rattle.bx_day_openings.specs.OpeningRefusals.{IsNoOpening, IsUnheard, IsNoLine}
use Rattle.bx_day_openings.specs.declared.fault.DayCommandFault.{DayCommandFault}
use Rattle.bx_day_openings.specs.declared.fault.DayCommandFault.TheVariants.{Command}
use Rattle.bx_devices.specs.Watching.{device_of, is_faulted}
use Rattle.bx_devices.specs.declared.watched.Watched.{Watched}
use Rattle.bx_request.specs.declared.request.LiveRequest.{LiveRequest}
use Rattle.bx_live_commands.specs.Heads.{live_head}
use Rattle.bx_live_commands.specs.LiveDays.{IsAtHand, IsLiveCut, IsLiveStopped, IsLiveUp, has_office}
use Rattle.bx_journal_files.specs.OpeningFaults.{OfOpening, IsUnlogged}
use Rattle.bx_journal_files.specs.Resuming.{IsNoLog}
use Rattle.bx_journal_files.specs.declared.fault.LiveFault.{LiveFault}
use Rattle.bx_journal_files.specs.declared.fault.LiveFault.TheVariants.{Day as OfDay, StillUp}

-- nobody can be let in at the office, or memory runs out
abbrev pub IsNoOffice : DayCommandFault → Type 0
IsNoOffice (Command Memory) = Unit {0}
IsNoOffice fault = IsUnheard fault

-- Why it stops: what it needs is opened in this order, and what is tested first is answered. So a journal is not touched where the
-- line is in use. Once it runs it stops only where its journal's disk has failed, or what came is no event of a journal.
abbrev pub StopsLive : Type 0 → Type 0 → LiveRequest → LiveFault → Type 0
StopsLive H F request fault =
    OfOpening (IsNoHours request.hours) fault
    ⊎ OfOpening (IsNoOpening request.plan.now) fault
    ⊎ (IsAtHand request × OfOpening IsNoLine fault)
    ⊎ (IsAtHand request × (has_office request ≡ true) × OfOpening IsNoOffice fault)
    ⊎ ((at_hand : IsAtHand request) × (IsNoLog request.journal (live_head at_hand.digest at_hand.hours) at_hand.channels at_hand.opened fault ⊎ (IsUnlogged request.journal fault × IsLiveStopped H F request)))

-- the output has failed, and a prefix of what was to be told was; or all of it was told, and calls are up; or the day stopped, and the
-- output is as it was
abbrev pub IsLiveRefusal : {F W : Type 0} → Type 0 → (F → Option (List ℕ)) → LiveRequest → (W → Option (List ℕ)) → Watched W → Watched W → LiveFault → Type 0
IsLiveRefusal H files request contents old new (OfDay (Command CannotWrite)) = (is_faulted new ≡ true) × IsLiveCut H files request (contents (device_of old)) (contents (device_of new))
IsLiveRefusal H files request contents old new StillUp = IsLiveUp H files request (contents (device_of old)) (contents (device_of new))
IsLiveRefusal {F = F} H files request contents old new fault = StopsLive H F request fault × (new ≡ old)
