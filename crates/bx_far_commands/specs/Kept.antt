-- Private: the days that were run, and what was kept of them.
use Rattle.std.specs.Prelude.{ℕ, Bool, List, Option}
use Rattle.bx_devices.specs.declared.watched.Watched.{Watched}
use Rattle.bx_capture.specs.Captures.{Keeps}
use Rattle.bx_events.specs.Events.{Event}
use Rattle.bx_far.specs.FarDay.{FarDay}
use Rattle.bx_request.specs.declared.request.CaptureWords.{CaptureWords}
use Rattle.bx_far_commands.specs.CapturedDays.{IsCaptureOf}
use Rattle.bx_far_commands.specs.Days.{IsFarMoment, far_packets, far_packets_of}

-- a day was run, and the file took the packets of it
abbrev pub IsFarKept : {F : Type 0} → (F → Option (List ℕ)) → Option (Watched F) → Option (Watched F) → ℕ → ℕ → Type 0
IsFarKept contents file closed first moment = (run : IsFarMoment moment) × Keeps contents file closed (far_packets_of run first)

-- it stopped after some events, and the file took the packets of these
abbrev pub IsFarKeptSoFar : {F : Type 0} → (F → Option (List ℕ)) → Option (Watched F) → Option (Watched F) → ℕ → FarDay → Type 0
IsFarKeptSoFar contents file closed first opened = (events : List Event) × Keeps contents file closed (far_packets first events opened)

-- a day was run, and captured as the words say
abbrev pub IsFarCaptured : {F : Type 0} → (F → Option (List ℕ)) → Option CaptureWords → ℕ → Bool → Type 0
IsFarCaptured contents capture moment is_whole = (run : IsFarMoment moment) × IsCaptureOf contents capture (far_packets_of run) is_whole
