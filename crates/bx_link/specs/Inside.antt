-- Private: how a turn ends.
use Rattle.std.specs.Prelude.{Result, Ok, Err, ℕ, List}
use Rattle.bx_far.specs.FarDay.{FarDay}
use Rattle.bx_frames.specs.declared.fault.LinkFault.{LinkFault}
use Rattle.bx_live.specs.declared.world.Loss.TheVariants as losses
use Rattle.bx_link.specs.Runs.{FarPlace, Losing, Hearing, far_owing}
use Rattle.bx_events.specs.Events.{Event}
use Rattle.bx_far.specs.Course.{far_line_next, far_line_text}
use Rattle.bx_live.specs.Acts.{Act}
use Rattle.bx_link.specs.Running.{FarRuns}

-- the place after what went well, or was broken off by a fault of the link
abbrev pub or_losing : {A : Type 0} → FarPlace → FarDay → Result A LinkFault → FarPlace
or_losing place d (Ok _) = place
or_losing place d (Err fault) = Losing d (losses.Fault fault)

-- an event happened while so much room is left for messages, and what is sent for it was written, or the link was lost
abbrev pub AnswersInRun : {W : Type 0} → (W → List Act → W → Type 0) → W → W → FarDay → Event → FarDay → Result (Unit {0}) LinkFault → Type 0
AnswersInRun did old new d event d' result =
    (room : ℕ) →
    FarRuns did old new (far_owing (far_line_next d event) room (far_line_text d event)) (or_losing (Hearing d' room) d' result)
