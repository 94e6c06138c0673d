-- An end of the link with a capture.
use Rattle.std.specs.Prelude.{ℕ, List, Option}
use Rattle.arrayvec.specs.ArrayVec.{ArrayVec}
use Rattle.bx_events.specs.Events.{Event}
use Rattle.bx_capture.specs.Captures.{packets_for, IsCaptured}
use Rattle.bx_capture.specs.declared.captured.Captured.{Captured}

-- the end has kept these events, and the file the packets of what the end heard and sent in them
abbrev pub IsEndCaptured : {E D W : Type 0} →
    (E → D) →
    (E → List Event → E → Type 0) →
    (D → Event → D) →
    (D → Event → List (ArrayVec ℕ)) →
    (D → ℕ) → (D → ℕ) →
    (W → Option (List ℕ)) →
    Captured E W → List Event → Captured E W → Type 0
IsEndCaptured day kept next sent moment turn contents old events new =
    kept old.end events new.end ×
    IsCaptured next (packets_for next sent moment turn) contents old.first new.first old.file new.file (day old.end) (day new.end) events
