-- A day of either end over events, by what an event makes of it, and by what is written for it.
use Rattle.std.specs.Prelude.{ℕ, suc, Bool, true, false, List, [], ◌∷◌, ◌++◌, Option, Some, None}
use Rattle.arrayvec.specs.ArrayVec.{ArrayVec}
use Rattle.bx_events.specs.Events.{Event, Tick, Receive}
use Rattle.bx_frames.specs.Frames.{frame_with}

-- ---- replies

-- the frame of a reply, where there is one
abbrev pub reply_frame : Option (ArrayVec ℕ) → List ℕ
reply_frame None = []
reply_frame (Some reply) = frame_with reply

-- the messages of a reply: one, or none
abbrev pub reply_messages : Option (ArrayVec ℕ) → List (ArrayVec ℕ)
reply_messages None = []
reply_messages (Some reply) = reply ∷ []

-- ---- events one after another

-- the day after them
abbrev pub after : {D : Type 0} → (D → Event → D) → List Event → D → D
after next [] d = d
after next (e ∷ es) d = after next es (next d e)

-- what is written for them
abbrev pub told : {D : Type 0} → (D → Event → D) → (D → Event → List ℕ) → List Event → D → List ℕ
told next text [] d = []
told next text (e ∷ es) d = text d e ++ told next text es (next d e)

-- how many of them are ticks
abbrev pub ticks_of : List Event → ℕ
ticks_of [] = 0
ticks_of (Tick ∷ es) = suc (ticks_of es)
ticks_of (Receive octets ∷ es) = ticks_of es

-- whether the last one is a tick, or with none before it as was said
abbrev pub ticks_last : Bool → List Event → Bool
ticks_last said [] = said
ticks_last said (Tick ∷ es) = ticks_last true es
ticks_last said (Receive octets ∷ es) = ticks_last false es
