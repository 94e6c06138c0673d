-- What each end and its devices are after one turn.
use Rattle.std.specs.Prelude.{◌≡◌, ℕ, Bool, true, false, List, Option, Result, Ok, Err, ◌⊎◌}
use Rattle.bx_frames.specs.Heard.{Went}
use Rattle.bx_devices.specs.declared.watched.Watched.{Watched}
use Rattle.bx_far.specs.FarDay.{FarDay}
use Rattle.bx_far.specs.Course.{far_next, far_text}
use Rattle.bx_link.specs.Talking.{far_turn}
use Rattle.bx_frames.specs.declared.fault.LinkFault.{LinkFault}
use Rattle.bx_frames.specs.declared.fault.LinkFault.TheVariants.{WriteFailed}
use Rattle.bx_frames.specs.declared.frame.Receiver.TheVariants.{FarEnd}

-- ---- one turn

-- a far end ticks just where an end of turn has come
abbrev pub tick_after : Result Bool LinkFault → ℕ → Type 0
tick_after (Ok true) n = n ≡ 1
tick_after (Ok false) n = n ≡ 0
tick_after (Err fault) n = (n ≡ 0) ⊎ ((n ≡ 1) × (fault ≡ WriteFailed))

-- a far end took a turn
abbrev pub TakesTurn : {R W : Type 0} → (R → Option (List ℕ)) → (W → Option (List ℕ)) → Watched R → Watched R → Watched W → Watched W → FarDay → FarDay → Result Bool LinkFault → Type 0
TakesTurn remaining contents r r' w w' d d' result = Went FarEnd far_next far_text (far_turn d) tick_after remaining contents r r' w w' d d' result

-- more turns may follow
abbrev pub session_goes_on : Result Bool LinkFault → Bool
session_goes_on (Ok b) = b
session_goes_on (Err fault) = false
