-- A live run of a far end's day: which acts come one after another.
use Rattle.std.specs.Prelude.{◌≡◌, ℕ, ◌+◌, ◌-◌, ◌==◌, List, [], ◌∷◌, if◌then◌else◌, Result, Ok, Err}
use Rattle.bx_events.specs.Events.{Tick, Receive}
use Rattle.bx_frames.specs.declared.fault.LinkFault.{LinkFault}
use Rattle.bx_frames.specs.declared.fault.LinkFault.TheVariants.{WriteFailed, WrongMoment, UnknownKind}
use Rattle.bx_frames.specs.declared.frame.Frame.{Frame}
use Rattle.bx_frames.specs.declared.frame.Frame.TheVariants as frames
use Rattle.bx_frames.specs.declared.turn.TheConstants.{MAX_MESSAGES}
use Rattle.bx_far.specs.FarDay.{FarDay, far_without_link}
use Rattle.bx_far.specs.Course.{far_line_next, far_line_text}
use Rattle.bx_live.specs.declared.world.Begin.{Begin}
use Rattle.bx_live.specs.declared.world.Begin.TheVariants as begins
use Rattle.bx_live.specs.declared.world.Loss.{Loss}
use Rattle.bx_live.specs.declared.world.Loss.TheVariants as losses
use Rattle.bx_live.specs.Acts.{Act, Began, Dropped, Wrote, Read, EndedDay}

-- where a run stands, with the day as far as it has come
pub data FarPlace : Type 0 where
  -- after one second, and before the next
  Between : (d : FarDay) → FarPlace
  -- this is to be written in a turn in which so many messages may still come
  Owing : (d : FarDay) (room : ℕ) (text : List ℕ) → FarPlace
  -- the exchange's turn
  Hearing : (d : FarDay) (room : ℕ) → FarPlace
  -- the link is to be dropped
  Losing : (d : FarDay) (loss : Loss) → FarPlace
  -- no second begins any more
  Ending : (d : FarDay) → FarPlace
  -- nothing more is done: the day is over
  Done : (d : FarDay) → FarPlace

-- the day as far as a run has come
abbrev pub far_day_at : FarPlace → FarDay
far_day_at (Between d) = d
far_day_at (Owing d room text) = d
far_day_at (Hearing d room) = d
far_day_at (Losing d loss) = d
far_day_at (Ending d) = d
far_day_at (Done d) = d

-- which act is due
abbrev pub IsFarActDue : FarPlace → Act → Type 0
IsFarActDue (Between d) (Began second begin) = second ≡ d.moment + 1
IsFarActDue (Between d) EndedDay = Unit {0}
IsFarActDue (Owing d room text) (Wrote octets done) = octets ≡ text
IsFarActDue (Hearing d room) (Read most answer) = most ≡ room
IsFarActDue (Losing d loss) (Dropped why) = why ≡ loss
IsFarActDue (Ending d) EndedDay = Unit {0}
IsFarActDue _ _ = ⊥

-- what is written after an event: nothing, or octets
abbrev pub far_owing : FarDay → ℕ → List ℕ → FarPlace
far_owing d room [] = Hearing d room
far_owing d room (octet ∷ text) = Owing d room (octet ∷ text)

-- In each second that begins with a link the far end ticks: it is a turn of at most `MAX_MESSAGES`. One without a link goes by as one, and
-- so does one that has begun late, for which the link is dropped. Where no second begins any more, the day is over
abbrev pub far_run_begun : FarDay → Begin → FarPlace
far_run_begun d begins.Late = Losing (far_without_link d) losses.Late
far_run_begun d begins.Alone = Between (far_without_link d)
far_run_begun d begins.Joined = Owing (far_line_next d Tick) MAX_MESSAGES (far_line_text d Tick)
far_run_begun d begins.Ended = Ending d

-- the exchange's turn ends with its end of turn, which has the moment
abbrev pub far_run_heard : FarDay → ℕ → Result Frame LinkFault → FarPlace
far_run_heard d room (Ok (frames.Message octets)) = far_owing (far_line_next d (Receive octets.items)) (room - 1) (far_line_text d (Receive octets.items))
far_run_heard d room (Ok (frames.EndOfTurn said)) = if said == d.moment then Between d else Losing d (losses.Fault WrongMoment)
far_run_heard d room (Ok frames.EndOfDay) = Losing d (losses.Fault UnknownKind)
far_run_heard d room (Err fault) = Losing d (losses.Fault fault)

-- where the run is after the act that was due
abbrev pub far_run_next : FarPlace → Act → FarPlace
far_run_next (Between d) (Began second begin) = far_run_begun d begin
far_run_next (Between d) EndedDay = Done d
far_run_next (Owing d room text) (Wrote octets done) = if done then Hearing d room else Losing d (losses.Fault WriteFailed)
far_run_next (Hearing d room) (Read most answer) = far_run_heard d room answer
far_run_next (Losing d loss) (Dropped why) = Between d
far_run_next (Ending d) EndedDay = Done d
far_run_next place _ = place

-- the acts of a run from one place to another
abbrev pub IsFarRun : FarPlace → List Act → FarPlace → Type 0
IsFarRun from [] to = from ≡ to
IsFarRun from (act ∷ acts) to = IsFarActDue from act × IsFarRun (far_run_next from act) acts to
