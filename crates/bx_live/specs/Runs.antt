-- A live run of a day: which acts come one after another.
use Rattle.bx_events.specs.declared.rules.Rules.TheVariants.{Three}
use Rattle.std.specs.Prelude.{◌≡◌, ℕ, zero, suc, ◌+◌, ◌-◌, ◌==◌, Bool, true, false, List, [], ◌∷◌, ◌++◌, if◌then◌else◌, Option, Some, None, Result, Ok, Err}
use Rattle.arrayvec.specs.ArrayVec.{ArrayVec}
use Rattle.bx_events.specs.Events.{Tick, Receive, LiveEvent, OnLink, WithoutLink, Amended, HeardByRulesTwo}
use Rattle.bx_frames.specs.declared.fault.LinkFault.{LinkFault}
use Rattle.bx_frames.specs.declared.fault.LinkFault.TheVariants.{WriteFailed, WrongMoment, UnknownKind}
use Rattle.bx_frames.specs.declared.frame.Frame.{Frame}
use Rattle.bx_frames.specs.declared.frame.Frame.TheVariants as frames
use Rattle.bx_frames.specs.declared.turn.TheConstants.{MAX_MESSAGES}
use Rattle.bx_day.specs.Day.{Day}
use Rattle.bx_day.specs.Course.{exchange_next, exchange_sent, exchange_text}
use Rattle.bx_day.specs.Outages.{without_link_by, live_happens}
use Rattle.bx_live.specs.declared.world.Begin.{Begin}
use Rattle.bx_live.specs.declared.world.Begin.TheVariants as begins
use Rattle.bx_live.specs.declared.world.Loss.{Loss}
use Rattle.bx_live.specs.declared.world.Loss.TheVariants as losses
use Rattle.bx_live.specs.Acts.{Act, Began, Dropped, Logged, Synced, Wrote, Read, Took, EndedDay}

-- where a run stands, with the day as far as it has come
pub data Place : Type 0 where
  -- after one second, and before the next
  Between : (d : Day) → Place
  -- this event comes, and has to be logged; then so many messages may come in the turn
  Logging : (d : Day) (room : ℕ) (event : LiveEvent) → Place
  -- these octets came, and have to be logged; replies are owed for those that came before them
  Receiving : (d : Day) (room : ℕ) (owed : List (List ℕ)) (octets : List ℕ) → Place
  -- replies are owed, and before they are written what is there already is heard
  Taking : (d : Day) (room : ℕ) (owed : List (List ℕ)) → Place
  -- what was logged has happened, and these are to be written for it, one after another; a sync comes first, or is not wanted
  Owing : (d : Day) (room : ℕ) (unsynced : Bool) (texts : List (List ℕ)) → Place
  -- the peer's turn
  Hearing : (d : Day) (room : ℕ) → Place
  -- the peer is to be dropped
  Losing : (d : Day) (loss : Loss) → Place
  -- nothing more is done: what happens cannot be logged
  Over : (d : Day) → Place
  -- no second begins any more
  Closing : (d : Day) → Place
  -- the day is over, and all of it is on the disk
  Ending : (d : Day) → Place
  -- nothing more is done: the day is over
  Done : (d : Day) → Place

-- the day as far as a run has come
abbrev pub day_at : Place → Day
day_at (Between d) = d
day_at (Logging d room event) = d
day_at (Receiving d room owed octets) = d
day_at (Taking d room owed) = d
day_at (Owing d room unsynced texts) = d
day_at (Hearing d room) = d
day_at (Losing d loss) = d
day_at (Over d) = d
day_at (Closing d) = d
day_at (Ending d) = d
day_at (Done d) = d

-- which act is due
abbrev pub IsDue : Place → Act → Type 0
IsDue (Between d) (Began second begin) = second ≡ d.moment + 1
IsDue (Between d) (Synced done) = Unit {0}
IsDue (Closing d) (Synced done) = Unit {0}
IsDue (Ending d) EndedDay = Unit {0}
IsDue (Logging d room event) (Logged e done) = e ≡ event
IsDue (Receiving d room owed octets) (Logged e done) = e ≡ OnLink (Receive octets)
IsDue (Taking d room owed) (Took message) = Unit {0}
IsDue (Owing d room true texts) (Synced done) = Unit {0}
IsDue (Owing d room false (text ∷ texts)) (Wrote octets done) = octets ≡ text
IsDue (Hearing d room) (Read most answer) = most ≡ room
IsDue (Losing d loss) (Dropped why) = why ≡ loss
IsDue _ _ = ⊥

-- what is written for an event: nothing, or octets; a sync comes first where messages are among them
abbrev pub owing : Day → ℕ → List (ArrayVec ℕ) → List ℕ → Place
owing d room [] [] = Hearing d room
owing d room [] (octet ∷ text) = Owing d room false ((octet ∷ text) ∷ [])
owing d room (message ∷ sent) text = Owing d room true (text ∷ [])

-- An event that is logged happens. What came by the rules 2 is logged no more, and nothing is written for it.
abbrev pub happened : Day → ℕ → LiveEvent → Place
happened d room (WithoutLink rules) = Between (without_link_by rules d)
happened d room (Amended kind line) = Between d
happened d room (HeardByRulesTwo octets) = Between (live_happens d (HeardByRulesTwo octets)).day
happened d room (OnLink event) = owing (exchange_next d event) room (exchange_sent d event) (exchange_text d event)

-- what is owed with the reply to one more message, where there is one
abbrev pub with_reply : List (List ℕ) → List ℕ → List (List ℕ)
with_reply owed [] = owed
with_reply owed (octet ∷ text) = owed ++ (octet ∷ text) ∷ []

-- Messages were heard. Where replies are owed for them, what is there already is heard first, as long as messages may come in the turn
abbrev pub replying : Day → List (List ℕ) → ℕ → Place
replying d [] room = Hearing d room
replying d (text ∷ owed) zero = Owing d zero true (text ∷ owed)
replying d (text ∷ owed) (suc room) = Taking d (suc room) (text ∷ owed)

-- octets that came are logged, and happen
abbrev pub received : Day → ℕ → List (List ℕ) → List ℕ → Place
received d room owed octets = replying (exchange_next d (Receive octets)) (with_reply owed (exchange_text d (Receive octets))) room

-- where nothing more is there, the replies are written, after one sync
abbrev pub taken : Day → ℕ → List (List ℕ) → Option (ArrayVec ℕ) → Place
taken d room owed (Some message) = Receiving d (room - 1) owed message.items
taken d room owed None = Owing d room true owed

-- what is synced is written, one after another
abbrev pub writing : Day → ℕ → List (List ℕ) → Place
writing d room [] = Hearing d room
writing d room (text ∷ texts) = Owing d room false (text ∷ texts)

-- a second with a peer is a turn of at most `MAX_MESSAGES`; any other is one without a link, in which there is no peer. Where no second
-- begins any more, the day is closed
abbrev pub begun : Day → Begin → Place
begun d begins.Late = Losing d losses.Late
begun d begins.Alone = Logging d 0 (WithoutLink Three)
begun d begins.Joined = Logging d MAX_MESSAGES (OnLink Tick)
begun d begins.Ended = Closing d

-- the peer's turn ends with its end of turn, which has the moment
abbrev pub heard : Day → ℕ → Result Frame LinkFault → Place
heard d room (Ok (frames.Message octets)) = Receiving d (room - 1) [] octets.items
heard d room (Ok (frames.EndOfTurn said)) = if said == d.moment then Between d else Losing d (losses.Fault WrongMoment)
heard d room (Ok frames.EndOfDay) = Losing d (losses.Fault UnknownKind)
heard d room (Err fault) = Losing d (losses.Fault fault)

-- without its peer a second that has begun late is one without a link; and a turn is over
abbrev pub lost : Day → Loss → Place
lost d losses.Late = Logging d 0 (WithoutLink Three)
lost d (losses.Fault fault) = Between d

-- where the run is after the act that was due
abbrev pub next : Place → Act → Place
next (Between d) (Began second begin) = begun d begin
next (Between d) (Synced done) = if done then Ending d else Over d
next (Closing d) (Synced done) = if done then Ending d else Over d
next (Ending d) EndedDay = Done d
next (Logging d room event) (Logged e done) = if done then happened d room event else Over d
next (Receiving d room owed octets) (Logged e done) = if done then received d room owed octets else Over d
next (Taking d room owed) (Took message) = taken d room owed message
next (Owing d room true texts) (Synced done) = if done then Owing d room false texts else Over d
next (Owing d room false (text ∷ texts)) (Wrote octets done) = if done then writing d room texts else Losing d (losses.Fault WriteFailed)
next (Hearing d room) (Read most answer) = heard d room answer
next (Losing d loss) (Dropped why) = lost d loss
next place _ = place

-- the acts of a run from one place to another
abbrev pub IsRun : Place → List Act → Place → Type 0
IsRun from [] to = from ≡ to
IsRun from (act ∷ acts) to = IsDue from act × IsRun (next from act) acts to
