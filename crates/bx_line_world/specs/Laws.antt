-- What holds of every live day over a data link, whose world goes by its line and its disk.
use Rattle.std.specs.Prelude.{◌≡◌, ℕ, ◌≤◌, ◌||◌, Bool, true, false, List, [], ◌∷◌, Some, Result}
use Rattle.bx_day.specs.Day.{Day}
use Rattle.bx_day.specs.Outages.{live_day_after}
use Rattle.bx_live.specs.declared.world.Begin.{Begin}
use Rattle.bx_live.specs.declared.world.Begin.TheVariants.{Joined}
use Rattle.bx_live.specs.declared.world.CannotLog.{CannotLog}
use Rattle.bx_live.specs.Acts.{Act, Began, logged_by, ended, begins_none}
use Rattle.bx_live.specs.Held.{AreHeld}
use Rattle.bx_live.specs.Runs.{Between, Done}
use Rattle.bx_live.specs.Running.{Runs, or_over}
use Rattle.bx_lapd.specs.Links.{is_at_rest}
use Rattle.bx_live.specs.Chains.{Chain}
use Rattle.bx_live.specs.Schedules.{instant_of_second}
use Rattle.bx_live.specs.Logs.{OnDisk}
use Rattle.bx_line_world.specs.Wires.{WireAct}
use Rattle.bx_line_world.specs.Days.{GoesByLine, octets_read}
use Rattle.bx_line_world.specs.Posts.{is_lost}
use Rattle.bx_line_world.specs.Joined.{GoesOverLink, end_of, after_events, wire_acts}
use Rattle.bx_line_world.specs.Lines.{LineEvent, Enquired, Heard}
use Rattle.bx_line_world.specs.Seeing.{is_on_the_second}
use Rattle.bx_line_world.specs.declared.line.Line.{Line}
use Rattle.bx_line_world.specs.declared.line_world.LineWorld.{LineWorld}

-- it is never said that no second begins any more
abbrev pub NeverEnds : {W D : Type 0} → (did : W → List WireAct → W → Type 0) (holds may_leave : D → List ℕ → Type 0) (moment : D → ℕ) (left_since : D → ℕ → List ℕ → Type 0) (has_failed : D → Bool) → Type 0
NeverEnds {W} {D} did holds may_leave moment left_since has_failed =
    (old new : LineWorld W D) (acts : List Act) → Chain (GoesByLine did holds may_leave moment left_since has_failed) old acts new → ended acts ≡ false

-- the first of these acts is not that a second begins with a link
abbrev pub BeginsApart : List Act → Type 0
BeginsApart (Began second Joined ∷ acts) = ⊥
BeginsApart acts = Unit {0}

-- where something was lost that the day has not heard of, no second begins with a link before one has begun without
abbrev pub StartsApart : {W D : Type 0} → (did : W → List WireAct → W → Type 0) (holds may_leave : D → List ℕ → Type 0) (moment : D → ℕ) (left_since : D → ℕ → List ℕ → Type 0) (has_failed : D → Bool) → Type 0
StartsApart {W} {D} did holds may_leave moment left_since has_failed =
    (old new : LineWorld W D) (acts : List Act) → Chain (GoesByLine did holds may_leave moment left_since has_failed) old acts new → is_lost old.line.post.lost ≡ true → BeginsApart acts

-- a frame came
abbrev pub has_heard : List LineEvent → Bool
has_heard [] = false
has_heard (Heard until octets shown ∷ events) = true
has_heard (event ∷ events) = has_heard events

-- the other end was asked, and after that a frame came
abbrev pub is_answered : List LineEvent → Bool
is_answered [] = false
is_answered (Enquired shown ∷ events) = has_heard events || is_answered events
is_answered (event ∷ events) = is_answered events

-- at these events, of which just this went over the wire, the other end was asked, and after that a frame came; and at their end the link is
-- in state 7, and nothing that was given to it is unacknowledged
pub record SeesEnd {W : Type 0} (did : W → List WireAct → W → Type 0) (old new : Line W) : Type 0 where
  pub events : List LineEvent
  pub wire : did old.wire (wire_acts (end_of old) events) new.wire
  pub link : end_of new ≡ after_events (end_of old) events
  pub answered : is_answered events ≡ true
  pub clear : is_at_rest new.end.link ≡ true

-- where a second of the day begins with a link, and one of the clock with it, the other end has shown that it is there
abbrev pub IsSeenAlive : {W D : Type 0} → (did : W → List WireAct → W → Type 0) (holds may_leave : D → List ℕ → Type 0) (moment : D → ℕ) (left_since : D → ℕ → List ℕ → Type 0) (has_failed : D → Bool) → Type 0
IsSeenAlive {W} {D} did holds may_leave moment left_since has_failed =
    (old new : LineWorld W D) (second : ℕ) → GoesByLine did holds may_leave moment left_since has_failed old (Began second Joined) new
    → is_on_the_second (instant_of_second old.schedule second) ≡ true → SeesEnd did old.line new.line

-- the octets of messages that are read in one second
abbrev pub ReadsSoMuch : {W D : Type 0} → (did : W → List WireAct → W → Type 0) (holds may_leave : D → List ℕ → Type 0) (moment : D → ℕ) (left_since : D → ℕ → List ℕ → Type 0) (has_failed : D → Bool) → Type 0
ReadsSoMuch {W} {D} did holds may_leave moment left_since has_failed =
    (old new : LineWorld W D) (second : ℕ) (begin : Begin) (acts : List Act)
    → Chain (GoesByLine did holds may_leave moment left_since has_failed) old (Began second begin ∷ acts) new → begins_none acts ≡ true → octets_read acts ≤ 8000

-- the disk of the journal goes through the acts
abbrev pub DiskGoesAlong : {W D : Type 0} → (did : W → List WireAct → W → Type 0) (holds may_leave : D → List ℕ → Type 0) (moment : D → ℕ) (left_since : D → ℕ → List ℕ → Type 0) (has_failed : D → Bool) → Type 0
DiskGoesAlong {W} {D} did holds may_leave moment left_since has_failed =
    (old new : LineWorld W D) (acts : List Act) (first : D) → Chain (GoesByLine did holds may_leave moment left_since has_failed) old acts new
    → old.log.disk ≡ Some first
    → (last : D) × (new.log.disk ≡ Some last) × Chain (OnDisk holds may_leave moment left_since has_failed) first acts last

-- the acts go over a data link
abbrev pub AllGoOverLink : {W D : Type 0} → (did : W → List WireAct → W → Type 0) (holds may_leave : D → List ℕ → Type 0) (moment : D → ℕ) (left_since : D → ℕ → List ℕ → Type 0) (has_failed : D → Bool) → Type 0
AllGoOverLink {W} {D} did holds may_leave moment left_since has_failed =
    (old new : LineWorld W D) (acts : List Act) → Chain (GoesByLine did holds may_leave moment left_since has_failed) old acts new → GoesOverLink did old new acts

-- the rest of a day was run, and is the one after the logged events
abbrev pub RunsOverLine : {W D : Type 0} → (did : W → List WireAct → W → Type 0) (holds may_leave : D → List ℕ → Type 0) (moment : D → ℕ) (left_since : D → ℕ → List ℕ → Type 0) (has_failed : D → Bool) → LineWorld W D → LineWorld W D → ℕ → Day → Day → Result (Unit {0}) CannotLog → Type 0
RunsOverLine did holds may_leave moment left_since has_failed old new last d d1 result =
    (ran : Runs (Chain (GoesByLine did holds may_leave moment left_since has_failed)) old new (Between d) (or_over (Done d1) d1 result))
    × (d1 ≡ live_day_after (logged_by ran.acts) d) × AreHeld last d ran.acts
