-- A data link over its wire: what each event of it does.
use Rattle.std.specs.Prelude.{◌≡◌, ℕ, ◌+◌, ◌-◌, ◌*◌, ◌/◌, ◌%◌, ◌==◌, ◌&&◌, min, max, Bool, true, false, List, [], ◌∷◌, ◌++◌, map, Option, Some, None}
use Rattle.arrayvec.specs.ArrayVec.{ArrayVec}
use Rattle.bx_lapd.specs.declared.frame.Frame.{Frame}
use Rattle.bx_lapd.specs.Codec.{sent_octets}
use Rattle.bx_lapd.specs.Links.{LinkStep, does}
use Rattle.bx_lapd.specs.Table.{establish, takes_data, give, elapse, poll, due_of}
use Rattle.bx_lapd.specs.Endpoints.{hear_octets}
use Rattle.bx_line_world.specs.Wires.{WireAct, Shown, Sent, Waited}
use Rattle.bx_line_world.specs.Posts.{all_told_to, is_full}
use Rattle.bx_line_world.specs.declared.post.Post.{Post}
use Rattle.bx_line_world.specs.declared.line.Line.{Line}
use Rattle.bx_live.specs.declared.schedule.TheConstants.{SECOND}

-- what happens at a data link, and what the clock showed then
pub data LineEvent : Type 0 where
  -- layer 3 asks for a link
  Asked : (shown : ℕ) → LineEvent
  -- it gives a message
  Given : (message : ArrayVec ℕ) (shown : ℕ) → LineEvent
  -- the timer is looked at
  Elapsed : (shown : ℕ) → LineEvent
  -- the other end is asked whether it is there
  Enquired : (shown : ℕ) → LineEvent
  -- octets came while an instant was waited for
  Heard : (until : ℕ) (octets : List ℕ) (shown : ℕ) → LineEvent
  -- octets of a message came so, for which there is no room
  Passed : (until : ℕ) (octets : List ℕ) → LineEvent
  -- none came in a slice of such a wait
  Quiet : (until : ℕ) → LineEvent

-- ---- the time of the link: what passes by the clock, which does not go back with it

abbrev pub passed_by : ℕ → ℕ → ℕ → ℕ
passed_by passed before shown = min (passed + (shown - before)) 340282366920938463463374607431768211455

-- in milliseconds
abbrev pub instant_in : ℕ → ℕ
instant_in passed = min (passed / 1_000_000) 4611686018427387903

-- the instant of the link where the clock shows this
abbrev pub time_at : {W : Type 0} → Line W → ℕ → ℕ
time_at s shown = instant_in (passed_by s.passed s.shown shown)

-- what is left until the timer is due, or a second
abbrev pub left_until : Option ℕ → ℕ → ℕ
left_until None passed = SECOND
left_until (Some due) passed = due * 1_000_000 - passed

-- how long a frame is waited for: until the next of an instant and the timer, but at least 50 microseconds, and at most a second
abbrev pub slice_of : {W : Type 0} → Line W → ℕ → ℕ
slice_of s until = max 50_000 (min (until - s.shown) (min (left_until (due_of s.end.link.timer) s.passed) SECOND))

-- ---- what an event does

-- by the table of the link
abbrev pub step_of : {W : Type 0} → Line W → LineEvent → LinkStep
step_of s (Asked shown) = establish s.end.link.state s.end.link (time_at s shown)
step_of s (Given m shown) = give s.end.link m (time_at s shown)
step_of s (Elapsed shown) = elapse s.end.link (time_at s shown)
step_of s (Enquired shown) = poll s.end.link (time_at s shown)
step_of s (Heard until octets shown) = hear_octets s.end.network s.end.link octets (time_at s shown)
step_of s (Passed until octets) = does s.end.link [] []
step_of s (Quiet until) = does s.end.link [] []

-- what the wire is asked first
abbrev pub asked_of : {W : Type 0} → Line W → LineEvent → List WireAct
asked_of s (Asked shown) = Shown shown ∷ []
asked_of s (Given m shown) = Shown shown ∷ []
asked_of s (Elapsed shown) = Shown shown ∷ []
asked_of s (Enquired shown) = Shown shown ∷ []
asked_of s (Heard until octets shown) = Waited (slice_of s until) (Some octets) ∷ Shown shown ∷ []
asked_of s (Passed until octets) = Waited (slice_of s until) (Some octets) ∷ []
asked_of s (Quiet until) = Waited (slice_of s until) None ∷ []

abbrev pub sent_as : Bool → Frame → WireAct
sent_as network f = Sent (sent_octets network f)

-- and then the frames that the table sends
abbrev pub wire_acts_of : {W : Type 0} → Line W → LineEvent → List WireAct
wire_acts_of s event = asked_of s event ++ map (sent_as s.end.network) (step_of s event).frames

abbrev pub shown_by : ℕ → LineEvent → ℕ
shown_by before (Asked shown) = shown
shown_by before (Given m shown) = shown
shown_by before (Elapsed shown) = shown
shown_by before (Enquired shown) = shown
shown_by before (Heard until octets shown) = shown
shown_by before (Passed until octets) = before
shown_by before (Quiet until) = before

abbrev pub passed_after : {W : Type 0} → Line W → LineEvent → ℕ
passed_after s (Asked shown) = passed_by s.passed s.shown shown
passed_after s (Given m shown) = passed_by s.passed s.shown shown
passed_after s (Elapsed shown) = passed_by s.passed s.shown shown
passed_after s (Enquired shown) = passed_by s.passed s.shown shown
passed_after s (Heard until octets shown) = passed_by s.passed s.shown shown
passed_after s (Passed until octets) = s.passed
passed_after s (Quiet until) = s.passed

-- the octets of an I frame: the third of them is even
abbrev pub is_information : List ℕ → Bool
is_information (first ∷ second ∷ control ∷ rest) = control % 2 == 0
is_information octets = false

-- An I frame that comes while `MAX_MESSAGES` wait is passed over, as if it was lost on the way: it is not acknowledged, and the other
-- end's link sends it again.
abbrev pub is_passed : Post → List ℕ → Bool
is_passed p octets = is_full p && is_information octets

-- a message is given only where the link takes it, and one that comes is heard where there is room for it
abbrev pub IsEventTaken : {W : Type 0} → Line W → LineEvent → Type 0
IsEventTaken s (Given m shown) = takes_data s.end.link.state s.end.link ≡ true
IsEventTaken s (Heard until octets shown) = is_passed s.post octets ≡ false
IsEventTaken s (Passed until octets) = is_passed s.post octets ≡ true
IsEventTaken s event = Unit {0}

-- an event has happened: just this went over the wire, and the link has taken just this step
pub record Serves {W : Type 0} (did : W → List WireAct → W → Type 0) (old : Line W) (event : LineEvent) (new : Line W) : Type 0 where
  pub wire : did old.wire (wire_acts_of old event) new.wire
  pub network : new.end.network ≡ old.end.network
  pub link : new.end.link ≡ (step_of old event).link
  pub post : new.post ≡ all_told_to old.post (step_of old event).told
  pub shown : new.shown ≡ shown_by old.shown event
  pub passed : new.passed ≡ passed_after old event
  pub taken : IsEventTaken old event
