-- A far end as an end of the link: for a tick its messages and the end of the turn are written, for a message the reply to it.
use Rattle.std.specs.Prelude.{ℕ, ◌+◌, min, List, [], ◌∷◌, ◌++◌}
use Rattle.arrayvec.specs.ArrayVec.{ArrayVec}
use Rattle.bx_events.specs.Events.{Event, Tick, Receive, LiveEvent, OnLink, WithoutLink, Amended, HeardByRulesTwo}
use Rattle.bx_frames.specs.Frames.{frames_of, turn_frame}
use Rattle.bx_calls.specs.Sending.{reply_list, spelled}
use Rattle.bx_far.specs.FarDay.{FarDay, far_tick, far_without_link}
use Rattle.bx_far.specs.FarRun.{far_receive_octets}
use Rattle.bx_far.specs.LiveReceipts.{far_receive_live_octets}
use Rattle.bx_events.specs.declared.moment.TheConstants.{LAST_MOMENT}

abbrev pub far_next : FarDay → Event → FarDay
far_next d Tick = (far_tick d).day
far_next d (Receive octets) = (far_receive_octets d octets).day

-- the messages that it sends
abbrev pub far_sent : FarDay → Event → List (ArrayVec ℕ)
far_sent d Tick = spelled (far_tick d).sent
far_sent d (Receive octets) = spelled (reply_list (far_receive_octets d octets).reply)

abbrev pub far_text : FarDay → Event → List ℕ
far_text d Tick = frames_of (spelled (far_tick d).sent) ++ turn_frame (far_tick d).day.moment
far_text d (Receive octets) = frames_of (spelled (reply_list (far_receive_octets d octets).reply))

-- the moment with which its turn ends
abbrev pub far_due : FarDay → ℕ
far_due d = min (d.moment + 1) LAST_MOMENT

-- ---- on a live line, where some calls are answered when they are offered

abbrev pub far_line_next : FarDay → Event → FarDay
far_line_next d Tick = (far_tick d).day
far_line_next d (Receive octets) = (far_receive_live_octets d octets).day

abbrev pub far_line_text : FarDay → Event → List ℕ
far_line_text d Tick = far_text d Tick
far_line_text d (Receive octets) = frames_of (spelled (reply_list (far_receive_live_octets d octets).reply))

-- the day over seconds without a link too; of what amends the plan, and of what came to an exchange of the rules 2, it knows nothing
abbrev pub far_live_next : FarDay → LiveEvent → FarDay
far_live_next d (OnLink event) = far_line_next d event
far_live_next d (WithoutLink rules) = far_without_link d
far_live_next d (Amended kind line) = d
far_live_next d (HeardByRulesTwo octets) = d

abbrev pub far_live_after : List LiveEvent → FarDay → FarDay
far_live_after [] d = d
far_live_after (event ∷ events) d = far_live_after events (far_live_next d event)
