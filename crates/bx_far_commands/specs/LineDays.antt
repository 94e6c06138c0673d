-- The day that a far end runs by the clock, over a data link, and what is told and captured of it.
use Rattle.std.specs.Prelude.{◌≡◌, ℕ, max, min, Bool, false, List, Option, Some, None, option_map, unwrap_or}
use Rattle.std.specs.Borrow.{Bor}
use Rattle.std.specs.Io.KnownBytes.{Appends}
use Rattle.bx_capture.specs.Captures.{is_unfaulted}
use Rattle.bx_day_openings.specs.CaptureOpenings.{IsFileFor}
use Rattle.bx_day_openings.specs.Hours.{AreHours}
use Rattle.bx_day_openings.specs.Openings.{IsFarOpening}
use Rattle.bx_day_openings.specs.declared.hours.Hours.{Hours}
use Rattle.bx_devices.specs.Octets.{AppendsPrefix}
use Rattle.bx_devices.specs.declared.watched.Watched.{Watched}
use Rattle.bx_events.specs.declared.moment.TheConstants.{LAST_MOMENT}
use Rattle.bx_far.specs.FarDay.{FarDay}
use Rattle.bx_far.specs.Course.{far_live_after}
use Rattle.bx_far_commands.specs.Days.{ended_line}
use Rattle.bx_far_commands.specs.declared.line_files.TheConstants.{WHOLE_DAY}
use Rattle.bx_link.specs.Events.{far_events}
use Rattle.bx_link.specs.Runs.{Between, Done, IsFarRun}
use Rattle.bx_journal.specs.Files.{holds_unknown, may_leave_any, no_moment, any_since, has_failed_in}
use Rattle.bx_journal.specs.declared.disk_files.SystemFile.{SystemFile}
use Rattle.bx_journal.specs.declared.file.FileDisk.{FileDisk}
use Rattle.bx_line_world.specs.Days.{GoesByLine}
use Rattle.bx_line_world.specs.Posts.{no_post}
use Rattle.bx_line_world.specs.Wires.{WireAct, did_on}
use Rattle.bx_line_world.specs.declared.line_world.LineWorld.{LineWorld}
use Rattle.bx_line_world.specs.declared.udp.UdpWire.{UdpWire}
use Rattle.bx_live.specs.Acts.{Act, ended}
use Rattle.bx_live.specs.Chains.{Chain}
use Rattle.bx_live.specs.declared.schedule.Schedule.{Schedule}
use Rattle.bx_request.specs.declared.request.CaptureWords.{CaptureWords}
use Rattle.bx_request.specs.declared.request.FarLineRequest.{FarLineRequest}
use Rattle.bx_world.specs.Captures.{Captures, first_second}
use Rattle.bx_world.specs.declared.captured.CapturedWorld.{CapturedWorld}
use Rattle.bx_world.specs.declared.telling.Telling.{Telling}

-- ---- what the words say

-- how many turns a day has: as many as are asked for, or those of a whole day
abbrev pub asked_turns : Option ℕ → ℕ
asked_turns turns = unwrap_or turns WHOLE_DAY

-- the capture is one of the day of the hours
abbrev pub capture_of : FarLineRequest → Option CaptureWords
capture_of request = option_map (λ (name : Bor (List ℕ)). record { file = name; day = Some (request.hours.date, request.hours.zone) }) request.capture

-- ---- the run

-- A run of a far end's day over a world, from here to there: the world has gone through these acts to the end of the day. The day is the one
-- after just the events that the acts tell, and has come to its last second, unless the world has said that no second begins any more.
pub record IsFarRunIn {W : Type 0} (did : W → List Act → W → Type 0) (old : W) (acts : List Act) (new : W) (turns : ℕ) (from to : FarDay) : Type 0 where
  pub went : did old acts new
  pub run : IsFarRun (Between from) acts (Done to)
  pub day : to ≡ far_live_after (far_events acts) from
  pub reached : ended acts ≡ false → to.moment ≡ max from.moment (min turns LAST_MOMENT)

-- What was captured of these acts, where there is a file: after each act it has taken the packets of what was written, and of the message that
-- was read, at the second of the day that began last, after the first one; and whether it took them all.
pub record AreCaptured (W : Type 0) {F : Type 0} (contents : F → Option (List ℕ)) (file : Option (Watched F)) (first : ℕ) (acts : List Act) (is_whole : Bool) : Type 0 where
  pub old : CapturedWorld W F
  pub new : CapturedWorld W F
  pub into : old.file ≡ file
  pub begins : first_second old ≡ first
  pub captures : Chain (Captures contents) old acts new
  pub whole : is_whole ≡ is_unfaulted new.file

-- A far end's day, run as the user's end of a data link over this wire, by this schedule and without a journal. It has come to its last
-- second, whatever the line did.
pub record IsLineRun {W F : Type 0} (H : Type 0) (did : W → List WireAct → W → Type 0) (contents : F → Option (List ℕ)) (wire : W) (schedule : Schedule) (turns : ℕ) (from to : FarDay) (file : Option (Watched F)) (first : ℕ) (is_whole : Bool) : Type 0 where
  pub acts : List Act
  pub old : LineWorld W (FileDisk (SystemFile F))
  pub new : LineWorld W (FileDisk (SystemFile F))
  pub over : old.line.wire ≡ wire
  pub scheduled : old.schedule ≡ schedule
  pub unlogged : old.log.disk ≡ None
  pub side : old.line.end.network ≡ false
  pub nothing_told : old.line.post ≡ no_post
  pub run : IsFarRunIn (Chain (GoesByLine did holds_unknown may_leave_any no_moment any_since has_failed_in)) old acts new turns from to
  pub captured : AreCaptured (Telling (LineWorld W (FileDisk (SystemFile F))) H) contents file first acts is_whole
  pub reached : to.moment ≡ max from.moment (min turns LAST_MOMENT)

-- ---- the day, and what is told of it

-- The day of a script, by the hours of the words, to the turn that was asked for; it has reached this moment. Where something is to be
-- captured, a file was opened for it, and captured just this day from the second on at which it begins; and whether all of it was.
pub record IsFarLineDay {F : Type 0} (H : Type 0) (files : F → Option (List ℕ)) (request : FarLineRequest) (moment : ℕ) (is_whole : Bool) : Type 0 where
  pub hours : Hours
  pub are_hours : AreHours request.hours hours
  pub opened : FarDay
  pub opens : IsFarOpening opened
  pub file : Option (Watched F)
  pub file_opens : IsFileFor files (capture_of request) file
  pub closed : FarDay
  pub wire : UdpWire H
  pub ran : IsLineRun {W = UdpWire H} H did_on files wire hours.schedule (asked_turns request.turns) opened closed file hours.first is_whole
  pub is_moment : moment ≡ closed.moment
  pub reached : moment ≡ min (asked_turns request.turns) LAST_MOMENT

-- its moment was written
pub record IsFarLineDone {F : Type 0} (H : Type 0) (files : F → Option (List ℕ)) (request : FarLineRequest) (before after : Option (List ℕ)) (is_whole : Bool) : Type 0 where
  pub moment : ℕ
  pub day : IsFarLineDay H files request moment is_whole
  pub written : Appends before after (ended_line moment)

-- or a prefix of that
pub record IsFarLineCut {F : Type 0} (H : Type 0) (files : F → Option (List ℕ)) (request : FarLineRequest) (before after : Option (List ℕ)) : Type 0 where
  pub moment : ℕ
  pub is_whole : Bool
  pub day : IsFarLineDay H files request moment is_whole
  pub written : AppendsPrefix before after (ended_line moment)
