-- Runs over a data link.
use Rattle.std.proofs.Common.{◌≡◌, ℕ, max, min, Bool, false, List, Option, None, ap, subst, arith}
use Rattle.bx_day_openings.specs.CaptureOpenings.{IsFileFor}
use Rattle.bx_day_openings.specs.Hours.{AreHours}
use Rattle.bx_day_openings.specs.Openings.{IsFarOpening}
use Rattle.bx_day_openings.specs.declared.hours.Hours.{Hours}
use Rattle.bx_devices.specs.declared.watched.Watched.{Watched}
use Rattle.bx_far.specs.FarDay.{FarDay}
use Rattle.bx_far_commands.specs.LineDays.{IsLineRun, IsFarLineDay, asked_turns, capture_of}
use Rattle.bx_far_commands.specs.LineInside.{RunsSeen, RunsTo}
use Rattle.bx_journal.specs.Files.{holds_unknown, may_leave_any, no_moment, any_since, has_failed_in}
use Rattle.bx_journal.specs.declared.disk_files.SystemFile.{SystemFile}
use Rattle.bx_journal.specs.declared.file.FileDisk.{FileDisk}
use Rattle.bx_line_world.proofs.Never.{never_ends}
use Rattle.bx_line_world.specs.Days.{GoesByLine}
use Rattle.bx_line_world.specs.Posts.{no_post}
use Rattle.bx_line_world.specs.Wires.{WireAct, did_on}
use Rattle.bx_line_world.specs.declared.line_world.LineWorld.{LineWorld}
use Rattle.bx_line_world.specs.declared.udp.UdpWire.{UdpWire}
use Rattle.bx_live.specs.Acts.{Act}
use Rattle.bx_live.specs.Chains.{Chain}
use Rattle.bx_live.specs.declared.schedule.Schedule.{Schedule}
use Rattle.bx_request.specs.declared.request.FarLineRequest.{FarLineRequest}

module _ {W F : Type 0} (did : W → List WireAct → W → Type 0) where
  abbrev pub Goes : LineWorld W (FileDisk (SystemFile F)) → List Act → LineWorld W (FileDisk (SystemFile F)) → Type 0
  Goes = Chain (GoesByLine did holds_unknown may_leave_any no_moment any_since has_failed_in)

  pub to_moment : (H : Type 0) (contents : F → Option (List ℕ)) (wire : W) (schedule : Schedule) (turns : ℕ) (from to : FarDay) (file : Option (Watched F)) (first moment : ℕ) (is_whole : Bool) (old new : LineWorld W (FileDisk (SystemFile F))) → old.line.wire ≡ wire → old.schedule ≡ schedule → old.log.disk ≡ None → old.line.end.network ≡ false
      → old.line.post ≡ no_post → RunsSeen H Goes old new turns from to contents file first is_whole → moment ≡ to.moment → RunsTo H did contents wire schedule turns from file first moment is_whole
  to_moment H contents wire schedule turns from to file first moment is_whole old new over scheduled unlogged side nothing seen at = record {
    to = to;
    run = record {
      acts = seen.acts;
      old = old;
      new = new;
      over = over;
      scheduled = scheduled;
      unlogged = unlogged;
      side = side;
      nothing_told = nothing;
      run = seen.run;
      captured = seen.captured;
      reached = seen.run.reached (never_ends did holds_unknown may_leave_any no_moment any_since has_failed_in old new seen.acts seen.run.went);
    };
    is_moment = at;
  }

-- ---- the day that was opened

-- a day that opens at moment 0 comes to the turn that is asked for
pub comes_to : (moment closed opened turns : ℕ) → moment ≡ closed → closed ≡ max opened (min turns 300000) → opened ≡ 0 → moment ≡ min turns 300000
comes_to moment closed opened turns at reached opens = omega (arith, at, reached, opens)

pub line_day : {F H : Type 0} (files : F → Option (List ℕ)) (request : FarLineRequest) (hours : Hours) (opened : FarDay) (file : Option (Watched F)) (wire : UdpWire H) (turns moment : ℕ) (is_whole : Bool) → AreHours request.hours hours → IsFarOpening opened
    → IsFileFor files (capture_of request) file → turns ≡ asked_turns request.turns → RunsTo {W = UdpWire H} H did_on files wire hours.schedule turns opened file hours.first moment is_whole → IsFarLineDay H files request moment is_whole
line_day {F} {H} files request hours opened file wire turns moment is_whole are_hours opens file_opens asked runs =
    let closed = runs.to in
    let ran = subst (λ (n : ℕ). IsLineRun {W = UdpWire H} H did_on files wire hours.schedule n opened closed file hours.first is_whole) asked runs.run in
    record {
      hours = hours;
      are_hours = are_hours;
      opened = opened;
      opens = opens;
      file = file;
      file_opens = file_opens;
      closed = closed;
      wire = wire;
      ran = ran;
      is_moment = runs.is_moment;
      reached = comes_to moment closed.moment opened.moment (asked_turns request.turns) runs.is_moment ran.reached (ap (λ (d : FarDay). d.moment) opens.opens);
    }
