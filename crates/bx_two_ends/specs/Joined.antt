-- A day of both ends in one process, each at its end of a connection whose other end is the other's: what the reader of each end
-- gives is what the other end writes.
use Rattle.std.specs.Prelude.{◌≡◌, ◌<◌, ℕ, List, ◌++◌, Option, Some, None, Result, Bool, false}
use Rattle.bx_base.specs.Bookings.{Row}
use Rattle.bx_devices.specs.Watching.{device_of}
use Rattle.bx_day.specs.Day.{Day, opening}
use Rattle.bx_events.specs.declared.moment.TheConstants.{LAST_MOMENT}
use Rattle.bx_far.specs.FarDay.{FarDay, far_opening}
use Rattle.bx_far.specs.declared.row.ScriptRow.{ScriptRow}
use Rattle.bx_frames.specs.declared.fault.LinkFault.{LinkFault}
use Rattle.bx_sessions.specs.BothEnds.{Passage, BothDone}
use Rattle.bx_link.specs.Sessions.{is_far_over}
use Rattle.bx_link.specs.declared.connection.Connection.{Connection}
use Rattle.bx_live.specs.Acts.{Act}
use Rattle.bx_live.specs.Runs.{Between, Done, IsRun}
use Rattle.bx_live.specs.Chains.{Chain}
use Rattle.bx_world.specs.BothEnds.{WroteNear, GaveBoth, PartedBoth}
use Rattle.bx_world.specs.Rehearsals.{Rehearses}
use Rattle.bx_world.specs.declared.both_ends.BothEnds.{BothEnds}
use Rattle.bx_world.specs.declared.rehearsal.Rehearsal.{Rehearsal}

-- what each end writes in the day, after what its writer held before, is what the reader of the other end gives from the day's
-- opening on, with anything after it; by what readers still give and what writers hold, before and after
pub record AreJoined {R W S T : Type 0} (remaining : R → Option (List ℕ)) (contents : W → Option (List ℕ)) (far_remaining : S → Option (List ℕ)) (far_contents : T → Option (List ℕ)) (near near' : Connection R W) (far far' : Connection S T) : Type 0 where
  pub held : List ℕ
  pub said : List ℕ
  pub far_held : List ℕ
  pub far_said : List ℕ
  pub holds : contents (device_of near.writer) ≡ Some held
  pub writes : contents (device_of near'.writer) ≡ Some (held ++ said)
  pub far_holds : far_contents (device_of far.writer) ≡ Some far_held
  pub far_writes : far_contents (device_of far'.writer) ≡ Some (far_held ++ far_said)
  pub following : List ℕ
  pub far_following : List ℕ
  pub hears : remaining (device_of near.reader) ≡ Some (far_said ++ following)
  pub far_hears : far_remaining (device_of far.reader) ≡ Some (said ++ far_following)

-- a day of so many turns by `run_both_ends`, of a plan and a script, that went through all of them
pub record IsJoinedDay {R W S T : Type 0} (rows : List Row) (assigned : List (Option ℕ)) (script : List ScriptRow) (turns : ℕ) (near : Passage Day R W) (far : Passage FarDay S T) : Type 0 where
  pub opened : near.opened ≡ opening rows assigned
  pub far_opened : far.opened ≡ far_opening script
  pub joined : AreJoined near.remaining near.contents far.remaining far.contents near.old near.new far.old far.new
  pub result : Result Bool LinkFault
  pub done : BothDone turns near far result

-- a day by the program's engine, `run_live` over a rehearsal towards `BothEnds`, with a journal or without: its acts take the world from the
-- opening of both days to this day of the exchange, after the end of the day, and the link was not lost
pub record IsEngineDay {R W S T D : Type 0} (remaining : R → Option (List ℕ)) (contents : W → Option (List ℕ)) (far_remaining : S → Option (List ℕ)) (far_contents : T → Option (List ℕ)) (holds may_leave : D → List ℕ → Type 0) (moment : D → ℕ) (left_since : D → ℕ → List ℕ → Type 0) (has_failed : D → Bool)
    (rows : List Row) (assigned : List (Option ℕ)) (script : List ScriptRow) (old new : Rehearsal (BothEnds R W S T) D) (reached : Day) : Type 0 where
  pub acts : List Act
  pub run : IsRun (Between (opening rows assigned)) acts (Done reached)
  pub chain : Chain (Rehearses (WroteNear contents) (GaveBoth remaining far_remaining far_contents) (PartedBoth contents far_remaining far_contents) holds may_leave moment left_since has_failed) old acts new
  pub lost : new.lost ≡ None
  pub far_opened : old.peer.distant.far ≡ far_opening script
  pub session : is_far_over old.peer.distant.session ≡ false
  pub joined : AreJoined remaining contents far_remaining far_contents old.peer.near new.peer.near old.peer.distant.connection new.peer.distant.connection
  pub early : reached.moment < LAST_MOMENT
