-- A day of both ends by the program's engine is one of both ends in turns.
use Rattle.std.proofs.Common.{◌≡◌, ℕ, Bool, List, [], ◌++◌, Option, refl, sym, ap, subst, ◌∙◌, append_assoc, arith}
use Rattle.bx_base.specs.Bookings.{Row, AreBookings, Carries}
use Rattle.bx_base.specs.Channels.{IsChannelSet}
use Rattle.bx_base.specs.Plans as plans
use Rattle.bx_devices.specs.Watching.{device_of}
use Rattle.bx_frames.specs.Courses.{told}
use Rattle.bx_frames.specs.Frames.{day_frame}
use Rattle.bx_day.specs.Course.{exchange_next, exchange_text}
use Rattle.bx_day.specs.Day.{Day, opening}
use Rattle.bx_day.specs.Outages.{live_day_after}
use Rattle.bx_far.specs.Course.{far_next, far_text}
use Rattle.bx_far.specs.FarDay.{FarDay}
use Rattle.bx_far.specs.declared.row.ScriptRow.{ScriptRow}
use Rattle.bx_link.specs.Talking.{far_talk_in}
use Rattle.bx_sessions.specs.Talking.{talk_in}
use Rattle.bx_live.specs.Runs.{Between}
use Rattle.bx_world.specs.declared.both_ends.BothEnds.{BothEnds}
use Rattle.bx_world.specs.declared.rehearsal.Rehearsal.{Rehearsal}
use Rattle.bx_two_ends.specs.Earning.{events_of, seconds_after}
use Rattle.bx_two_ends.specs.Joined.{IsEngineDay}
use Rattle.bx_two_ends.specs.Lockstep.{turns_from, ends_opening}
use Rattle.bx_two_ends.specs.Scripts.{AreScriptRows}
use Rattle.bx_two_ends.proofs.EarnedDays.{seconds_are}
use Rattle.bx_two_ends.proofs.Engine as engine
use Rattle.bx_two_ends.proofs.Joined.{Between as BetweenTurns, Crosses, ends_of, in_turns}
use Rattle.bx_two_ends.proofs.JoinedDays.{opened_between, same_text}

module _ {R W S T D : Type 0} (remaining : R → Option (List ℕ)) (contents : W → Option (List ℕ)) (far_remaining : S → Option (List ℕ)) (far_contents : T → Option (List ℕ)) (holds may_leave : D → List ℕ → Type 0) (moment : D → ℕ) (left_since : D → ℕ → List ℕ → Type 0) (has_failed : D → Bool)
    (rows : List Row) (channels : List Bool) (assigned : List (Option ℕ)) (script : List ScriptRow) (old new : Rehearsal (BothEnds R W S T) D) (reached : Day) (b : AreBookings rows) (set : IsChannelSet channels) (h : Carries rows channels (plans.is_accepted assigned) (plans.channel_at assigned)) (s : AreScriptRows script)
    (j : IsEngineDay remaining contents far_remaining far_contents holds may_leave moment left_since has_failed rows assigned script old new reached) where
  abbrev Start : Day
  Start = opening rows assigned

  abbrev Far : FarDay
  Far = old.peer.distant.far

  ran : engine.Ran remaining contents far_remaining far_contents holds may_leave moment left_since has_failed (λ n. talk_in n Start (j.joined.far_said ++ j.joined.following)) Start reached 0 [] old.peer.near.writer new.peer.near.writer old.peer.distant new.peer.distant (j.joined.said ++ j.joined.far_following)
  ran = engine.ran remaining contents far_remaining far_contents holds may_leave moment left_since has_failed reached j.early j.acts (Between Start) old new (j.joined.far_said ++ j.joined.following) (j.joined.said ++ j.joined.far_following)
      (record { heard = j.joined.hears; far_heard = j.joined.far_hears; is_open = j.session }) j.chain j.lost tt j.run

  abbrev Told : List ℕ
  Told = told exchange_next exchange_text (talk_in ran.turns Start (j.joined.far_said ++ j.joined.following)).events Start

  said_is : j.joined.said ≡ Told ++ day_frame
  said_is = same_text (contents (device_of old.peer.near.writer)) (contents (device_of new.peer.near.writer)) j.joined.held j.joined.said (Told ++ day_frame) j.joined.holds j.joined.writes ran.near.written

  far_said_is : j.joined.far_said ≡ told far_next far_text (far_talk_in ran.far_part.turns Far (j.joined.said ++ j.joined.far_following)).events Far
  far_said_is = same_text (far_contents (device_of old.peer.distant.connection.writer)) (far_contents (device_of new.peer.distant.connection.writer)) j.joined.far_held j.joined.far_said _ j.joined.far_holds j.joined.far_writes ran.far_part.written

  text_is : j.joined.said ++ j.joined.far_following ≡ Told ++ (day_frame ++ j.joined.far_following)
  text_is = ap (λ (l : List ℕ). l ++ j.joined.far_following) said_is ∙ append_assoc Told day_frame j.joined.far_following

  crosses : Crosses ran.turns ran.far_part.turns Start Far [] Told j.joined.far_said j.joined.following (day_frame ++ j.joined.far_following)
  crosses = record {
    written = refl;
    far_written = far_said_is ∙ ap (λ (t : List ℕ). told far_next far_text (far_talk_in ran.far_part.turns Far t).events Far) text_is;
    ending = ran.near.ending;
    far_ending = ran.far_part.ending ∙ ap (λ (t : List ℕ). (far_talk_in ran.far_part.turns Far t).ending) text_is;
  }

  start : BetweenTurns assigned Start Far []
  start = subst (λ (f : FarDay). BetweenTurns assigned Start f []) (sym j.far_opened) (opened_between rows channels assigned script b set h s)

  pub engine_in_lockstep : reached ≡ live_day_after (events_of (turns_from reached.moment (ends_opening rows assigned script))) Start
  engine_in_lockstep =
      let turns : ran.turns ≡ reached.moment = (let r = ran.reached in omega (arith, r)) in
      ran.near.day
      ∙ in_turns assigned ran.turns ran.far_part.turns Start Far [] Told j.joined.far_said j.joined.following (day_frame ++ j.joined.far_following) start (let e = j.early in omega (arith, turns, e)) crosses
      ∙ ap (λ (f : FarDay). seconds_after (turns_from ran.turns (ends_of Start f [])) Start) j.far_opened
      ∙ ap (λ (n : ℕ). seconds_after (turns_from n (ends_opening rows assigned script)) Start) turns
      ∙ sym (seconds_are (turns_from reached.moment (ends_opening rows assigned script)) Start)
