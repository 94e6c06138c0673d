-- A day of both ends that went through all its turns, where each end's reader gives what the other writes.
use Rattle.std.proofs.Common.{◌≡◌, ◌≤◌, ℕ, zero, suc, ◌+◌, Bool, true, false, List, [], ◌∷◌, ◌++◌, length, Option, Some, None, Ok, Err, ◌⊎◌, inl, inr, refl, sym, ap, subst, ◌∙◌, append_assoc, arith}
use Rattle.std.specs.Io.KnownBytes.{Appends}
use Rattle.std.proofs.KnownBytes.{Appends-trans}
use Rattle.std.proofs.lemmas.List.{append_cancel_left}
use Rattle.bx_base.specs.Bookings.{Row, row_at, AreBookings, Carries}
use Rattle.bx_base.specs.Channels.{IsChannelSet}
use Rattle.bx_base.specs.Plans as plans
use Rattle.bx_devices.specs.Watching.{device_of}
use Rattle.bx_events.specs.Events.{Event}
use Rattle.bx_frames.specs.Courses.{after, told}
use Rattle.bx_frames.specs.Frames.{day_frame}
use Rattle.bx_frames.specs.Talks.{Talk}
use Rattle.bx_frames.specs.Heard.{IsWholeTalk, IsHeard}
use Rattle.bx_frames.specs.declared.fault.LinkFault.{LinkFault}
use Rattle.bx_frames.specs.declared.frame.Receiver.{Receiver}
use Rattle.bx_frames.specs.declared.frame.Receiver.TheVariants.{Exchange, FarEnd}
use Rattle.bx_day.specs.Course.{exchange_next, exchange_text}
use Rattle.bx_day.specs.Day.{Day, opening}
use Rattle.bx_day.specs.Law.{standing_at}
use Rattle.bx_day.specs.Outages.{live_day_after}
use Rattle.bx_far.specs.Course.{far_next, far_text}
use Rattle.bx_far.specs.FarDay.{FarDay, far_opening}
use Rattle.bx_far.specs.declared.row.ScriptRow.{ScriptRow}
use Rattle.bx_far.proofs.Kept.{later_few}
use Rattle.bx_sessions.specs.BothEnds.{Passage}
use Rattle.bx_link.specs.Talking.{far_talk_in}
use Rattle.bx_sessions.specs.Talking.{talk_in}
use Rattle.bx_two_ends.specs.Earning.{LiveSecond, Linked, events_of, seconds_after, IsLongEnough, IsCarriedBy, AreAnswered}
use Rattle.bx_two_ends.specs.Joined.{IsJoinedDay}
use Rattle.bx_two_ends.specs.Lockstep.{Ends, octets_received, ends_after, turns_from, ends_opening, AnswersAtOnce}
use Rattle.bx_two_ends.specs.Scripts.{AreScriptRows}
use Rattle.bx_two_ends.proofs.AnsweringDays.{answered_by}
use Rattle.bx_two_ends.proofs.EarnedDays.{seconds_are, carried_unbroken, on_link, on_link_size}
use Rattle.bx_two_ends.proofs.Joined.{Between, Crosses, ends_of, in_turns}
use Rattle.bx_two_ends.specs.Answering.{AnswersAll}
use Rattle.bx_two_ends.proofs.Lockstep.{far_end_answers}
use Rattle.bx_two_ends.proofs.Openings.{opening_seats}
use Rattle.bx_two_ends.proofs.Points.{opening_standing}

-- ---- what one end was given and wrote

-- all that there was to be heard was heard, since the end went on to the end
pub whole_heard : (receiver : Receiver) (finds : List ℕ → Talk) (text : List ℕ) (events : List Event) (b : Bool) (left : Option (List ℕ)) → IsHeard receiver finds text events (Ok b) left → IsWholeTalk (finds text) events (Ok b) left
whole_heard receiver finds text events b left (inl w) = w
whole_heard receiver finds text events b left (inr (inl p)) = absurd (let f = p.0 in cc)
whole_heard receiver finds text events b left (inr (inr p)) = absurd (let f = p.0 in cc)

pub appended : (P : Type 0) (fault : LinkFault) (b : Bool) → (Ok b ≡ Err fault) ⊎ P → P
appended P fault b (inl e) = absurd cc
appended P fault b (inr p) = p

-- what was written after what was held, told in two ways
pub same_text : (old new : Option (List ℕ)) (held text more : List ℕ) → old ≡ Some held → new ≡ Some (held ++ text) → Appends old new more → text ≡ more
same_text (Some xs) (Some ys) held text more p q a =
    let o : xs ≡ held = cc in
    let n : ys ≡ held ++ text = cc in
    append_cancel_left held text more (sym n ∙ a ∙ ap (λ (l : List ℕ). l ++ more) o)
same_text (Some xs) None held text more p q a = absurd a
same_text None new held text more p q a = absurd cc

-- ---- the day

pub opened_between : (rows : List Row) (channels : List Bool) (assigned : List (Option ℕ)) (script : List ScriptRow) → AreBookings rows → IsChannelSet channels → Carries rows channels (plans.is_accepted assigned) (plans.channel_at assigned) → AreScriptRows script → Between assigned (opening rows assigned) (far_opening script) []
opened_between rows channels assigned script b set h s = record {
  near = record { seats = opening_seats rows channels assigned b set h; within = opening_standing 1 rows assigned };
  far = record { script = s.each; within = record { calls = tt; first = omega arith; room = omega (arith, s.few, later_few 0 script) } };
  said = tt;
  moment = refl;
}

module _ {R W S T : Type 0} (rows : List Row) (channels : List Bool) (assigned : List (Option ℕ)) (script : List ScriptRow) (turns : ℕ) (near : Passage Day R W) (far : Passage FarDay S T) (b : AreBookings rows) (set : IsChannelSet channels) (h : Carries rows channels (plans.is_accepted assigned) (plans.channel_at assigned)) (s : AreScriptRows script) (few : turns ≤ 300000) (j : IsJoinedDay rows assigned script turns near far) where
  abbrev Start : Day
  Start = opening rows assigned

  abbrev FarStart : FarDay
  FarStart = far_opening script

  start : Between assigned near.opened far.opened []
  start = rw (j.opened, j.far_opened) (opened_between rows channels assigned script b set h s)

  abbrev Heard : List ℕ
  Heard = j.joined.far_said ++ j.joined.following

  near_whole : IsWholeTalk (talk_in turns near.opened Heard) j.done.near_side.talks.events (Ok true) (near.remaining (device_of near.new.reader))
  near_whole = whole_heard Exchange (talk_in turns near.opened) Heard _ true _ (j.done.near_side.talks.goes.talk Heard j.joined.hears)

  near_written : Appends (near.contents (device_of near.old.writer)) (near.contents (device_of near.new.writer)) (told exchange_next exchange_text j.done.near_side.talks.events near.opened ++ day_frame)
  near_written = Appends-trans (near.contents (device_of near.old.writer)) (near.contents (device_of j.done.near_side.last)) (near.contents (device_of near.new.writer)) (told exchange_next exchange_text j.done.near_side.talks.events near.opened) day_frame
      (appended _ _ true j.done.near_side.talks.goes.written.whole) (appended _ _ true j.done.near_side.ends.whole).1

  abbrev Told : List ℕ
  Told = told exchange_next exchange_text j.done.near_side.talks.events near.opened

  said_is : j.joined.said ≡ Told ++ day_frame
  said_is = same_text (near.contents (device_of near.old.writer)) (near.contents (device_of near.new.writer)) j.joined.held j.joined.said (Told ++ day_frame) j.joined.holds j.joined.writes near_written

  far_whole : IsWholeTalk (far_talk_in (turns + 1) far.opened (j.joined.said ++ j.joined.far_following)) j.done.far_side.events (Ok false) (far.remaining (device_of far.new.reader))
  far_whole = whole_heard FarEnd (far_talk_in (turns + 1) far.opened) (j.joined.said ++ j.joined.far_following) j.done.far_side.events false _ (j.done.far_side.goes.talk (j.joined.said ++ j.joined.far_following) j.joined.far_hears)

  far_said_is : j.joined.far_said ≡ told far_next far_text j.done.far_side.events far.opened
  far_said_is = same_text (far.contents (device_of far.old.writer)) (far.contents (device_of far.new.writer)) j.joined.far_held j.joined.far_said _ j.joined.far_holds j.joined.far_writes (appended _ _ false j.done.far_side.goes.written.whole)

  text_is : j.joined.said ++ j.joined.far_following ≡ Told ++ (day_frame ++ j.joined.far_following)
  text_is = ap (λ (l : List ℕ). l ++ j.joined.far_following) said_is ∙ append_assoc Told day_frame j.joined.far_following

  crosses : Crosses turns (turns + 1) near.opened far.opened [] Told j.joined.far_said j.joined.following (day_frame ++ j.joined.far_following)
  crosses = record {
    written = ap (λ (es : List Event). told exchange_next exchange_text es near.opened) near_whole.all;
    far_written = far_said_is ∙ ap (λ (es : List Event). told far_next far_text es far.opened) far_whole.all ∙ ap (λ (t : List ℕ). told far_next far_text (far_talk_in (turns + 1) far.opened t).events far.opened) text_is;
    ending = near_whole.ending;
    far_ending = far_whole.ending ∙ ap (λ (t : List ℕ). (far_talk_in (turns + 1) far.opened t).ending) text_is;
  }

  early : near.opened.moment + turns ≤ 300000
  early = let zero' : near.opened.moment ≡ 0 = ap (λ (d : Day). d.moment) j.opened in omega (arith, zero', few)

  pub in_lockstep : near.reached ≡ live_day_after (events_of (turns_from turns (ends_opening rows assigned script))) Start
  in_lockstep =
      j.done.near_side.talks.goes.day
      ∙ ap (λ (es : List Event). after exchange_next es near.opened) near_whole.all
      ∙ in_turns assigned turns (turns + 1) near.opened far.opened [] Told j.joined.far_said j.joined.following (day_frame ++ j.joined.far_following) start early crosses
      ∙ ap (λ (d : Day). seconds_after (turns_from turns (ends_of d far.opened [])) d) j.opened
      ∙ ap (λ (f : FarDay). seconds_after (turns_from turns (ends_of Start f [])) Start) j.far_opened
      ∙ sym (seconds_are (turns_from turns (ends_opening rows assigned script)) Start)

-- ---- its turns as octets

pub heard_by : ℕ → Ends → List (List (List ℕ))
heard_by zero e = []
heard_by (suc n) e = octets_received e ∷ heard_by n (ends_after e)

pub turns_heard : (n : ℕ) (e : Ends) → turns_from n e ≡ on_link (heard_by n e)
unfolding heard_by
turns_heard zero e = refl
turns_heard (suc n) e = ap (λ (ss : List LiveSecond). Linked (octets_received e) ∷ ss) (turns_heard n (ends_after e))

pub heard_size : (n : ℕ) (e : Ends) → length (heard_by n e) ≡ n
unfolding heard_by
heard_size zero e = refl
heard_size (suc n) e = ap suc (heard_size n (ends_after e))

-- where the far end's script answers at once, each of its turns is answered
module _ (rows : List Row) (channels : List Bool) (assigned : List (Option ℕ)) (script : List ScriptRow) (turns : ℕ) (b : AreBookings rows) (set : IsChannelSet channels) (h : Carries rows channels (plans.is_accepted assigned) (plans.channel_at assigned)) (once : AnswersAtOnce script) (few : turns ≤ 300000) where
  abbrev Opened : Ends
  Opened = ends_opening rows assigned script

  size : length (heard_by turns Opened) ≡ turns
  size = heard_size turns Opened

  answered : AreAnswered (on_link (heard_by turns Opened)) (opening rows assigned)
  answered = answered_by rows channels assigned (on_link (heard_by turns Opened)) b set h (omega (arith, few, size, on_link_size (heard_by turns Opened)))
      (subst (λ (ss : List LiveSecond). AnswersAll ss (opening rows assigned)) (turns_heard turns Opened) (far_end_answers rows channels assigned script turns b set h once few))

  pub answered_carries : (i : ℕ) → IsLongEnough rows assigned i turns → IsCarriedBy ((row_at rows i).start + 1) (row_at rows i).end (standing_at (live_day_after (events_of (turns_from turns Opened)) (opening rows assigned)) i)
  answered_carries i k = subst (λ (ss : List LiveSecond). IsCarriedBy ((row_at rows i).start + 1) (row_at rows i).end (standing_at (live_day_after (events_of ss) (opening rows assigned)) i)) (sym (turns_heard turns Opened))
      (carried_unbroken rows channels assigned (heard_by turns Opened) i b h (omega (arith, few, size)) answered (subst (IsLongEnough rows assigned i) (sym size) k))
