-- A run of the engine over a world of both ends, told as what each end found in what it was given, and wrote for it.
use Rattle.std.proofs.Common.{◌≡◌, ◌≤◌, ◌<◌, inl, inr, ℕ, zero, suc, ◌+◌, ◌-◌, ◌==◌, ◌&&◌, nat_le, Bool, true, false, not, List, [], ◌∷◌, ◌++◌, Option, Some, None, Result, Ok, Err, refl, sym, ap, subst, ◌∙◌, append_assoc, arith, if◌then◌else◌}
use Rattle.std.specs.Io.KnownBytes.{Appends}
use Rattle.std.specs.List.{concat}
use Rattle.std.proofs.lemmas.List.{append-nil}
use Rattle.std.proofs.KnownBytes.{Appends-trans}
use Rattle.std.proofs.lemmas.Bool.{eqb-true}
use Rattle.std.proofs.lemmas.Bool.Decides.{nat_tests}
use Rattle.arrayvec.specs.ArrayVec.{ArrayVec}
use Rattle.bx_devices.specs.Watching.{device_of}
use Rattle.bx_devices.specs.declared.watched.Watched.{Watched}
use Rattle.bx_events.specs.Events.{Event, Tick, Receive, OnLink, WithoutLink, Amended, HeardByRulesTwo}
use Rattle.bx_frames.specs.Courses.{after, told}
use Rattle.bx_frames.specs.Frames.{found, continue_by, octets_in, length_in, fits, is_message, frame_of, sized_in, frame_kind_of, kind_in, day_frame, frame_in}
use Rattle.bx_frames.specs.declared.frame.FrameKind.{FrameKind}
use Rattle.bx_frames.specs.declared.frame.FrameKind.TheVariants as kinds
use Rattle.bx_frames.proofs.Locality.{sized_by}
use Rattle.bx_frames.proofs.Events.{told_more}
use Rattle.bx_frames.specs.declared.fault.LinkFault.TheVariants.{WrongMoment}
use Rattle.bx_frames.specs.Reading.{IsFound, Reads}
use Rattle.bx_frames.specs.Talks.{Talk, stop, with_events, turn_in}
use Rattle.bx_frames.specs.declared.fault.LinkFault.{LinkFault}
use Rattle.bx_frames.specs.declared.frame.Frame.{Frame}
use Rattle.bx_frames.specs.declared.frame.Frame.TheVariants as frames
use Rattle.bx_frames.specs.declared.frame.Receiver.TheVariants.{Exchange, FarEnd}
use Rattle.bx_frames.proofs.ReadingSteps.{was_found}
use Rattle.bx_frames.proofs.Turns.{turn_message, turn_right}
use Rattle.bx_day.specs.Course.{exchange_next, exchange_sent, exchange_text}
use Rattle.bx_day.specs.Day.{Day}
use Rattle.bx_day.specs.Ticks.{ticked}
use Rattle.bx_calls.specs.Sending.{Sent}
use Rattle.std.proofs.lemmas.Bool.{true≢false}
use Rattle.bx_far.specs.Course.{far_next, far_text}
use Rattle.bx_far.specs.FarDay.{FarDay}
use Rattle.bx_link.specs.Sessions.{is_far_over}
use Rattle.bx_link.specs.Talking.{far_turn, far_talk_in, follow_by, closed_before}
use Rattle.bx_sessions.specs.Talking.{talk_in}
use Rattle.bx_live.specs.Acts.{Act, Began, Dropped, Logged, Synced, Wrote, Read, Took, EndedDay}
use Rattle.bx_live.specs.Written.{owed_at}
use Rattle.bx_live.specs.Runs.{Place, day_at, Between, Logging, Receiving, Taking, Owing, Hearing, Losing, Over, Closing, Ending, Done, IsRun, owing, with_reply, replying, taken, writing, begun, heard}
use Rattle.bx_live.specs.declared.world.Begin.{Begin}
use Rattle.bx_live.specs.declared.world.Begin.TheVariants as begins
use Rattle.bx_live.specs.declared.world.Loss.{Loss}
use Rattle.bx_live.specs.Chains.{Chain, chain_first}
use Rattle.bx_live.specs.declared.world.Loss.TheVariants as losses
use Rattle.bx_world.specs.BothEnds.{WroteNear, GaveBoth, PartedBoth, FarTurn, ReadsAfter, far_lost_by}
use Rattle.bx_world.specs.Rehearsals.{Rehearses, OnPeer, OnLost, begins_by}
use Rattle.bx_world.specs.declared.both_ends.BothEnds.{BothEnds}
use Rattle.bx_world.specs.declared.rehearsal.Rehearsal.{Rehearsal}
use Rattle.bx_world.specs.declared.both_ends.FarEnd.{FarEnd as PlainFarEnd}
use Rattle.bx_two_ends.proofs.Joined.{Onward, talk_step, talk_nothing, receive_moment}
use Rattle.bx_two_ends.proofs.JoinedDays.{whole_heard, appended}

-- ---- what the exchange hears

-- one message before others
onward_first : (n : ℕ) (d : Day) (octets : List ℕ) (talk : Talk) → Onward n d (with_events (Receive octets ∷ []) talk) ≡ with_events (Receive octets ∷ []) (Onward n (exchange_next d (Receive octets)) talk)
onward_first n d octets talk = go talk.ending refl
  where
    go : (x : Result Bool LinkFault) → talk.ending ≡ x → follow_by x (with_events (Receive octets ∷ []) talk) (λ events. talk_in n (after exchange_next events d)) (with_events (Receive octets ∷ []) talk)
        ≡ with_events (Receive octets ∷ []) (follow_by x talk (λ events. talk_in n (after exchange_next events (exchange_next d (Receive octets)))) talk)
    go (Ok true) q = refl
    go x q = refl

-- a message comes only where there is room for one
no_room : (text : List ℕ) (octets : ArrayVec ℕ) → Ok (frames.Message octets) ≡ (frame_in Exchange 0 text).answer → ⊥
no_room [] octets e = cc
no_room (octet ∷ text) octets e = by_kind (frame_kind_of Exchange octet) e
  where
    sized : (kind : FrameKind) (n : ℕ) (b c : Bool) (rest : List ℕ) → (is_message kind ≡ true → c ≡ true) → Ok (frames.Message octets) ≡ (sized_by b c kind n rest).answer → ⊥
    sized kind n true c rest m p = cc
    sized kind n false true rest m p = cc
    sized kinds.Message n false false rest m p = absurd (true≢false (sym (m refl)))
    sized kinds.EndOfTurn n false false rest m p = contents (octets_in n rest).answer p
      where
        contents : (x : Result (ArrayVec ℕ) LinkFault) → Ok (frames.Message octets) ≡ (continue_by x (octets_in n rest).rest (λ found' more. found (Ok (frame_of kinds.EndOfTurn found')) more)).answer → ⊥
        contents (Ok v) q = cc
        contents (Err fault) q = cc
    sized kinds.EndOfDay n false false rest m p = contents (octets_in n rest).answer p
      where
        contents : (x : Result (ArrayVec ℕ) LinkFault) → Ok (frames.Message octets) ≡ (continue_by x (octets_in n rest).rest (λ found' more. found (Ok (frame_of kinds.EndOfDay found')) more)).answer → ⊥
        contents (Ok v) q = cc
        contents (Err fault) q = cc

    by_length : (kind : FrameKind) (x : Result ℕ LinkFault) (rest : List ℕ) → Ok (frames.Message octets) ≡ (continue_by x rest (sized_in kind 0)).answer → ⊥
    by_length kind (Ok n) rest p = sized kind n (not (fits kind n)) (is_message kind && (0 == 0)) rest (λ m. ap (λ (b : Bool). b && true) m) p
    by_length kind (Err fault) rest p = cc

    by_kind : (kind : Option FrameKind) → Ok (frames.Message octets) ≡ (kind_in kind 0 text).answer → ⊥
    by_kind None p = cc
    by_kind (Some kind) p = by_length kind (length_in text).answer (length_in text).rest p

room_for : (room : ℕ) (text : List ℕ) (octets : ArrayVec ℕ) → Ok (frames.Message octets) ≡ (frame_in Exchange room text).answer → 0 < room
room_for zero text octets e = absurd (no_room text octets e)
room_for (suc room) text octets e = omega arith

-- ---- a run, from a place of it

module _ {R W S T D : Type 0} (remaining : R → Option (List ℕ)) (contents : W → Option (List ℕ)) (far_remaining : S → Option (List ℕ)) (far_contents : T → Option (List ℕ)) (holds may_leave : D → List ℕ → Type 0) (moment : D → ℕ) (left_since : D → ℕ → List ℕ → Type 0) (has_failed : D → Bool) where
  abbrev Peer : Type 0
  Peer = BothEnds R W S T

  abbrev World : Type 0
  World = Rehearsal Peer D

  abbrev Goes : World → Act → World → Type 0
  Goes = Rehearses (WroteNear contents) (GaveBoth remaining far_remaining far_contents) (PartedBoth contents far_remaining far_contents) holds may_leave moment left_since has_failed

  -- a peer that was lost stays lost
  still : (was : LinkFault) (act : Act) (lost : Option LinkFault) → OnLost (Some was) act lost → (fault : LinkFault) × (lost ≡ Some fault)
  still was (Began second begin) lost p = (was, p.0)
  still was (Dropped loss) lost p = (_, p)
  still was act lost p = (was, p)

  stays_lost : (acts : List Act) (s new : World) (was : LinkFault) → s.lost ≡ Some was → Chain Goes s acts new → new.lost ≡ None → ⊥
  stays_lost [] s new was is same none = let both : s.lost ≡ new.lost = ap (λ (w : World). w.lost) same in cc
  stays_lost (act ∷ acts) s new was is chain none =
      let step = chain_first Goes s new act acts chain in
      let on = still was act step.0.lost (subst (λ (l : Option LinkFault). OnLost l act step.0.lost) is step.1.lost) in
      stays_lost acts step.0 new on.0 on.1 step.2 none

  not_lost : (acts : List Act) (s new : World) → Chain Goes s acts new → new.lost ≡ None → s.lost ≡ None
  not_lost acts s new chain none = go s.lost refl
    where
      go : (l : Option LinkFault) → s.lost ≡ l → s.lost ≡ None
      go None is = is
      go (Some was) is = absurd (stays_lost acts s new was is chain none)

  losing_never : (acts : List Act) (d d' : Day) (loss : Loss) (s new : World) → IsRun (Losing d loss) acts (Done d') → Chain Goes s acts new → new.lost ≡ None → ⊥
  losing_never [] d d' loss s new run chain none = cc
  losing_never (Dropped why ∷ acts) d d' loss s new run chain none =
      let step = chain_first Goes s new (Dropped why) acts chain in
      stays_lost acts step.0 new _ step.1.lost step.2 none
  losing_never (act ∷ acts) d d' loss s new run chain none = run.0

  over_never : (acts : List Act) (d d' : Day) → IsRun (Over d) acts (Done d') → ⊥
  over_never [] d d' run = cc
  over_never (act ∷ acts) d d' run = run.0

  done_is : (acts : List Act) (d d' : Day) (s new : World) → IsRun (Done d) acts (Done d') → Chain Goes s acts new → (d ≡ d') × (s ≡ new)
  done_is [] d d' s new run chain = (cc, chain)
  done_is (act ∷ acts) d d' s new run chain = absurd run.0

  -- ---- what each end did from there on

  pub record NearPart (talk : Talk) (d d' : Day) (owed : List ℕ) (w w' : Watched W) : Type 0 where
    pub ending : Ok true ≡ talk.ending
    pub day : d' ≡ after exchange_next talk.events d
    pub written : Appends (contents (device_of w)) (contents (device_of w')) (owed ++ (told exchange_next exchange_text talk.events d ++ day_frame))

  pub record FarPart (far last : PlainFarEnd S T) (u : List ℕ) : Type 0 where
    pub turns : ℕ
    pub ending : Ok false ≡ (far_talk_in turns far.far u).ending
    pub written : Appends (far_contents (device_of far.connection.writer)) (far_contents (device_of last.connection.writer)) (told far_next far_text (far_talk_in turns far.far u).events far.far)

  pub record Ran (talks : ℕ → Talk) (d d' : Day) (m : ℕ) (owed : List ℕ) (w w' : Watched W) (far last : PlainFarEnd S T) (u : List ℕ) : Type 0 where
    pub turns : ℕ
    pub near : NearPart (talks turns) d d' owed w w'
    pub reached : m + turns ≡ d'.moment
    pub far_part : FarPart far last u

  -- what the readers still give
  pub record Known (s : World) (t u : List ℕ) : Type 0 where
    pub heard : remaining (device_of s.peer.near.reader) ≡ Some t
    pub far_heard : far_remaining (device_of s.peer.distant.connection.reader) ≡ Some u
    pub is_open : is_far_over s.peer.distant.session ≡ false

  known_same : (s mid : World) (t u : List ℕ) → mid.peer.near.reader ≡ s.peer.near.reader → mid.peer.distant ≡ s.peer.distant → Known s t u → Known mid t u
  known_same s mid t u near distant k = record {
    heard = ap (λ (r : Watched R). remaining (device_of r)) near ∙ k.heard;
    far_heard = ap (λ (f : PlainFarEnd S T). far_remaining (device_of f.connection.reader)) distant ∙ k.far_heard;
    is_open = ap (λ (f : PlainFarEnd S T). is_far_over f.session) distant ∙ k.is_open;
  }

  -- what is heard from a place on, in so many turns after this one
  abbrev talk_at : Place → List ℕ → ℕ → Talk
  talk_at (Between d) t n = talk_in n d t
  talk_at (Logging d room (OnLink e)) t n = with_events (e ∷ []) (Onward n (exchange_next d e) (turn_in Exchange (exchange_next d e).moment room t))
  talk_at (Receiving d room owed octets) t n = with_events (Receive octets ∷ []) (Onward n (exchange_next d (Receive octets)) (turn_in Exchange (exchange_next d (Receive octets)).moment room t))
  talk_at (Taking d room owed) t n = Onward n d (turn_in Exchange d.moment room t)
  talk_at (Owing d room unsynced texts) t n = Onward n d (turn_in Exchange d.moment room t)
  talk_at (Hearing d room) t n = Onward n d (turn_in Exchange d.moment room t)
  talk_at place t n = stop (Ok true) t t

  abbrev moment_at : Place → ℕ
  moment_at (Logging d room (OnLink e)) = (exchange_next d e).moment
  moment_at (Receiving d room owed octets) = (exchange_next d (Receive octets)).moment
  moment_at place = (day_at place).moment

  -- a place of a run that goes well, before its end
  abbrev IsWell : Place → Type 0
  IsWell (Between d) = Unit {0}
  IsWell (Logging d room (OnLink e)) = Unit {0}
  IsWell (Receiving d room [] octets) = Unit {0}
  IsWell (Taking d room owed) = Unit {0}
  IsWell (Owing d room unsynced texts) = Unit {0}
  IsWell (Hearing d room) = Unit {0}
  IsWell (Ending d) = Unit {0}
  IsWell place = ⊥

  -- ---- the far end's turns

  far_talk_on : (k : ℕ) (f : FarDay) (u : List ℕ) → Ok true ≡ (far_turn f u).ending → far_talk_in (suc k) f u ≡ with_events (far_turn f u).events (far_talk_in k (after far_next (far_turn f u).events f) (far_turn f u).rest)
  unfolding far_talk_in
  far_talk_on k f u e = ap (λ (x : Result Bool LinkFault). follow_by x (far_turn f u) (λ events. far_talk_in k (after far_next events f)) (closed_before k (far_turn f u))) (sym e)

  far_talk_last : (f : FarDay) (u : List ℕ) → Ok false ≡ (far_turn f u).ending → far_talk_in (suc zero) f u ≡ far_turn f u
  unfolding far_talk_in
  far_talk_last f u e = ap (λ (x : Result Bool LinkFault). follow_by x (far_turn f u) (λ events. far_talk_in zero (after far_next events f)) (closed_before zero (far_turn f u))) (sym e)

  -- what a turn of the far end leaves, where its part goes on from there
  record FarStep (far mid : PlainFarEnd S T) (u : List ℕ) : Type 0 where
    rest : List ℕ
    known : far_remaining (device_of mid.connection.reader) ≡ Some rest
    is_open : is_far_over mid.session ≡ false
    grows : (last : PlainFarEnd S T) → FarPart mid last rest → FarPart far last u

  far_took : (far mid : PlainFarEnd S T) (u : List ℕ) → far_remaining (device_of far.connection.reader) ≡ Some u → is_far_over far.session ≡ false → FarTurn far_remaining far_contents far mid (Ok true) → FarStep far mid u
  far_took far mid u known is_open turn =
      let took = turn.took is_open in
      let whole = whole_heard FarEnd (far_turn far.far) u took.events true _ (took.goes.talk u known) in
      let events : took.events ≡ (far_turn far.far u).events = whole.all in
      let day : mid.far ≡ after far_next (far_turn far.far u).events far.far = took.goes.day ∙ ap (λ (es : List Event). after far_next es far.far) events in
      record {
        rest = (far_turn far.far u).rest;
        known = whole.rest;
        is_open = turn.over;
        grows = λ last p.
            let on : far_talk_in (suc p.turns) far.far u ≡ with_events (far_turn far.far u).events (far_talk_in p.turns mid.far (far_turn far.far u).rest) =
            far_talk_on p.turns far.far u whole.ending ∙ ap (λ (f : FarDay). with_events (far_turn far.far u).events (far_talk_in p.turns f (far_turn far.far u).rest)) (sym day) in
            let tells : told far_next far_text (far_talk_in (suc p.turns) far.far u).events far.far ≡ told far_next far_text took.events far.far ++ told far_next far_text (far_talk_in p.turns mid.far (far_turn far.far u).rest).events mid.far =
            ap (λ (t : Talk). told far_next far_text t.events far.far) on
            ∙ told_more far_next far_text (far_turn far.far u).events (far_talk_in p.turns mid.far (far_turn far.far u).rest).events far.far
            ∙ ap (λ (f : FarDay). told far_next far_text (far_turn far.far u).events far.far ++ told far_next far_text (far_talk_in p.turns mid.far (far_turn far.far u).rest).events f) (sym day)
            ∙ ap (λ (es : List Event). told far_next far_text es far.far ++ told far_next far_text (far_talk_in p.turns mid.far (far_turn far.far u).rest).events mid.far) (sym events) in
            record {
              turns = suc p.turns;
              ending = p.ending ∙ sym (ap (λ (t : Talk). t.ending) on);
              written = subst (Appends (far_contents (device_of far.connection.writer)) (far_contents (device_of last.connection.writer))) (sym tells)
                  (Appends-trans (far_contents (device_of far.connection.writer)) (far_contents (device_of mid.connection.writer)) (far_contents (device_of last.connection.writer)) _ _ (appended _ _ true took.goes.written.whole) p.written);
            };
      }

  -- what a read of a frame did, of either end
  record ReadStep (s mid : World) (room : ℕ) (frame : Frame) (t u : List ℕ) : Type 0 where
    found' : IsFound (frame_in Exchange room t) (Ok frame) (remaining (device_of mid.peer.near.reader))
    far_step : FarStep s.peer.distant mid.peer.distant u

  read_step : (s mid : World) (room : ℕ) (frame : Frame) (t u : List ℕ) → Known s t u → GaveBoth remaining far_remaining far_contents s.peer room (Ok frame) mid.peer → ReadStep s mid room frame t u
  read_step s mid room frame t u k reads = by_due s.peer.is_due refl
    where
      found_in : Reads remaining s.peer.near.reader mid.peer.near.reader (Ok frame) (frame_in Exchange room) → IsFound (frame_in Exchange room t) (Ok frame) (remaining (device_of mid.peer.near.reader))
      found_in r = was_found (frame_in Exchange room) t frame (remaining (device_of mid.peer.near.reader)) (r.found t k.heard)

      by_turn : (turned : Result Bool LinkFault) → FarTurn far_remaining far_contents s.peer.distant mid.peer.distant turned → ReadsAfter remaining s.peer.near.reader mid.peer.near.reader (Ok frame) room turned → ReadStep s mid room frame t u
      by_turn (Ok true) turn r = record { found' = found_in r; far_step = far_took s.peer.distant mid.peer.distant u k.far_heard k.is_open turn }
      by_turn (Ok false) turn r = absurd (let e = r.1 in cc)
      by_turn (Err fault) turn r = absurd (let e = r.1 in cc)

      by_due : (b : Bool) → s.peer.is_due ≡ b → ReadStep s mid room frame t u
      by_due false is =
          let r = reads.at_once is in
          record {
            found' = found_in r.1;
            far_step = record {
              rest = u;
              known = ap (λ (f : PlainFarEnd S T). far_remaining (device_of f.connection.reader)) r.0 ∙ k.far_heard;
              is_open = ap (λ (f : PlainFarEnd S T). is_far_over f.session) r.0 ∙ k.is_open;
              grows = λ last p. subst (λ (f : PlainFarEnd S T). FarPart f last u) r.0 p;
            };
          }
      by_due true is = let r = reads.following is in by_turn r.0 r.1 r.2

  -- ---- the run

  -- the parts after an act that leaves both ends' connections as they were
  quiet : {talks : ℕ → Talk} {d d' : Day} {m : ℕ} {owed : List ℕ} {w' : Watched W} {last : PlainFarEnd S T} {u : List ℕ} (s mid : World) → mid.peer.near.writer ≡ s.peer.near.writer → mid.peer.distant ≡ s.peer.distant → Ran talks d d' m owed mid.peer.near.writer w' mid.peer.distant last u → Ran talks d d' m owed s.peer.near.writer w' s.peer.distant last u
  quiet {talks = talks} {d = d} {d' = d'} {m = m} {owed = owed} {w' = w'} {last = last} {u = u} s mid near distant r =
      subst (λ (f : PlainFarEnd S T). Ran talks d d' m owed s.peer.near.writer w' f last u) distant (subst (λ (w : Watched W). Ran talks d d' m owed w w' mid.peer.distant last u) near r)

  -- an event before what is written for it
  event_first : (e : Event) (talks : ℕ → Talk) (d d' : Day) (w w' : Watched W) (far last : PlainFarEnd S T) (u : List ℕ) → Ran talks (exchange_next d e) d' (exchange_next d e).moment (exchange_text d e) w w' far last u → Ran (λ n. with_events (e ∷ []) (talks n)) d d' (exchange_next d e).moment [] w w' far last u
  event_first e talks d d' w w' far last u r = record {
    turns = r.turns;
    near = record {
      ending = r.near.ending;
      day = r.near.day;
      written = subst (Appends (contents (device_of w)) (contents (device_of w'))) (sym (append_assoc (exchange_text d e) (told exchange_next exchange_text (talks r.turns).events (exchange_next d e)) day_frame)) r.near.written;
    };
    reached = r.reached;
    far_part = r.far_part;
  }

  -- the same talk, told in another way
  same_talk : (talks others : ℕ → Talk) (d d' : Day) (m : ℕ) (owed : List ℕ) (w w' : Watched W) (far last : PlainFarEnd S T) (u : List ℕ) → ((n : ℕ) → talks n ≡ others n) → Ran talks d d' m owed w w' far last u → Ran others d d' m owed w w' far last u
  same_talk talks others d d' m owed w w' far last u same r = record { turns = r.turns; near = subst (λ (t : Talk). NearPart t d d' owed w w') (same r.turns) r.near; reached = r.reached; far_part = r.far_part }

  module _ (d' : Day) (early : d'.moment < 300000) where
    -- what is to be shown of a place, with some of the acts
    abbrev RunsOn : List Act → Place → World → World → List ℕ → List ℕ → Type 0
    RunsOn acts place s new t u = IsWell place → IsRun place acts (Done d') → Ran (talk_at place t) (day_at place) d' (moment_at place) (owed_at place) s.peer.near.writer new.peer.near.writer s.peer.distant new.peer.distant u

    -- what is owed, as one text
    one_text : (text : List ℕ) {talks : ℕ → Talk} {d : Day} {m : ℕ} {w w' : Watched W} {far last : PlainFarEnd S T} {u : List ℕ} → Ran talks d d' m (text ++ []) w w' far last u → Ran talks d d' m text w w' far last u
    one_text text {talks = talks} {d = d} {m = m} {w = w} {w' = w'} {far = far} {last = last} {u = u} r = subst (λ (l : List ℕ). Ran talks d d' m l w w' far last u) (append-nil text) r

    by_owed : (acts : List Act) (d : Day) (room : ℕ) (s new : World) (t u : List ℕ) → ((place : Place) → RunsOn acts place s new t u) → (sent : List (ArrayVec ℕ)) (text : List ℕ) → IsRun (owing d room sent text) acts (Done d')
        → Ran (λ n. Onward n d (turn_in Exchange d.moment room t)) d d' d.moment text s.peer.near.writer new.peer.near.writer s.peer.distant new.peer.distant u
    by_owed acts d room s new t u again [] [] run = again (Hearing d room) tt run
    by_owed acts d room s new t u again [] (octet ∷ text) run = one_text (octet ∷ text) (again (Owing d room false ((octet ∷ text) ∷ [])) tt run)
    by_owed acts d room s new t u again (m ∷ sent) text run = one_text text (again (Owing d room true (text ∷ [])) tt run)

    -- and for a message alone
    by_reply : (acts : List Act) (d : Day) (room : ℕ) (s new : World) (t u : List ℕ) → ((place : Place) → RunsOn acts place s new t u) → (text : List ℕ) → IsRun (replying d (with_reply [] text) room) acts (Done d')
        → Ran (λ n. Onward n d (turn_in Exchange d.moment room t)) d d' d.moment text s.peer.near.writer new.peer.near.writer s.peer.distant new.peer.distant u
    by_reply acts d room s new t u again [] run = again (Hearing d room) tt run
    by_reply acts d zero s new t u again (octet ∷ text) run = one_text (octet ∷ text) (again (Owing d zero true ((octet ∷ text) ∷ [])) tt run)
    by_reply acts d (suc room) s new t u again (octet ∷ text) run = one_text (octet ∷ text) (again (Taking d (suc room) ((octet ∷ text) ∷ [])) tt run)

    -- after one of the texts
    by_texts : (acts : List Act) (d : Day) (room : ℕ) (s new : World) (t u : List ℕ) → ((place : Place) → RunsOn acts place s new t u) → (texts : List (List ℕ)) → IsRun (writing d room texts) acts (Done d')
        → Ran (λ n. Onward n d (turn_in Exchange d.moment room t)) d d' d.moment (concat texts) s.peer.near.writer new.peer.near.writer s.peer.distant new.peer.distant u
    by_texts acts d room s new t u again [] run = again (Hearing d room) tt run
    by_texts acts d room s new t u again (text ∷ texts) run = again (Owing d room false (text ∷ texts)) tt run

    next_moment : (d : Day) (n : ℕ) → (exchange_next d Tick).moment + n ≡ d'.moment → d.moment + suc n ≡ d'.moment
    next_moment d n e = by_test (nat_le 300000 d.moment) refl e
      where
        by_test : (b : Bool) → nat_le 300000 d.moment ≡ b → (let s : Sent Day = if b then record { day = d; sent = [] } else ticked d in s).day.moment + n ≡ d'.moment → d.moment + suc n ≡ d'.moment
        by_test true q p = let late : 300000 ≤ d.moment = grind (arith, nat_tests) in absurd (omega (arith, late, p, early))
        by_test false q p = omega (arith, p)

    begun_ran : (acts : List Act) (d : Day) (begin : Begin) (s new : World) (t u : List ℕ) → begin ≡ begins_by s.lost → s.lost ≡ None → ((place : Place) → RunsOn acts place s new t u) → IsRun (begun d begin) acts (Done d')
        → Ran (λ n. talk_in n d t) d d' d.moment [] s.peer.near.writer new.peer.near.writer s.peer.distant new.peer.distant u
    begun_ran acts d begin s new t u is none again run =
        let joined : begin ≡ begins.Joined = is ∙ ap begins_by none in
        let r = again (Logging d 64 (OnLink Tick)) tt (subst (λ (b : Begin). IsRun (begun d b) acts (Done d')) joined run) in
        record {
          turns = suc r.turns;
          near = subst (λ (talk : Talk). NearPart talk d d' [] s.peer.near.writer new.peer.near.writer) (sym (talk_step r.turns d t)) r.near;
          reached = next_moment d r.turns r.reached;
          far_part = r.far_part;
        }

    closing_ran : (acts : List Act) (d : Day) (done : Bool) (s new : World) (t u : List ℕ) → ((place : Place) → RunsOn acts place s new t u) → IsRun (if done then Ending d else Over d) acts (Done d')
        → Ran (λ n. talk_in n d t) d d' d.moment [] s.peer.near.writer new.peer.near.writer s.peer.distant new.peer.distant u
    closing_ran acts d false s new t u again run = absurd (over_never acts d d' run)
    closing_ran acts d true s new t u again run =
        let r = again (Ending d) tt run in
        record {
          turns = zero;
          near = subst (λ (talk : Talk). NearPart talk d d' [] s.peer.near.writer new.peer.near.writer) (sym (talk_nothing d t)) r.near;
          reached = let same : d ≡ d' = sym r.near.day in let m : d.moment ≡ d'.moment = ap (λ (x : Day). x.moment) same in omega (arith, m);
          far_part = r.far_part;
        }

    ended_ran : (acts : List Act) (d : Day) (s mid new : World) (t u : List ℕ) → Known s t u → s.lost ≡ None → Goes s EndedDay mid → IsRun (Done d) acts (Done d') → Chain Goes mid acts new → new.lost ≡ None
        → Ran (λ n. stop (Ok true) t t) d d' d.moment [] s.peer.near.writer new.peer.near.writer s.peer.distant new.peer.distant u
    ended_ran acts d s mid new t u k was step run chain none =
        let over = done_is acts d d' mid new run chain in
        let lost : mid.lost ≡ None = ap (λ (w : World). w.lost) over.1 ∙ none in
        by_end lost over.0 over.1 (subst (λ (l : Option LinkFault). OnPeer (WroteNear contents) (GaveBoth remaining far_remaining far_contents) (PartedBoth contents far_remaining far_contents) s.peer l EndedDay mid.peer mid.lost) was step.peer)
      where
        by_turn : (turned : Result Bool LinkFault) → mid.lost ≡ None → d ≡ d' → Appends (contents (device_of s.peer.near.writer)) (contents (device_of mid.peer.near.writer)) day_frame → FarTurn far_remaining far_contents s.peer.distant mid.peer.distant turned → mid.lost ≡ far_lost_by turned → Ran (λ n. stop (Ok true) t t) d d' d.moment [] s.peer.near.writer mid.peer.near.writer s.peer.distant mid.peer.distant u
        by_turn (Ok true) lost same put turn is = absurd (let e = sym is ∙ lost in cc)
        by_turn (Err fault) lost same put turn is = absurd (let e = sym is ∙ lost in cc)
        by_turn (Ok false) lost same put turn is =
            let took = turn.took k.is_open in
            let whole = whole_heard FarEnd (far_turn s.peer.distant.far) u took.events false _ (took.goes.talk u k.far_heard) in
            let last = far_talk_last s.peer.distant.far u whole.ending in
            record {
              turns = zero;
              near = record { ending = refl; day = sym same; written = put };
              reached = let m : d.moment ≡ d'.moment = ap (λ (x : Day). x.moment) same in omega (arith, m);
              far_part = record {
                turns = suc zero;
                ending = whole.ending ∙ sym (ap (λ (x : Talk). x.ending) last);
                written = subst (λ (es : List Event). Appends (far_contents (device_of s.peer.distant.connection.writer)) (far_contents (device_of mid.peer.distant.connection.writer)) (told far_next far_text es s.peer.distant.far)) (whole.all ∙ sym (ap (λ (x : Talk). x.events) last)) (appended _ _ false took.goes.written.whole);
              };
            }

        by_end : mid.lost ≡ None → d ≡ d' → mid ≡ new → PartedBoth contents far_remaining far_contents s.peer mid.lost mid.peer → Ran (λ n. stop (Ok true) t t) d d' d.moment [] s.peer.near.writer new.peer.near.writer s.peer.distant new.peer.distant u
        by_end lost same is (reader, inl p) = absurd (let e = sym p.2 ∙ lost in cc)
        by_end lost same is (reader, inr p) = subst (λ (w : World). Ran (λ n. stop (Ok true) t t) d d' d.moment [] s.peer.near.writer w.peer.near.writer s.peer.distant w.peer.distant u) is (by_turn p.1.0 lost same p.0 p.1.1 p.1.2)

    -- the step of a turn that hears a frame
    heard_ran : (acts : List Act) (d : Day) (room : ℕ) (answer : Result Frame LinkFault) (s mid new : World) (t u : List ℕ) → Known s t u → GaveBoth remaining far_remaining far_contents s.peer room answer mid.peer → mid.peer.near.writer ≡ s.peer.near.writer
        → ((place : Place) (t u : List ℕ) → Known mid t u → RunsOn acts place mid new t u) → IsRun (heard d room answer) acts (Done d') → Chain Goes mid acts new → new.lost ≡ None
        → Ran (λ n. Onward n d (turn_in Exchange d.moment room t)) d d' d.moment [] s.peer.near.writer new.peer.near.writer s.peer.distant new.peer.distant u
    heard_ran acts d room (Err fault) s mid new t u k reads writer again run chain none = absurd (losing_never acts d d' _ mid new run chain none)
    heard_ran acts d room (Ok frames.EndOfDay) s mid new t u k reads writer again run chain none = absurd (losing_never acts d d' _ mid new run chain none)
    heard_ran acts d room (Ok (frames.Message octets)) s mid new t u k reads writer again run chain none =
        let step = read_step s mid room (frames.Message octets) t u k reads in
        let more : List ℕ = (frame_in Exchange room t).rest in
        let e : Event = Receive octets.items in
        let r = again (Receiving d (room - 1) [] octets.items) more step.far_step.rest (record { heard = step.found'.rest; far_heard = step.far_step.known; is_open = step.far_step.is_open }) tt run in
        let m : (exchange_next d e).moment ≡ d.moment = receive_moment d octets.items in
        let first : turn_in Exchange d.moment room t ≡ with_events (e ∷ []) (turn_in Exchange d.moment (room - 1) more) = turn_message Exchange d.moment t room octets (room_for room t octets step.found'.answer) step.found'.answer in
        let talks : (n : ℕ) → with_events (e ∷ []) (Onward n (exchange_next d e) (turn_in Exchange (exchange_next d e).moment (room - 1) more)) ≡ Onward n d (turn_in Exchange d.moment room t) = λ n.
        ap (λ (k : ℕ). with_events (e ∷ []) (Onward n (exchange_next d e) (turn_in Exchange k (room - 1) more))) m
        ∙ sym (onward_first n d octets.items (turn_in Exchange d.moment (room - 1) more))
        ∙ ap (Onward n d) (sym first) in
        let told' = same_talk _ _ d d' (exchange_next d e).moment [] mid.peer.near.writer new.peer.near.writer mid.peer.distant new.peer.distant step.far_step.rest talks r in
        record {
          turns = told'.turns;
          near = subst (λ (w : Watched W). NearPart (Onward told'.turns d (turn_in Exchange d.moment room t)) d d' [] w new.peer.near.writer) writer told'.near;
          reached = let p = told'.reached in omega (arith, p, m);
          far_part = step.far_step.grows new.peer.distant told'.far_part;
        }
    heard_ran acts d room (Ok (frames.EndOfTurn said)) s mid new t u k reads writer again run chain none = by_moment (said == d.moment) refl run
      where
        by_moment : (b : Bool) → (said == d.moment) ≡ b → IsRun (if b then Between d else Losing d (losses.Fault WrongMoment)) acts (Done d') → Ran (λ n. Onward n d (turn_in Exchange d.moment room t)) d d' d.moment [] s.peer.near.writer new.peer.near.writer s.peer.distant new.peer.distant u
        by_moment false is go = absurd (losing_never acts d d' _ mid new go chain none)
        by_moment true is go =
            let step = read_step s mid room (frames.EndOfTurn said) t u k reads in
            let more : List ℕ = (frame_in Exchange room t).rest in
            let r = again (Between d) more step.far_step.rest (record { heard = step.found'.rest; far_heard = step.far_step.known; is_open = step.far_step.is_open }) tt go in
            let first : turn_in Exchange d.moment room t ≡ stop (Ok true) more more = turn_right Exchange d.moment t room said (eqb-true said d.moment is) step.found'.answer in
            let told' = same_talk (λ n. talk_in n d more) (λ n. Onward n d (turn_in Exchange d.moment room t)) d d' d.moment [] mid.peer.near.writer new.peer.near.writer mid.peer.distant new.peer.distant step.far_step.rest (λ n. ap (Onward n d) (sym first)) r in
            record {
              turns = told'.turns;
              near = subst (λ (w : Watched W). NearPart (Onward told'.turns d (turn_in Exchange d.moment room t)) d d' [] w new.peer.near.writer) writer told'.near;
              reached = told'.reached;
              far_part = step.far_step.grows new.peer.distant told'.far_part;
            }

    pub ran : (acts : List Act) (place : Place) (s new : World) (t u : List ℕ) → Known s t u → Chain Goes s acts new → new.lost ≡ None → RunsOn acts place s new t u
    ran [] (Between d) s new t u k chain none well run = absurd cc
    ran [] (Logging d room (OnLink e)) s new t u k chain none well run = absurd cc
    ran [] (Receiving d room [] octets) s new t u k chain none well run = absurd cc
    ran [] (Taking d room owed) s new t u k chain none well run = absurd cc
    ran [] (Owing d room true texts) s new t u k chain none well run = absurd cc
    ran [] (Owing d room false (text ∷ texts)) s new t u k chain none well run = absurd cc
    ran [] (Owing d room false []) s new t u k chain none well run = absurd cc
    ran [] (Hearing d room) s new t u k chain none well run = absurd cc
    ran [] (Ending d) s new t u k chain none well run = absurd cc
    ran (Began second begin ∷ acts) (Between d) s new t u k chain none well run =
        let (mid, step, more) = chain_first Goes s new (Began second begin) acts chain in
        quiet s mid (ap (λ (p : Peer). p.near.writer) step.peer) (ap (λ (p : Peer). p.distant) step.peer) (begun_ran acts d begin mid new t u (step.lost.1 ∙ ap begins_by (sym step.lost.0)) (not_lost acts mid new more none)
        (λ place well'. ran acts place mid new t u (known_same s mid t u (ap (λ (p : Peer). p.near.reader) step.peer) (ap (λ (p : Peer). p.distant) step.peer) k) more none well') run.1)
    ran (Synced done ∷ acts) (Between d) s new t u k chain none well run =
        let (mid, step, more) = chain_first Goes s new (Synced done) acts chain in
        quiet s mid (ap (λ (p : Peer). p.near.writer) step.peer) (ap (λ (p : Peer). p.distant) step.peer) (closing_ran acts d done mid new t u (λ place well'. ran acts place mid new t u (known_same s mid t u (ap (λ (p : Peer). p.near.reader) step.peer) (ap (λ (p : Peer). p.distant) step.peer) k) more none well') run.1)
    ran (Logged event true ∷ acts) (Logging d room (OnLink e)) s new t u k chain none well run =
        let (mid, step, more) = chain_first Goes s new (Logged event true) acts chain in
        quiet s mid (ap (λ (p : Peer). p.near.writer) step.peer) (ap (λ (p : Peer). p.distant) step.peer) (event_first e (λ n. Onward n (exchange_next d e) (turn_in Exchange (exchange_next d e).moment room t)) d d' mid.peer.near.writer new.peer.near.writer mid.peer.distant new.peer.distant u
        (by_owed acts (exchange_next d e) room mid new t u (λ place well'. ran acts place mid new t u (known_same s mid t u (ap (λ (p : Peer). p.near.reader) step.peer) (ap (λ (p : Peer). p.distant) step.peer) k) more none well') (exchange_sent d e) (exchange_text d e) run.1))
    ran (Logged event false ∷ acts) (Logging d room (OnLink e)) s new t u k chain none well run = absurd (over_never acts d d' run.1)
    ran (Logged event true ∷ acts) (Receiving d room [] octets) s new t u k chain none well run =
        let (mid, step, more) = chain_first Goes s new (Logged event true) acts chain in
        let e : Event = Receive octets in
        quiet s mid (ap (λ (p : Peer). p.near.writer) step.peer) (ap (λ (p : Peer). p.distant) step.peer) (event_first e (λ n. Onward n (exchange_next d e) (turn_in Exchange (exchange_next d e).moment room t)) d d' mid.peer.near.writer new.peer.near.writer mid.peer.distant new.peer.distant u
        (by_reply acts (exchange_next d e) room mid new t u (λ place well'. ran acts place mid new t u (known_same s mid t u (ap (λ (p : Peer). p.near.reader) step.peer) (ap (λ (p : Peer). p.distant) step.peer) k) more none well') (exchange_text d e) run.1))
    ran (Logged event false ∷ acts) (Receiving d room [] octets) s new t u k chain none well run = absurd (over_never acts d d' run.1)
    ran (Took message ∷ acts) (Taking d room owed) s new t u k chain none well run =
        let (mid, step, more) = chain_first Goes s new (Took message) acts chain in
        quiet s mid (ap (λ (p : Peer). p.near.writer) step.peer.1) (ap (λ (p : Peer). p.distant) step.peer.1)
        (ran acts (Owing d room true owed) mid new t u (known_same s mid t u (ap (λ (p : Peer). p.near.reader) step.peer.1) (ap (λ (p : Peer). p.distant) step.peer.1) k) more none tt
        (subst (λ (m : Option (ArrayVec ℕ)). IsRun (taken d room owed m) acts (Done d')) step.peer.0 run.1))
    ran (Synced true ∷ acts) (Owing d room true texts) s new t u k chain none well run =
        let (mid, step, more) = chain_first Goes s new (Synced true) acts chain in
        quiet s mid (ap (λ (p : Peer). p.near.writer) step.peer) (ap (λ (p : Peer). p.distant) step.peer) (ran acts (Owing d room false texts) mid new t u (known_same s mid t u (ap (λ (p : Peer). p.near.reader) step.peer) (ap (λ (p : Peer). p.distant) step.peer) k) more none tt run.1)
    ran (Synced false ∷ acts) (Owing d room true texts) s new t u k chain none well run = absurd (over_never acts d d' run.1)
    ran (Wrote octets false ∷ acts) (Owing d room false (text ∷ texts)) s new t u k chain none well run =
        let (mid, step, more) = chain_first Goes s new (Wrote octets false) acts chain in
        absurd (losing_never acts d d' _ mid new run.1 more none)
    ran (Wrote octets true ∷ acts) (Owing d room false (text ∷ texts)) s new t u k chain none well run =
        let (mid, step, more) = chain_first Goes s new (Wrote octets true) acts chain in
        let r = by_texts acts d room mid new t u (λ place well'. ran acts place mid new t u (known_same s mid t u step.peer.unread step.peer.distant k) more none well') texts run.1 in
        let far : Ran (λ n. Onward n d (turn_in Exchange d.moment room t)) d d' d.moment (concat texts) mid.peer.near.writer new.peer.near.writer s.peer.distant new.peer.distant u = subst (λ (f : PlainFarEnd S T). Ran (λ n. Onward n d (turn_in Exchange d.moment room t)) d d' d.moment (concat texts) mid.peer.near.writer new.peer.near.writer f new.peer.distant u) step.peer.distant r in
        let rest : List ℕ = told exchange_next exchange_text (Onward far.turns d (turn_in Exchange d.moment room t)).events d ++ day_frame in
        record {
          turns = far.turns;
          near = record {
            ending = far.near.ending;
            day = far.near.day;
            written = subst (Appends (contents (device_of s.peer.near.writer)) (contents (device_of new.peer.near.writer))) (sym (append_assoc text (concat texts) rest))
                (subst (λ (l : List ℕ). Appends (contents (device_of s.peer.near.writer)) (contents (device_of new.peer.near.writer)) (l ++ (concat texts ++ rest))) run.0
                (Appends-trans (contents (device_of s.peer.near.writer)) (contents (device_of mid.peer.near.writer)) (contents (device_of new.peer.near.writer)) octets _ step.peer.written far.near.written));
          };
          reached = far.reached;
          far_part = far.far_part;
        }
    ran (Read most answer ∷ acts) (Hearing d room) s new t u k chain none well run =
        let (mid, step, more) = chain_first Goes s new (Read most answer) acts chain in
        heard_ran acts d room answer s mid new t u k (subst (λ (n : ℕ). GaveBoth remaining far_remaining far_contents s.peer n answer mid.peer) run.0 step.peer) step.peer.unwritten
        (λ place t2 u2 k2. ran acts place mid new t2 u2 k2 more none) run.1 more none
    ran (EndedDay ∷ acts) (Ending d) s new t u k chain none well run =
        let (mid, step, more) = chain_first Goes s new EndedDay acts chain in
        ended_ran acts d s mid new t u k (not_lost (EndedDay ∷ acts) s new chain none) step run.1 more none
    ran (Dropped loss ∷ acts) (Between d) s new t u k chain none well run = absurd run.0
    ran (Logged event done ∷ acts) (Between d) s new t u k chain none well run = absurd run.0
    ran (Wrote octets done ∷ acts) (Between d) s new t u k chain none well run = absurd run.0
    ran (Read most answer ∷ acts) (Between d) s new t u k chain none well run = absurd run.0
    ran (Took message ∷ acts) (Between d) s new t u k chain none well run = absurd run.0
    ran (EndedDay ∷ acts) (Between d) s new t u k chain none well run = absurd run.0
    ran (Began second begin ∷ acts) (Logging d room (OnLink e)) s new t u k chain none well run = absurd run.0
    ran (Dropped loss ∷ acts) (Logging d room (OnLink e)) s new t u k chain none well run = absurd run.0
    ran (Synced done ∷ acts) (Logging d room (OnLink e)) s new t u k chain none well run = absurd run.0
    ran (Wrote octets done ∷ acts) (Logging d room (OnLink e)) s new t u k chain none well run = absurd run.0
    ran (Read most answer ∷ acts) (Logging d room (OnLink e)) s new t u k chain none well run = absurd run.0
    ran (Took message ∷ acts) (Logging d room (OnLink e)) s new t u k chain none well run = absurd run.0
    ran (EndedDay ∷ acts) (Logging d room (OnLink e)) s new t u k chain none well run = absurd run.0
    ran (Began second begin ∷ acts) (Receiving d room [] octets) s new t u k chain none well run = absurd run.0
    ran (Dropped loss ∷ acts) (Receiving d room [] octets) s new t u k chain none well run = absurd run.0
    ran (Synced done ∷ acts) (Receiving d room [] octets) s new t u k chain none well run = absurd run.0
    ran (Wrote sent done ∷ acts) (Receiving d room [] octets) s new t u k chain none well run = absurd run.0
    ran (Read most answer ∷ acts) (Receiving d room [] octets) s new t u k chain none well run = absurd run.0
    ran (Took message ∷ acts) (Receiving d room [] octets) s new t u k chain none well run = absurd run.0
    ran (EndedDay ∷ acts) (Receiving d room [] octets) s new t u k chain none well run = absurd run.0
    ran (Began second begin ∷ acts) (Taking d room owed) s new t u k chain none well run = absurd run.0
    ran (Dropped loss ∷ acts) (Taking d room owed) s new t u k chain none well run = absurd run.0
    ran (Logged event done ∷ acts) (Taking d room owed) s new t u k chain none well run = absurd run.0
    ran (Synced done ∷ acts) (Taking d room owed) s new t u k chain none well run = absurd run.0
    ran (Wrote octets done ∷ acts) (Taking d room owed) s new t u k chain none well run = absurd run.0
    ran (Read most answer ∷ acts) (Taking d room owed) s new t u k chain none well run = absurd run.0
    ran (EndedDay ∷ acts) (Taking d room owed) s new t u k chain none well run = absurd run.0
    ran (Began second begin ∷ acts) (Owing d room true texts) s new t u k chain none well run = absurd run.0
    ran (Dropped loss ∷ acts) (Owing d room true texts) s new t u k chain none well run = absurd run.0
    ran (Logged event done ∷ acts) (Owing d room true texts) s new t u k chain none well run = absurd run.0
    ran (Wrote octets done ∷ acts) (Owing d room true texts) s new t u k chain none well run = absurd run.0
    ran (Read most answer ∷ acts) (Owing d room true texts) s new t u k chain none well run = absurd run.0
    ran (Took message ∷ acts) (Owing d room true texts) s new t u k chain none well run = absurd run.0
    ran (EndedDay ∷ acts) (Owing d room true texts) s new t u k chain none well run = absurd run.0
    ran (Began second begin ∷ acts) (Owing d room false (text ∷ texts)) s new t u k chain none well run = absurd run.0
    ran (Dropped loss ∷ acts) (Owing d room false (text ∷ texts)) s new t u k chain none well run = absurd run.0
    ran (Logged event done ∷ acts) (Owing d room false (text ∷ texts)) s new t u k chain none well run = absurd run.0
    ran (Synced done ∷ acts) (Owing d room false (text ∷ texts)) s new t u k chain none well run = absurd run.0
    ran (Read most answer ∷ acts) (Owing d room false (text ∷ texts)) s new t u k chain none well run = absurd run.0
    ran (Took message ∷ acts) (Owing d room false (text ∷ texts)) s new t u k chain none well run = absurd run.0
    ran (EndedDay ∷ acts) (Owing d room false (text ∷ texts)) s new t u k chain none well run = absurd run.0
    ran (Began second begin ∷ acts) (Owing d room false []) s new t u k chain none well run = absurd run.0
    ran (Dropped loss ∷ acts) (Owing d room false []) s new t u k chain none well run = absurd run.0
    ran (Logged event done ∷ acts) (Owing d room false []) s new t u k chain none well run = absurd run.0
    ran (Synced done ∷ acts) (Owing d room false []) s new t u k chain none well run = absurd run.0
    ran (Wrote octets done ∷ acts) (Owing d room false []) s new t u k chain none well run = absurd run.0
    ran (Read most answer ∷ acts) (Owing d room false []) s new t u k chain none well run = absurd run.0
    ran (Took message ∷ acts) (Owing d room false []) s new t u k chain none well run = absurd run.0
    ran (EndedDay ∷ acts) (Owing d room false []) s new t u k chain none well run = absurd run.0
    ran (Began second begin ∷ acts) (Hearing d room) s new t u k chain none well run = absurd run.0
    ran (Dropped loss ∷ acts) (Hearing d room) s new t u k chain none well run = absurd run.0
    ran (Logged event done ∷ acts) (Hearing d room) s new t u k chain none well run = absurd run.0
    ran (Synced done ∷ acts) (Hearing d room) s new t u k chain none well run = absurd run.0
    ran (Wrote octets done ∷ acts) (Hearing d room) s new t u k chain none well run = absurd run.0
    ran (Took message ∷ acts) (Hearing d room) s new t u k chain none well run = absurd run.0
    ran (EndedDay ∷ acts) (Hearing d room) s new t u k chain none well run = absurd run.0
    ran (Began second begin ∷ acts) (Ending d) s new t u k chain none well run = absurd run.0
    ran (Dropped loss ∷ acts) (Ending d) s new t u k chain none well run = absurd run.0
    ran (Logged event done ∷ acts) (Ending d) s new t u k chain none well run = absurd run.0
    ran (Synced done ∷ acts) (Ending d) s new t u k chain none well run = absurd run.0
    ran (Wrote octets done ∷ acts) (Ending d) s new t u k chain none well run = absurd run.0
    ran (Read most answer ∷ acts) (Ending d) s new t u k chain none well run = absurd run.0
    ran (Took message ∷ acts) (Ending d) s new t u k chain none well run = absurd run.0
    ran acts (Logging d room (WithoutLink rules)) s new t u k chain none well run = absurd well
    ran acts (Logging d room (Amended kind line)) s new t u k chain none well run = absurd well
    ran acts (Logging d room (HeardByRulesTwo octets)) s new t u k chain none well run = absurd well
    ran acts (Receiving d room (text ∷ owed) octets) s new t u k chain none well run = absurd well
    ran acts (Losing d loss) s new t u k chain none well run = absurd well
    ran acts (Over d) s new t u k chain none well run = absurd well
    ran acts (Closing d) s new t u k chain none well run = absurd well
    ran acts (Done d) s new t u k chain none well run = absurd well
