-- Turns of the far end, one after another.
use Rattle.std.proofs.Common.{◌≡◌, ℕ, ◌+◌, ◌≤◌, min, zero, suc, List, [], ◌∷◌, ◌++◌, refl, sym, ap, ◌∙◌, subst, arith, Option, Result, Ok, Err, Bool, true, false, ◌⊎◌, inl, inr}
use Rattle.bx_devices.specs.declared.octets.WriteFailed.{WriteFailed as Failed}
use Rattle.bx_devices.specs.declared.watched.Watched.{Watched}
use Rattle.bx_events.specs.Events.{Event, Tick}
use Rattle.bx_far.specs.FarDay.{FarDay}
use Rattle.bx_frames.specs.Courses.{after, ticks_of}
use Rattle.bx_far.specs.Course.{far_next, far_text}
use Rattle.bx_frames.specs.Writing.{Sends}
use Rattle.bx_frames.specs.Talks.{Talk, stop}
use Rattle.bx_link.specs.Talking.{far_hears, far_turn, ticked_talk, closed_before, far_talk_in, follow_talk, follow_by}
use Rattle.bx_frames.specs.Heard.{TalksThrough, Went, no_tick}
use Rattle.bx_link.specs.Hearing.{TakesTurn}
use Rattle.bx_link.specs.Days.{FarTalks}
use Rattle.bx_frames.specs.declared.fault.LinkFault.{LinkFault}
use Rattle.bx_frames.specs.declared.fault.LinkFault.TheVariants.{WriteFailed, Closed}
use Rattle.bx_frames.specs.declared.frame.Receiver.TheVariants.{FarEnd}
use Rattle.bx_frames.proofs.ReadAnswers.{gave, faulty}
use Rattle.bx_frames.proofs.Composing.{SoFar, nothing_yet, then_goes, then_so_far, all_goes}
use Rattle.bx_frames.proofs.Events.{ticks_more, no_last}
use Rattle.bx_link.proofs.Following.{IsQuiet, follow_on, follow_fault, follow_day}
use Rattle.bx_frames.proofs.Hearing.{one_told, one_failed}
use Rattle.bx_frames.proofs.Turns.{IsEnded, IsLocalTalk, turn_nothing, turn_local}
use Rattle.bx_frames.proofs.WritingFrames.{done, stopped}

-- the ending is what it was said to be
pub ended_so : (talk : Talk) (b : Bool) → talk.ending ≡ Ok b → talk ≡ record { events = talk.events; ending = Ok b; rest = talk.rest; following = talk.following }
ended_so talk b e = ap (λ (x : Result Bool LinkFault). record { events = talk.events; ending = x; rest = talk.rest; following = talk.following }) e

-- ---- one turn

module _ {R W : Type 0} (remaining : R → Option (List ℕ)) (contents : W → Option (List ℕ)) (r r1 : Watched R) (w w1 : Watched W) (d d1 : FarDay) where
  abbrev HearsFar : Result Bool LinkFault → Type 0
  HearsFar result = Went FarEnd far_next far_text (far_hears d) no_tick remaining contents r r1 w w1 d d1 result

  abbrev Afterwards : List Event → List ℕ → Talk
  Afterwards events = ticked_talk

  -- there is no tick
  abbrev pub turn_stopped : (fault : LinkFault) → HearsFar (faulty fault) → TakesTurn remaining contents r r1 w w1 d d1 (faulty fault)
  turn_stopped fault hears = record {
    events = hears.events;
    goes = follow_fault FarEnd (far_hears d) Afterwards (far_hears d) far_next far_text remaining contents r r1 w w1 d d1 hears.events fault (λ last. absurd (no_last hears.events hears.ticks last)) hears.goes;
    ticks = inl hears.ticks;
  }

  abbrev pub day_over : HearsFar (gave false) → TakesTurn remaining contents r r1 w w1 d d1 (gave false)
  day_over hears = record {
    events = hears.events;
    goes = follow_day FarEnd (far_hears d) Afterwards (far_hears d) far_next far_text remaining contents r r1 w w1 d d1 hears.events (gave false) (λ e. cc) (λ e. cc) (λ known e. ended_so (far_hears d known) false e) hears.goes;
    ticks = hears.ticks;
  }

  -- a tick, whose messages were written, or a prefix of them
  module _ (hears : HearsFar (gave true)) (w2 : Watched W) (d2 : FarDay) (step : d2 ≡ far_next d1 Tick) where
    pub at_tick : SoFar far_next far_text (far_turn d) ticked_talk remaining contents r r1 w w1 d d1 hears.events
    at_tick = follow_on FarEnd (far_hears d) Afterwards (far_hears d) far_next far_text remaining contents r r1 w w1 d d1 hears.events (turn_local FarEnd (min (d.moment + 1) 300000) 64) hears.goes

    pub one_tick : ticks_of (hears.events ++ Tick ∷ []) ≡ 1
    one_tick = omega (arith, ticks_more hears.events (Tick ∷ []), hears.ticks)

    abbrev pub turn_ticked : Sends contents w1 w2 done (far_text d1 Tick) → TakesTurn remaining contents r r1 w w2 d d2 (gave true)
    turn_ticked writes = record {
      events = hears.events ++ Tick ∷ [];
      goes = then_goes far_next far_text (far_turn d) ticked_talk remaining contents r r1 r1 w w1 w2 d d1 d2 hears.events (Tick ∷ []) at_tick FarEnd (gave true) (record {
        day = step;
        talk = λ known e. inl (record { all = refl; ending = refl; rest = e });
        written = one_told far_next far_text contents w1 w2 d1 Tick true writes;
        faulted = λ e. cc;
        counted = omega arith;
        unfaulted = inl refl;
      });
      ticks = one_tick;
    }

    abbrev pub tick_failed : (f : Failed) → Sends contents w1 w2 (stopped f) (far_text d1 Tick) → TakesTurn remaining contents r r1 w w2 d d2 (faulty WriteFailed)
    tick_failed f writes = record {
      events = hears.events ++ Tick ∷ [];
      goes = then_goes far_next far_text (far_turn d) ticked_talk remaining contents r r1 r1 w w1 w2 d d1 d2 hears.events (Tick ∷ []) at_tick FarEnd (faulty WriteFailed) (record {
        day = step;
        talk = λ known e. inr (inr (refl, record { read = []; is_read = record { rest = known; splits = refl; is_left = e }; all = refl; following = refl; rest = refl; cut = inr (refl, refl, refl) }));
        written = one_failed far_next far_text contents w1 w2 d1 Tick f writes;
        faulted = λ e. cc;
        counted = omega arith;
        unfaulted = inl refl;
      });
      ticks = inr (one_tick, refl);
    }

-- ---- a turn that ended depends on what was read alone

module _ (d : FarDay) (text : List ℕ) (b : Bool) where
  by_ending : (a : Result Bool LinkFault) → (far_hears d text).ending ≡ a → gave b ≡ (follow_by a (far_hears d text) (λ events. ticked_talk) (far_hears d text)).ending
      → IsEnded (far_turn d) text b (follow_by a (far_hears d text) (λ events. ticked_talk) (far_hears d text))
  by_ending (Ok true) s e =
      let i = turn_local FarEnd (min (d.moment + 1) 300000) 64 text true (sym s) in
      let same : true ≡ b = cc in
      record {
        read = i.read;
        splits = i.splits;
        onward = λ more. ap (λ (t : Talk). follow_talk t (λ events. ticked_talk) (far_hears d (i.read ++ more))) (i.onward more)
            ∙ ap (λ (c : Bool). record { events = (far_hears d text).events ++ Tick ∷ []; ending = Ok c; rest = more; following = more }) same;
      }
  by_ending (Ok false) s e =
      let i = turn_local FarEnd (min (d.moment + 1) 300000) 64 text false (sym s) in
      let same : false ≡ b = cc in
      record {
        read = i.read;
        splits = i.splits;
        onward = λ more. ap (λ (t : Talk). follow_talk t (λ events. ticked_talk) t) (i.onward more) ∙ ap (λ (c : Bool). record { events = (far_hears d text).events; ending = Ok c; rest = more; following = more }) same;
      }
  by_ending (Err fault) s e = cc

pub far_turn_local : (d : FarDay) → IsLocalTalk (far_turn d)
far_turn_local d text b e = by_ending d text b (far_hears d text).ending refl e

-- ---- several turns

abbrev Next : ℕ → FarDay → List Event → List ℕ → Talk
Next turns d events = far_talk_in turns (after far_next events d)

abbrev Over : ℕ → FarDay → List ℕ → Talk
Over turns d text = closed_before turns (far_turn d text)

abbrev FollowsFar : ℕ → FarDay → List ℕ → Talk
FollowsFar turns d text = follow_talk (far_turn d text) (Next turns d) (Over turns d text)

pub no_turn : (d : FarDay) (text : List ℕ) → far_talk_in 0 d text ≡ stop (Ok true) text text
unfolding far_talk_in
no_turn d text = refl

next_turn : (turns : ℕ) (d : FarDay) → far_talk_in (suc turns) d ≡ FollowsFar turns d
unfolding far_talk_in
next_turn turns d = refl

far_quiet : (turns : ℕ) (d : FarDay) → IsQuiet (far_talk_in turns d [])
unfolding far_talk_in
far_quiet zero d = inl refl
far_quiet (suc turns) d =
    inr (ap (λ (t : Talk). follow_talk (follow_talk t (λ events. ticked_talk) t) (Next turns d) (closed_before turns (follow_talk t (λ events. ticked_talk) t))) (turn_nothing FarEnd (min (d.moment + 1) 300000) 64))

module _ {R W : Type 0} (remaining : R → Option (List ℕ)) (contents : W → Option (List ℕ)) (turns : ℕ) (r r1 : Watched R) (w w1 : Watched W) (d d1 : FarDay) where
  abbrev GoesFar : ℕ → List Event → Result Bool LinkFault → Type 0
  GoesFar n events result = TalksThrough FarEnd far_next far_text (far_talk_in n d) remaining contents r r1 w w1 d d1 events result

  pub next_went : (turn : TakesTurn remaining contents r r1 w w1 d d1 (gave true)) → SoFar far_next far_text (far_talk_in (suc turns) d) (far_talk_in turns d1) remaining contents r r1 w w1 d d1 turn.events
  next_went turn =
      let so = follow_on FarEnd (far_turn d) (Next turns d) (Over turns d) far_next far_text remaining contents r r1 w w1 d d1 turn.events (far_turn_local d) turn.goes in
      subst (λ (f : List ℕ → Talk). SoFar far_next far_text f (far_talk_in turns d1) remaining contents r r1 w w1 d d1 turn.events) (sym (next_turn turns d))
      (subst (λ (x : FarDay). SoFar far_next far_text (FollowsFar turns d) (far_talk_in turns x) remaining contents r r1 w w1 d d1 turn.events) (sym turn.goes.day) so)

  pub next_failed : (fault : LinkFault) (turn : TakesTurn remaining contents r r1 w w1 d d1 (faulty fault)) → GoesFar (suc turns) turn.events (faulty fault)
  next_failed fault turn =
      subst (λ (f : List ℕ → Talk). TalksThrough FarEnd far_next far_text f remaining contents r r1 w w1 d d1 turn.events (faulty fault)) (sym (next_turn turns d))
      (follow_fault FarEnd (far_turn d) (Next turns d) (Over turns d) far_next far_text remaining contents r r1 w w1 d d1 turn.events fault (λ last. far_quiet turns (after far_next turn.events d)) turn.goes)

module _ {R W : Type 0} (remaining : R → Option (List ℕ)) (contents : W → Option (List ℕ)) (r r1 : Watched R) (w w1 : Watched W) (d d1 : FarDay) (turn : TakesTurn remaining contents r r1 w w1 d d1 (gave false)) where
  -- the end of the day, as the last turn
  pub last_went : TalksThrough FarEnd far_next far_text (far_talk_in 1 d) remaining contents r r1 w w1 d d1 turn.events (gave false)
  last_went =
      subst (λ (f : List ℕ → Talk). TalksThrough FarEnd far_next far_text f remaining contents r r1 w w1 d d1 turn.events (gave false)) (sym (next_turn 0 d))
      (follow_day FarEnd (far_turn d) (Next 0 d) (Over 0 d) far_next far_text remaining contents r r1 w w1 d d1 turn.events (gave false) (λ e. cc) (λ e. cc) (λ known e. ended_so (far_turn d known) false e) turn.goes)

  -- or with another after it
  pub closed_went : (turns : ℕ) → TalksThrough FarEnd far_next far_text (far_talk_in (suc (suc turns)) d) remaining contents r r1 w w1 d d1 turn.events (faulty Closed)
  closed_went turns =
      subst (λ (f : List ℕ → Talk). TalksThrough FarEnd far_next far_text f remaining contents r r1 w w1 d d1 turn.events (faulty Closed)) (sym (next_turn (suc turns) d))
      (follow_day FarEnd (far_turn d) (Next (suc turns) d) (Over (suc turns) d) far_next far_text remaining contents r r1 w w1 d d1 turn.events (faulty Closed) (λ e. cc) (λ e. cc) (λ known e. refl) turn.goes)

-- ---- a session

-- so many turns of a session went well, and its day goes on
pub record FarSoFar {R W : Type 0} (remaining : R → Option (List ℕ)) (contents : W → Option (List ℕ)) (count : ℕ) (r r' : Watched R) (w w' : Watched W) (d d' : FarDay) : Type 0 where
  pub events : List Event
  pub so_far : (turns : ℕ) → SoFar far_next far_text (far_talk_in (count + turns) d) (far_talk_in turns d') remaining contents r r' w w' d d' events
  pub ticks : ticks_of events ≡ count

-- and this was kept of them
abbrev pub KeptFarSoFar : {R W : Type 0} → (R → Option (List ℕ)) → (W → Option (List ℕ)) → ℕ → Watched R → Watched R → Watched W → Watched W → FarDay → FarDay → (List Event → Type 0) → Type 0
KeptFarSoFar remaining contents count r r' w w' d d' kept = (p : FarSoFar remaining contents count r r' w w' d d') × kept p.events

abbrev pub no_turn_yet : {R W : Type 0} (remaining : R → Option (List ℕ)) (contents : W → Option (List ℕ)) (r : Watched R) (w : Watched W) (d : FarDay) → FarSoFar remaining contents 0 r r w w d d
no_turn_yet remaining contents r w d = record {
  events = [];
  so_far = λ turns.
      let same : turns ≡ 0 + turns = omega arith in
      subst (λ (n : ℕ). SoFar far_next far_text (far_talk_in n d) (far_talk_in turns d) remaining contents r r w w d d []) same (nothing_yet far_next far_text (far_talk_in turns d) remaining contents r w d);
  ticks = refl;
}

module _ {R W : Type 0} (remaining : R → Option (List ℕ)) (contents : W → Option (List ℕ)) (count : ℕ) (r r1 : Watched R) (w w1 : Watched W) (d d1 : FarDay) (p : FarSoFar remaining contents count r r1 w w1 d d1) where
  -- no more turns are to come
  abbrev pub far_stands : FarTalks remaining contents count r r1 w w1 d d1 (gave true)
  far_stands =
      let same : count + 0 ≡ count = omega arith in
      record {
        events = p.events;
        goes = subst (λ (n : ℕ). TalksThrough FarEnd far_next far_text (far_talk_in n d) remaining contents r r1 w w1 d d1 p.events (gave true)) same
            (all_goes far_next far_text (far_talk_in (count + 0) d) (far_talk_in 0 d1) remaining contents r r1 w w1 d d1 p.events (no_turn d1) FarEnd (p.so_far 0));
        ticks = p.ticks;
      }

  module _ (r2 : Watched R) (w2 : Watched W) (d2 : FarDay) where
    pub following : (n : ℕ) (events : List Event) (result : Result Bool LinkFault) → TalksThrough FarEnd far_next far_text (far_talk_in n d1) remaining contents r1 r2 w1 w2 d1 d2 events result
        → TalksThrough FarEnd far_next far_text (far_talk_in (count + n) d) remaining contents r r2 w w2 d d2 (p.events ++ events) result
    following n events result q = then_goes far_next far_text (far_talk_in (count + n) d) (far_talk_in n d1) remaining contents r r1 r2 w w1 w2 d d1 d2 p.events events (p.so_far n) FarEnd result q

    abbrev pub far_goes_on : TakesTurn remaining contents r1 r2 w1 w2 d1 d2 (gave true) → FarSoFar remaining contents (count + 1) r r2 w w2 d d2
    far_goes_on turn = record {
      events = p.events ++ turn.events;
      so_far = λ turns.
          let same : count + suc turns ≡ (count + 1) + turns = omega arith in
          subst (λ (n : ℕ). SoFar far_next far_text (far_talk_in n d) (far_talk_in turns d2) remaining contents r r2 w w2 d d2 (p.events ++ turn.events)) same
          (then_so_far far_next far_text (far_talk_in (count + suc turns) d) (far_talk_in (suc turns) d1) remaining contents r r1 r2 w w1 w2 d d1 d2 p.events turn.events (p.so_far (suc turns))
          (far_talk_in turns d2) (next_went remaining contents turns r1 r2 w1 w2 d1 d2 turn));
      ticks = omega (arith, ticks_more p.events turn.events, p.ticks, turn.ticks);
    }

    abbrev pub far_failed : (fault : LinkFault) → TakesTurn remaining contents r1 r2 w1 w2 d1 d2 (faulty fault) → FarTalks remaining contents (count + 1) r r2 w w2 d d2 (faulty fault)
    far_failed fault turn = record {
      events = p.events ++ turn.events;
      goes = following 1 turn.events (faulty fault) (next_failed remaining contents 0 r1 r2 w1 w2 d1 d2 fault turn);
      ticks = (omega arith, at_most turn.ticks);
    } where
      at_most : (ticks_of turn.events ≡ 0) ⊎ ((ticks_of turn.events ≡ 1) × (fault ≡ WriteFailed)) → ticks_of (p.events ++ turn.events) ≤ count + 1
      at_most (inl e) = omega (arith, ticks_more p.events turn.events, p.ticks, e)
      at_most (inr (e, f)) = omega (arith, ticks_more p.events turn.events, p.ticks, e)

    abbrev pub far_ended : TakesTurn remaining contents r1 r2 w1 w2 d1 d2 (gave false) → FarTalks remaining contents (count + 1) r r2 w w2 d d2 (gave false)
    far_ended turn = record {
      events = p.events ++ turn.events;
      goes = following 1 turn.events (gave false) (last_went remaining contents r1 r2 w1 w2 d1 d2 turn);
      ticks = omega (arith, ticks_more p.events turn.events, p.ticks, turn.ticks);
    }

    pub far_closed : TakesTurn remaining contents r1 r2 w1 w2 d1 d2 (gave false) → FarTalks remaining contents (count + 2) r r2 w w2 d d2 (faulty Closed)
    far_closed turn = record {
      events = p.events ++ turn.events;
      goes = following 2 turn.events (faulty Closed) (closed_went remaining contents r1 r2 w1 w2 d1 d2 turn 0);
      ticks = (omega arith, omega (arith, ticks_more p.events turn.events, p.ticks, turn.ticks));
    }
