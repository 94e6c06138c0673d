-- Both ends, one turn after another.
use Rattle.std.proofs.Common.{◌≡◌, ℕ, ◌+◌, suc, not, List, [], ◌∷◌, ◌++◌, sym, ap, ◌∙◌, subst, arith, append-nil, Option, Result, Err, Bool, true, false, ◌⊎◌, inl, inr}
use Rattle.bx_devices.specs.declared.watched.Watched.{Watched}
use Rattle.bx_day.specs.Day.{Day}
use Rattle.bx_events.specs.Events.{Event, Tick, Receive}
use Rattle.bx_far.specs.FarDay.{FarDay}
use Rattle.bx_frames.specs.Courses.{ticks_of, ticks_last}
use Rattle.bx_frames.specs.Talks.{Talk, stop, with_events}
use Rattle.bx_link.specs.Talking.{follow_talk}
use Rattle.bx_sessions.specs.Talking.{talk_in}
use Rattle.bx_link.specs.Hearing.{TakesTurn}
use Rattle.bx_sessions.specs.Hearing.{Opens, Hears}
use Rattle.bx_link.specs.Days.{FarTalks}
use Rattle.bx_sessions.specs.Days.{EndsDay, TalksToEnd}
use Rattle.bx_sessions.specs.BothEnds.{NearWaits, AreOpened, passage}
use Rattle.bx_link.specs.Sessions.{is_far_over}
use Rattle.bx_link.specs.declared.far_session.FarSession.{FarSession}
use Rattle.bx_frames.specs.declared.fault.LinkFault.{LinkFault}
use Rattle.bx_frames.specs.declared.fault.LinkFault.TheVariants.{WriteFailed, EndedInFrame, Closed}
use Rattle.bx_frames.specs.declared.frame.Receiver.TheVariants.{Exchange}
use Rattle.bx_frames.proofs.ReadAnswers.{gave, faulty}
use Rattle.bx_frames.proofs.Events.{ticks_more, last_more}
use Rattle.bx_link.proofs.Following.{over, broken}
use Rattle.bx_sessions.proofs.ExchangeTurns.{Onward, TalkedSoFar, opened_so_far, talk_over}
use Rattle.bx_link.proofs.FarTurns.{FarSoFar, far_stands, far_goes_on, far_failed, far_ended, far_closed}
use Rattle.bx_frames.proofs.Turns.{turn_nothing}

-- ---- the far end's session

-- so many turns of it went well, and it is open; or the last of them was the end of the day
pub record IsFarOver {R W : Type 0} (remaining : R → Option (List ℕ)) (contents : W → Option (List ℕ)) (count : ℕ) (r r' : Watched R) (w w' : Watched W) (d d' : FarDay) : Type 0 where
  pub ended : FarTalks remaining contents count r r' w w' d d' (gave false)
  pub closed : FarTalks remaining contents (count + 1) r r' w w' d d' (faulty Closed)

abbrev pub FarStands : {R W : Type 0} → (R → Option (List ℕ)) → (W → Option (List ℕ)) → ℕ → FarSession → Watched R → Watched R → Watched W → Watched W → FarDay → FarDay → Type 0
FarStands remaining contents count session r r' w w' d d' =
    ((is_far_over session ≡ false) × FarSoFar remaining contents count r r' w w' d d') ⊎ ((is_far_over session ≡ true) × IsFarOver remaining contents count r r' w w' d d')

module _ {R W : Type 0} {remaining : R → Option (List ℕ)} {contents : W → Option (List ℕ)} {count : ℕ} (session : FarSession) {r r1 : Watched R} {w w1 : Watched W} {d d1 : FarDay} where
  pub stands_so : FarStands remaining contents count session r r1 w w1 d d1 → (b : Bool) × FarTalks remaining contents count r r1 w w1 d d1 (gave b)
  stands_so (inl (e, p)) = (true, far_stands remaining contents count r r1 w w1 d d1 p)
  stands_so (inr (e, p)) = (false, p.ended)

  module _ {r2 : Watched R} {w2 : Watched W} {d2 : FarDay} where
    -- a turn that went well
    module _ (b : Bool) (taken : is_far_over session ≡ false → TakesTurn remaining contents r1 r2 w1 w2 d1 d2 (gave b)) (refused : is_far_over session ≡ true → gave b ≡ Err Closed) where
      pub call_over : FarStands remaining contents count session r r1 w w1 d d1 → FarTalks remaining contents (count + 1) r r2 w w2 d d2 (gave b)
      call_over (inl (e, p)) = by_answer b (taken e) where
        by_answer : (c : Bool) → TakesTurn remaining contents r1 r2 w1 w2 d1 d2 (gave c) → FarTalks remaining contents (count + 1) r r2 w w2 d d2 (gave c)
        by_answer true turn = far_stands remaining contents (count + 1) r r2 w w2 d d2 (far_goes_on remaining contents count r r1 w w1 d d1 p r2 w2 d2 turn)
        by_answer false turn = far_ended remaining contents count r r1 w w1 d d1 p r2 w2 d2 turn
      call_over (inr (e, p)) = let f = refused e in cc

      pub call_stands : (session' : FarSession) → is_far_over session' ≡ not b → FarStands remaining contents count session r r1 w w1 d d1 → FarStands remaining contents (count + 1) session' r r2 w w2 d d2
      call_stands session' now (inl (e, p)) = by_answer b (taken e) now where
        by_answer : (c : Bool) → TakesTurn remaining contents r1 r2 w1 w2 d1 d2 (gave c) → is_far_over session' ≡ not c → FarStands remaining contents (count + 1) session' r r2 w w2 d d2
        by_answer true turn now = inl (now, far_goes_on remaining contents count r r1 w w1 d d1 p r2 w2 d2 turn)
        by_answer false turn now =
            let same : count + 2 ≡ (count + 1) + 1 = omega arith in
            inr (
              now,
              record {
                ended = far_ended remaining contents count r r1 w w1 d d1 p r2 w2 d2 turn;
                closed = subst (λ (n : ℕ). FarTalks remaining contents n r r2 w w2 d d2 (faulty Closed)) same (far_closed remaining contents count r r1 w w1 d d1 p r2 w2 d2 turn);
              },
            )
      call_stands session' now (inr (e, p)) = let f = refused e in cc

    -- or had a fault
    pub call_failed : {fault : LinkFault} → (is_far_over session ≡ false → TakesTurn remaining contents r1 r2 w1 w2 d1 d2 (faulty fault)) → (is_far_over session ≡ true → faulty {A = Bool} fault ≡ Err Closed)
        → (is_far_over session ≡ true → r2 ≡ r1) → (is_far_over session ≡ true → w2 ≡ w1) → (is_far_over session ≡ true → d2 ≡ d1)
        → FarStands remaining contents count session r r1 w w1 d d1 → FarTalks remaining contents (count + 1) r r2 w w2 d d2 (faulty fault)
    call_failed {fault} taken refused reader writer day (inl (e, p)) = far_failed remaining contents count r r1 w w1 d d1 p r2 w2 d2 fault (taken e)
    call_failed taken refused reader writer day (inr (e, p)) =
        subst (λ (x : Result Bool LinkFault). FarTalks remaining contents (count + 1) r r2 w w2 d d2 x) (sym (refused e))
        (subst (λ (x : Watched R). FarTalks remaining contents (count + 1) r x w w2 d d2 (faulty Closed)) (sym (reader e))
        (subst (λ (x : Watched W). FarTalks remaining contents (count + 1) r r1 w x d d2 (faulty Closed)) (sym (writer e))
        (subst (λ (x : FarDay). FarTalks remaining contents (count + 1) r r1 w w1 d x (faulty Closed)) (sym (day e)) p.closed)))

-- ---- the exchange's side

module _ {R W : Type 0} {remaining : R → Option (List ℕ)} {contents : W → Option (List ℕ)} {all : ℕ} {r r1 : Watched R} {w w1 w2 : Watched W} {d d1 : Day} where
  -- all turns are over, and the end of the day was written, or not
  abbrev pub near_ended : {ending : Result Bool LinkFault} → TalkedSoFar remaining contents all 0 r r1 w w1 d d1 → EndsDay contents w1 w2 ending → TalksToEnd remaining contents all r r1 w w2 d d1 ending
  near_ended p ends = record { last = w1; talks = talk_over p; ends = ends }

  -- a turn is open, and nothing was heard of it
  abbrev pub waits_now : {turns : ℕ} {d2 : Day} (opened : ℕ) (p : TalkedSoFar remaining contents all (suc turns) r r1 w w1 d d1) → Opens contents w1 w2 d1 d2 over → (opened + 1) + turns ≡ all
      → NearWaits all (opened + 1) (passage remaining contents (record { reader = r; writer = w }) (record { reader = r1; writer = w2 }) d d2)
  waits_now {turns} {d2} opened p opens count =
      let events = p.events ++ Tick ∷ [] in
      let so_far = opened_so_far p opens in
      record {
        events = events;
        day = so_far.day;
        talk = λ known e.
            let b = so_far.talk known e in
            let same : talk_in all d b.read ≡ with_events events (stop (Err EndedInFrame) [] []) =
            ap (talk_in all d) (sym (append-nil b.read)) ∙ b.splits [] ∙ ap (λ (t : Talk). with_events events (follow_talk t (Onward turns d2) t)) (turn_nothing Exchange d2.moment 64) in
            record {
              read = b.read;
              is_read = b.is_read;
              all = sym (append-nil events) ∙ sym (ap (λ (t : Talk). t.events) same);
              following = ap (λ (t : Talk). t.following) same;
              rest = ap (λ (t : Talk). t.rest) same;
              cut = inl (ap (λ (t : Talk). t.ending) same);
            };
        written = so_far.written;
        reader = so_far.reader;
        writer = so_far.writer;
        ticks = omega (arith, p.ticks, ticks_more p.events (Tick ∷ []), count);
        last = last_more false p.events (Tick ∷ []);
      }

-- ---- which turns were opened whole

pub not_opened : (xs : List Event) {n : ℕ} {fault : LinkFault} → fault ≡ WriteFailed → ticks_of xs ≡ n → AreOpened (faulty fault) (xs ++ Tick ∷ []) n
not_opened xs e count = inl ((ap (λ (f : LinkFault). faulty f) e, last_more false xs (Tick ∷ [])), omega (arith, ticks_more xs (Tick ∷ []), count))

last_of_none : (said : Bool) (before : List Event) (last : Event) → ticks_of (before ++ last ∷ []) ≡ 0 → ticks_last said (before ++ last ∷ []) ≡ false
last_of_none said before Tick e = absurd (omega (arith, e, ticks_more before (Tick ∷ [])))
last_of_none said before (Receive octets) e = last_more said before (Receive octets ∷ [])

module _ {R W : Type 0} {remaining : R → Option (List ℕ)} {contents : W → Option (List ℕ)} {r r1 : Watched R} {w w1 : Watched W} {d d1 : Day} {fault : LinkFault} (hears : Hears remaining contents r r1 w w1 d d1 (broken fault)) where
  -- the last event of a turn whose write failed is a message
  no_tick_last : (xs : List Event) → ¬ ((faulty {A = Bool} fault ≡ Err WriteFailed) × (ticks_last false (xs ++ hears.events) ≡ true))
  no_tick_last xs (e, last) =
      let part = hears.goes.written.part e in
      let none = last_of_none (ticks_last false xs) part.before part.last (ap ticks_of (sym part.all) ∙ hears.ticks) in
      let same : ticks_last false (xs ++ hears.events) ≡ false = last_more false xs hears.events ∙ ap (ticks_last (ticks_last false xs)) part.all ∙ none in
      cc

  pub was_opened : (xs : List Event) {n : ℕ} → ticks_of xs ≡ n → AreOpened (faulty fault) (xs ++ hears.events) n
  was_opened xs count = inr (no_tick_last xs, omega (arith, ticks_more xs hears.events, count, hears.ticks))
