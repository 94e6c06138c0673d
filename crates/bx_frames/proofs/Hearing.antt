-- A turn, one frame after another.
use Rattle.std.proofs.Common.{◌≡◌, ◌≢◌, ℕ, ◌-◌, ◌<◌, List, [], ◌∷◌, ◌++◌, length, take, refl, sym, ap, ◌∙◌, subst, append-nil, Option, Some, Result, Ok, Err, arith, true, false, Bool, ◌⊎◌, inl, inr}
use Rattle.std.specs.Io.KnownBytes.{Appends}
use Rattle.std.proofs.KnownBytes.{Appends-nil}
use Rattle.arrayvec.specs.ArrayVec.{ArrayVec}
use Rattle.bx_devices.specs.declared.watched.Watched.{Watched}
use Rattle.bx_devices.specs.Watching.{device_of, is_faulted}
use Rattle.bx_devices.specs.declared.octets.WriteFailed.{WriteFailed}
use Rattle.bx_events.specs.Events.{Event, Receive}
use Rattle.bx_frames.specs.Courses.{told, ticks_of}
use Rattle.bx_frames.specs.Frames.{Found, frame_in}
use Rattle.bx_frames.specs.Talks.{Talk, stop, with_events, turn_in}
use Rattle.bx_frames.specs.Reading.{IsFound, IsCut, Reads}
use Rattle.bx_frames.specs.Writing.{Sends}
use Rattle.bx_frames.specs.Heard.{IsHeard, Tells, TalksThrough, Went, no_tick}
use Rattle.bx_frames.specs.declared.fault.LinkFault.{LinkFault}
use Rattle.bx_frames.specs.declared.fault.LinkFault.TheVariants as link
use Rattle.bx_frames.specs.declared.fault.LinkFault.TheVariants.{ReadFailed, WrongMoment, EndedInFrame}
use Rattle.bx_frames.specs.declared.frame.Receiver.{Receiver}
use Rattle.bx_frames.specs.declared.frame.Frame.{Frame}
use Rattle.bx_frames.specs.declared.frame.Frame.TheVariants as frames
use Rattle.bx_frames.proofs.WritingFrames.{done, stopped}
use Rattle.bx_frames.proofs.ReadAnswers.{gave, faulty}
use Rattle.bx_frames.proofs.Composing.{IsBeyond, SoFar, then_goes}
use Rattle.bx_frames.proofs.Events.{ticks_more}
use Rattle.bx_frames.proofs.Locality.{frame_local}
use Rattle.bx_frames.proofs.ReadingSteps.{was_found, not_faulted, same_fault}
use Rattle.bx_frames.proofs.Turns.{message_of, end_of_turn_of, end_of_day, turn_message, turn_right, turn_wrong, turn_day, turn_fault, turn_nothing}

-- ---- one text is written, or a write of it fails

module _ {D W : Type 0} (next : D → Event → D) (text : D → Event → List ℕ) (contents : W → Option (List ℕ)) (w w1 : Watched W) (d : D) (e : Event) where
  abbrev One : List ℕ
  One = told next text (e ∷ []) d

  pub one_written : Sends contents w w1 done (text d e) → Appends (contents (device_of w)) (contents (device_of w1)) One
  one_written p = subst (Appends (contents (device_of w)) (contents (device_of w1))) (sym (append-nil (text d e))) p.written

  pub one_failed : (f : WriteFailed) → Sends contents w w1 (stopped f) (text d e) → Tells next text contents w w1 d (e ∷ []) (faulty link.WriteFailed)
  one_failed f p = record {
    whole = inl refl;
    part = λ _. record {
      before = [];
      last = e;
      all = refl;
      count = p.part.0;
      least = omega arith;
      most = omega (arith, p.part.1, ap (λ (l : List ℕ). length l) (append-nil (text d e)));
      written = subst (Appends (contents (device_of w)) (contents (device_of w1))) (ap (take p.part.0) (sym (append-nil (text d e)))) p.part.2;
    };
    faulted = λ _. search (p.faulted);
    unfaulted = inr refl;
  }

  pub one_told : (b : Bool) → Sends contents w w1 done (text d e) → Tells next text contents w w1 d (e ∷ []) (gave b)
  one_told b p = record { whole = inr (one_written p); part = λ f. cc; faulted = λ f. cc; unfaulted = inl p.unfaulted }

-- nothing is written
pub none_told : {D W : Type 0} (next : D → Event → D) (text : D → Event → List ℕ) (contents : W → Option (List ℕ)) (w : Watched W) (d : D) (result : Result Bool LinkFault)
    → (result ≡ Err link.WriteFailed → ⊥) → Tells next text contents w w d [] result
none_told next text contents w d result other = record { whole = inr (Appends-nil (contents (device_of w))); part = λ e. absurd (other e); faulted = λ e. absurd (other e); unfaulted = inl refl }

-- ---- frames of a turn

module _ {D R W : Type 0} (next : D → Event → D) (text : D → Event → List ℕ) (receiver : Receiver) (moment room : ℕ) (remaining : R → Option (List ℕ)) (contents : W → Option (List ℕ)) (r r1 : Watched R) (w : Watched W) (d : D) where
  abbrev FindsTurn : List ℕ → Talk
  FindsTurn = turn_in receiver moment room

  -- a message was read
  module _ (octets : ArrayVec ℕ) (some : 0 < room) (reads : Reads remaining r r1 (message_of octets) (frame_in receiver room)) where
    abbrev One_message : List Event
    One_message = Receive octets.items ∷ []

    after_message : (known : List ℕ) → remaining (device_of r) ≡ Some known → IsBeyond FindsTurn (turn_in receiver moment (room - 1)) known One_message (remaining (device_of r1))
    after_message known e =
        let f = was_found (frame_in receiver room) known (frames.Message octets) (remaining (device_of r1)) (reads.found known e) in
        let t = frame_local receiver room known (frames.Message octets) f.answer in
        record {
          read = t.read;
          is_read = record { rest = (frame_in receiver room known).rest; splits = t.splits; is_left = f.rest };
          splits = λ more.
              turn_message receiver moment (t.read ++ more) room octets some (sym (ap (λ (x : Found Frame). x.answer) (t.onward more)))
              ∙ ap (λ (x : Found Frame). with_events One_message (turn_in receiver moment (room - 1) x.rest)) (t.onward more);
        }

    -- and its reply written
    pub message_heard : (w1 : Watched W) (d1 : D) → d1 ≡ next d (Receive octets.items) → Sends contents w w1 done (text d (Receive octets.items))
        → SoFar next text FindsTurn (turn_in receiver moment (room - 1)) remaining contents r r1 w w1 d d1 One_message
    message_heard w1 d1 step writes = record {
      day = step;
      talk = after_message;
      written = one_written next text contents w w1 d (Receive octets.items) writes;
      counted = reads.counted;
      reader = not_faulted (frames.Message octets) (is_faulted r1 ≡ is_faulted r) reads.unfaulted;
      writer = writes.unfaulted;
    }

    -- or its reply not written whole
    pub reply_failed : (w1 : Watched W) (d1 : D) (f : WriteFailed) → d1 ≡ next d (Receive octets.items) → Sends contents w w1 (stopped f) (text d (Receive octets.items))
        → TalksThrough receiver next text FindsTurn remaining contents r r1 w w1 d d1 One_message (faulty link.WriteFailed)
    reply_failed w1 d1 f step writes = record {
      day = step;
      talk = λ known e.
          let b = after_message known e in
          let same : FindsTurn b.read ≡ with_events One_message (stop (Err EndedInFrame) [] []) =
          ap FindsTurn (sym (append-nil b.read)) ∙ b.splits [] ∙ ap (with_events One_message) (turn_nothing receiver moment (room - 1)) in
          inr (inr (
            refl,
            record {
              read = b.read;
              is_read = b.is_read;
              all = sym (ap (λ (t : Talk). t.events) same);
              following = ap (λ (t : Talk). t.following) same;
              rest = ap (λ (t : Talk). t.rest) same;
              cut = inl (ap (λ (t : Talk). t.ending) same);
            },
          ));
      written = one_failed next text contents w w1 d (Receive octets.items) f writes;
      faulted = λ e. cc;
      counted = reads.counted;
      unfaulted = inl (not_faulted (frames.Message octets) (is_faulted r1 ≡ is_faulted r) reads.unfaulted);
    }

module _ {D R W : Type 0} {next : D → Event → D} {text : D → Event → List ℕ} {receiver : Receiver} (moment room : ℕ) {remaining : R → Option (List ℕ)} {contents : W → Option (List ℕ)} {r r1 : Watched R} {w : Watched W} {d : D} where
  -- another frame was read, and the turn is over
  stopped_by : (frame : Frame) → Reads remaining r r1 (gave frame) (frame_in receiver room) → (result : Result Bool LinkFault) (following : List ℕ → List ℕ)
      → ((known : List ℕ) → gave frame ≡ (frame_in receiver room known).answer → turn_in receiver moment room known ≡ stop result (frame_in receiver room known).rest (following known))
      → (result ≡ Err ReadFailed → ⊥) → (result ≡ Err link.WriteFailed → ⊥) → TalksThrough receiver next text (turn_in receiver moment room) remaining contents r r1 w w d d [] result
  stopped_by frame reads result following so no_read no_write = record {
    day = refl;
    talk = λ known e.
        let f = was_found (frame_in receiver room) known frame (remaining (device_of r1)) (reads.found known e) in
        let same = so known f.answer in
        inl (record { all = sym (ap (λ (t : Talk). t.events) same); ending = sym (ap (λ (t : Talk). t.ending) same); rest = f.rest ∙ sym (ap (λ (t : Talk). Some t.rest) same) });
    written = none_told next text contents w d result no_write;
    faulted = λ e. absurd (no_read e);
    counted = reads.counted;
    unfaulted = inl (not_faulted frame (is_faulted r1 ≡ is_faulted r) reads.unfaulted);
  }

  pub ended_right : {said : ℕ} → said ≡ moment → Reads remaining r r1 (end_of_turn_of said) (frame_in receiver room) → TalksThrough receiver next text (turn_in receiver moment room) remaining contents r r1 w w d d [] (gave true)
  ended_right {said} h reads = stopped_by (frames.EndOfTurn said) reads (Ok true) (λ known. (frame_in receiver room known).rest) (λ known e. turn_right receiver moment known room said h e) (λ e. cc) (λ e. cc)

  pub ended_wrong : {said : ℕ} → said ≢ moment → Reads remaining r r1 (end_of_turn_of said) (frame_in receiver room) → TalksThrough receiver next text (turn_in receiver moment room) remaining contents r r1 w w d d [] (faulty WrongMoment)
  ended_wrong {said} h reads = stopped_by (frames.EndOfTurn said) reads (Err WrongMoment) (λ known. known) (λ known e. turn_wrong receiver moment known room said h e) (λ e. cc) (λ e. cc)

  pub day_ended : Reads remaining r r1 end_of_day (frame_in receiver room) → TalksThrough receiver next text (turn_in receiver moment room) remaining contents r r1 w w d d [] (gave false)
  day_ended reads = stopped_by frames.EndOfDay reads (Ok false) (λ known. (frame_in receiver room known).rest) (λ known e. turn_day receiver moment known room e) (λ e. cc) (λ e. cc)

  -- a fault was found, or a read failed
  pub frame_fault : {fault : LinkFault} → Reads remaining r r1 (faulty {A = Frame} fault) (frame_in receiver room) → TalksThrough receiver next text (turn_in receiver moment room) remaining contents r r1 w w d d [] (faulty fault)
  frame_fault {fault} reads = record {
    day = refl;
    talk = λ known e. each known (reads.found known e);
    written = none_told next text contents w d (faulty fault) (λ e. reads.reads (same_fault fault link.WriteFailed e));
    faulted = λ e. reads.failed (same_fault fault ReadFailed e);
    counted = reads.counted;
    unfaulted = either reads.unfaulted;
  } where
    each : (known : List ℕ) → IsFound (frame_in receiver room known) (faulty fault) (remaining (device_of r1)) ⊎ ((faulty {A = Frame} fault ≡ Err ReadFailed) × IsCut (frame_in receiver room) known (remaining (device_of r1)))
        → IsHeard receiver (turn_in receiver moment room) known [] (faulty fault) (remaining (device_of r1))
    each known (inl f) =
        let same = turn_fault receiver moment known room fault f.answer in
        inl (record { all = sym (ap (λ (t : Talk). t.events) same); ending = sym (ap (λ (t : Talk). t.ending) same); rest = f.rest ∙ sym (ap (λ (t : Talk). Some t.rest) same) })
    each known (inr (e, c)) =
        let same = turn_fault receiver moment c.read room EndedInFrame (sym (ap (λ (f : Found Frame). f.answer) c.cut)) in
        inr (inl (same_fault fault ReadFailed e, record { read = c.read; is_read = c.is_read; all = sym (ap (λ (t : Talk). t.events) same); cut = ap (λ (t : Talk). t.ending) same }))

    either : (is_faulted r1 ≡ is_faulted r) ⊎ (faulty {A = Frame} fault ≡ Err ReadFailed) → (is_faulted r1 ≡ is_faulted r) ⊎ (faulty {A = Bool} fault ≡ Err ReadFailed)
    either (inl p) = inl p
    either (inr e) = inr (same_fault fault ReadFailed e)

-- ---- the whole turn

pub none_ticked : (xs ys : List Event) → ticks_of xs ≡ 0 → ticks_of ys ≡ 0 → ticks_of (xs ++ ys) ≡ 0
none_ticked xs ys none still = omega (arith, ticks_more xs ys, none, still)

module _ {D R W : Type 0} {next : D → Event → D} {text : D → Event → List ℕ} (receiver : Receiver) (moment room : ℕ) {remaining : R → Option (List ℕ)} {contents : W → Option (List ℕ)} {r r1 r2 : Watched R} {w w1 w2 : Watched W} {d d1 d2 : D} where
  abbrev pub turn_went : {xs ys : List Event} {result : Result Bool LinkFault} → SoFar next text (turn_in receiver moment 64) (turn_in receiver moment room) remaining contents r r1 w w1 d d1 xs → ticks_of xs ≡ 0
      → TalksThrough receiver next text (turn_in receiver moment room) remaining contents r1 r2 w1 w2 d1 d2 ys result → ticks_of ys ≡ 0 → Went receiver next text (turn_in receiver moment 64) no_tick remaining contents r r2 w w2 d d2 result
  turn_went {xs} {ys} {result} so_far none p still =
      record { events = xs ++ ys; goes = then_goes next text (turn_in receiver moment 64) (turn_in receiver moment room) remaining contents r r1 r2 w w1 w2 d d1 d2 xs ys so_far receiver result p; ticks = none_ticked xs ys none still }
