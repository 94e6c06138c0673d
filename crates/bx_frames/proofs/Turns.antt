-- Turns, by their frames.
use Rattle.std.proofs.Common.{◌≡◌, ◌≢◌, ℕ, ◌-◌, ◌<◌, zero, suc, List, [], ◌∷◌, ◌++◌, refl, sym, ap, ◌∙◌, append_assoc, Result, Ok, Err, arith, Bool, true, false, if◌then◌else◌, ◌==◌}
use Rattle.std.proofs.lemmas.Bool.Decides.{nat_tests}
use Rattle.arrayvec.specs.ArrayVec.{ArrayVec}
use Rattle.bx_events.specs.Events.{Receive}
use Rattle.bx_frames.specs.Frames.{frame_in}
use Rattle.bx_frames.specs.Talks.{Talk, stop, with_events, turn_by, turn_from, turn_in}
use Rattle.bx_frames.specs.declared.fault.LinkFault.{LinkFault}
use Rattle.bx_frames.specs.declared.fault.LinkFault.TheVariants.{MoreThan64Messages, WrongMoment, EndedInFrame}
use Rattle.bx_frames.specs.declared.frame.Receiver.{Receiver}
use Rattle.bx_frames.specs.declared.frame.Frame.{Frame}
use Rattle.bx_frames.specs.declared.frame.Frame.TheVariants as frames
use Rattle.bx_frames.proofs.ReadAnswers.{gave, faulty}
use Rattle.bx_frames.proofs.Locality.{IsTaken, frame_local}

abbrev pub message_of : ArrayVec ℕ → Result Frame LinkFault
message_of octets = Ok (frames.Message octets)

abbrev pub end_of_turn_of : ℕ → Result Frame LinkFault
end_of_turn_of said = Ok (frames.EndOfTurn said)

abbrev pub end_of_day : Result Frame LinkFault
end_of_day = Ok frames.EndOfDay

-- where no message may come any more
abbrev too_many : List ℕ → Talk
too_many rest = stop (Err MoreThan64Messages) rest rest

abbrev ends_by : Bool → List ℕ → List ℕ → Talk
ends_by b rest text = if b then stop (Ok true) rest rest else stop (Err WrongMoment) rest text

module _ (receiver : Receiver) (moment : ℕ) (text : List ℕ) where
  -- a message comes next
  pub turn_message : (room : ℕ) (octets : ArrayVec ℕ) → 0 < room → message_of octets ≡ (frame_in receiver room text).answer
      → turn_in receiver moment room text ≡ with_events (Receive octets.items ∷ []) (turn_in receiver moment (room - 1) (frame_in receiver room text).rest)
  unfolding turn_in
  turn_message zero octets some e = absurd (omega (arith, some))
  turn_message (suc room) octets some e = let one : suc room - 1 ≡ room = omega arith in rw one (ap (λ (r : Result Frame LinkFault). turn_by moment (turn_in receiver moment room) text r (frame_in receiver (suc room) text).rest) (sym e))

  -- any other frame, or a fault
  by_other : (room : ℕ) (answer : Result Frame LinkFault) → ((more other : List ℕ → Talk) → turn_by moment more text answer (frame_in receiver room text).rest ≡ turn_by moment other text answer (frame_in receiver room text).rest)
      → answer ≡ (frame_in receiver room text).answer → turn_in receiver moment room text ≡ turn_by moment too_many text answer (frame_in receiver room text).rest
  unfolding turn_in
  by_other zero answer same e = ap (λ (r : Result Frame LinkFault). turn_by moment too_many text r (frame_in receiver 0 text).rest) (sym e)
  by_other (suc room) answer same e = ap (λ (r : Result Frame LinkFault). turn_by moment (turn_in receiver moment room) text r (frame_in receiver (suc room) text).rest) (sym e) ∙ same (turn_in receiver moment room) too_many

  turn_end : (room said : ℕ) → end_of_turn_of said ≡ (frame_in receiver room text).answer → turn_in receiver moment room text ≡ ends_by (said == moment) (frame_in receiver room text).rest text
  turn_end room said e = by_other room (end_of_turn_of said) (λ more other. refl) e

  -- the turn ends with the right moment, or with another
  pub turn_right : (room said : ℕ) → said ≡ moment → end_of_turn_of said ≡ (frame_in receiver room text).answer → turn_in receiver moment room text ≡ stop (Ok true) (frame_in receiver room text).rest (frame_in receiver room text).rest
  turn_right room said h e = let t : (said == moment) ≡ true = grind (arith, nat_tests) in turn_end room said e ∙ ap (λ (b : Bool). ends_by b (frame_in receiver room text).rest text) t

  pub turn_wrong : (room said : ℕ) → said ≢ moment → end_of_turn_of said ≡ (frame_in receiver room text).answer → turn_in receiver moment room text ≡ stop (Err WrongMoment) (frame_in receiver room text).rest text
  turn_wrong room said h e = let t : (said == moment) ≡ false = grind (arith, nat_tests) in turn_end room said e ∙ ap (λ (b : Bool). ends_by b (frame_in receiver room text).rest text) t

  -- the day ends
  pub turn_day : (room : ℕ) → end_of_day ≡ (frame_in receiver room text).answer → turn_in receiver moment room text ≡ stop (Ok false) (frame_in receiver room text).rest (frame_in receiver room text).rest
  turn_day room e = by_other room end_of_day (λ more other. refl) e

  -- a fault comes next
  pub turn_fault : (room : ℕ) (fault : LinkFault) → faulty fault ≡ (frame_in receiver room text).answer → turn_in receiver moment room text ≡ stop (Err fault) (frame_in receiver room text).rest text
  turn_fault room fault e = by_other room (faulty fault) (λ more other. refl) e

-- nothing comes
pub turn_nothing : (receiver : Receiver) (moment room : ℕ) → turn_in receiver moment room [] ≡ stop (Err EndedInFrame) [] []
turn_nothing receiver moment room = turn_fault receiver moment [] room EndedInFrame refl

-- ---- a turn that ended depends on what was read alone

pub record IsEnded (finds : List ℕ → Talk) (text : List ℕ) (b : Bool) (talk : Talk) : Type 0 where
  pub read : List ℕ
  pub splits : text ≡ read ++ talk.rest
  pub onward : (more : List ℕ) → finds (read ++ more) ≡ record { events = talk.events; ending = Ok b; rest = more; following = more }

abbrev pub IsLocalTalk : (List ℕ → Talk) → Type 0
IsLocalTalk finds = (text : List ℕ) (b : Bool) → gave b ≡ (finds text).ending → IsEnded finds text b (finds text)

module _ (receiver : Receiver) (moment room : ℕ) (onward : List ℕ → Talk) (is_local : IsLocalTalk onward) where
  abbrev Finds : List ℕ → Talk
  Finds text = turn_from moment onward text (frame_in receiver room text)

  module _ (text : List ℕ) (b : Bool) where
    abbrev Rest : List ℕ
    Rest = (frame_in receiver room text).rest

    by_end : (said : ℕ) (t : IsTaken (frame_in receiver room) text (frames.EndOfTurn said) Rest) (c : Bool) → (said == moment) ≡ c → gave b ≡ (ends_by c Rest text).ending → IsEnded Finds text b (ends_by c Rest text)
    by_end said t true s e =
        let same : true ≡ b = cc in
        record {
          read = t.read;
          splits = t.splits;
          onward = λ more. ap (turn_from moment onward (t.read ++ more)) (t.onward more) ∙ ap (λ (c : Bool). ends_by c more (t.read ++ more)) s ∙ ap (λ (c : Bool). stop (Ok c) more more) same;
        }
    by_end said t false s e = cc

    by_answer : (a : Result Frame LinkFault) → (frame_in receiver room text).answer ≡ a → gave b ≡ (turn_by moment onward text a Rest).ending → IsEnded Finds text b (turn_by moment onward text a Rest)
    by_answer (Ok (frames.Message octets)) s e =
        let t = frame_local receiver room text (frames.Message octets) (sym s) in
        let i = is_local Rest b e in
        let one = Receive octets.items ∷ [] in
        record {
          read = t.read ++ i.read;
          splits = t.splits ∙ ap (λ (l : List ℕ). t.read ++ l) i.splits ∙ sym (append_assoc t.read i.read (onward Rest).rest);
          onward = λ more. ap Finds (append_assoc t.read i.read more) ∙ ap (turn_from moment onward (t.read ++ (i.read ++ more))) (t.onward (i.read ++ more)) ∙ ap (with_events one) (i.onward more);
        }
    by_answer (Ok (frames.EndOfTurn said)) s e = by_end said (frame_local receiver room text (frames.EndOfTurn said) (sym s)) (said == moment) refl e
    by_answer (Ok frames.EndOfDay) s e =
        let t = frame_local receiver room text frames.EndOfDay (sym s) in
        let same : false ≡ b = cc in
        record { read = t.read; splits = t.splits; onward = λ more. ap (turn_from moment onward (t.read ++ more)) (t.onward more) ∙ ap (λ (c : Bool). stop (Ok c) more more) same }
    by_answer (Err fault) s e = cc

  from_frame : IsLocalTalk Finds
  from_frame text b e = by_answer text b (frame_in receiver room text).answer refl e

pub turn_local : (receiver : Receiver) (moment room : ℕ) → IsLocalTalk (turn_in receiver moment room)
unfolding turn_in
turn_local receiver moment zero text b e = from_frame receiver moment 0 too_many (λ t c f. cc) text b e
turn_local receiver moment (suc room) text b e = from_frame receiver moment (suc room) (turn_in receiver moment room) (turn_local receiver moment room) text b e
