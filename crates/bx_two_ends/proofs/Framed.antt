-- What was written as frames is found again, frame by frame.
use Rattle.std.proofs.Common.{◌≡◌, ◌≤◌, ◌<◌, ℕ, zero, suc, ◌-◌, ◌^◌, ◌==◌, nat_le, nat_lt, not, Bool, true, false, List, [], ◌∷◌, ◌++◌, map, length, drop, Ok, Err, refl, sym, ap, ◌∙◌, append_assoc, length-append, arith}
use Rattle.std.specs.List.{AllByRecursion}
use Rattle.std.specs.Int.{w16, w32, to_be_bytes, from_be_bytes}
use Rattle.std.proofs.lemmas.Bool.{ne_eqb}
use Rattle.std.proofs.lemmas.Bool.Decides.{nat_tests}
use Rattle.std.proofs.lemmas.Nat.{from_be_bytes-to_be_bytes_2, from_be_bytes-to_be_bytes_4}
use Rattle.std.proofs.Math.Seq.{take-append_seam, drop-append_seam}
use Rattle.arrayvec.specs.ArrayVec.{ArrayVec}
use Rattle.bx_events.specs.Events.{Event, Receive}
use Rattle.bx_frames.specs.Frames.{Found, found, and_then, octets_in, sized_in, frame_of, frame_in, frame_with, frames_of, message_frame, turn_frame}
use Rattle.bx_frames.specs.Talks.{Talk, stop, with_events, turn_in}
use Rattle.bx_frames.specs.declared.fault.LinkFault.TheVariants.{MoreThan64Messages}
use Rattle.bx_frames.specs.declared.frame.Receiver.{Receiver}
use Rattle.bx_frames.specs.declared.frame.FrameKind.TheVariants as kinds
use Rattle.bx_frames.specs.declared.frame.Frame.{Frame}
use Rattle.bx_frames.specs.declared.frame.Frame.TheVariants as frames
use Rattle.bx_frames.proofs.Locality.{octets_by, sized_by}
use Rattle.bx_frames.proofs.Turns.{turn_message, turn_right, turn_fault}

-- ---- one frame

module _ (xs rest : List ℕ) where
  long : nat_lt (length (xs ++ rest)) (length xs) ≡ false
  long = let total = length-append xs rest in grind (arith, nat_tests)

  octets_again : octets_in (length xs) (xs ++ rest) ≡ found (Ok (record { items = xs })) rest
  octets_again =
      ap (λ (b : Bool). octets_by b (length xs) (xs ++ rest)) long
      ∙ ap (λ (l : List ℕ). found (Ok (record { items = l })) (drop (length xs) (xs ++ rest))) (take-append_seam xs rest)
      ∙ ap (λ (l : List ℕ). found (Ok (record { items = xs })) l) (drop-append_seam xs rest)

  message_sized : (room : ℕ) → length xs ≤ 260 → sized_in kinds.Message (suc room) (length xs) (xs ++ rest) ≡ found (Ok (frames.Message (record { items = xs }))) rest
  message_sized room few =
      let fit : nat_le (length xs) 260 ≡ true = grind (arith, nat_tests) in
      let some : (suc room == 0) ≡ false = ne_eqb (suc room) 0 (λ e. absurd (omega (arith, e))) in
      ap (λ (b : Bool). sized_by (not b) (suc room == 0) kinds.Message (length xs) (xs ++ rest)) fit
      ∙ ap (λ (b : Bool). sized_by false b kinds.Message (length xs) (xs ++ rest)) some
      ∙ ap (λ (f : Found (ArrayVec ℕ)). and_then f (λ octets more. found (Ok (frame_of kinds.Message octets)) more)) octets_again

  pub message_again : (receiver : Receiver) (room : ℕ) → length xs ≤ 260 → frame_in receiver (suc room) (message_frame xs ++ rest) ≡ found (Ok (frames.Message (record { items = xs }))) rest
  message_again receiver room few =
      let n : from_be_bytes w16 (to_be_bytes w16 (length xs)) ≡ length xs = from_be_bytes-to_be_bytes_2 (length xs) (omega (arith, few)) in
      ap (λ (k : ℕ). sized_in kinds.Message (suc room) k (xs ++ rest)) n ∙ message_sized room few

  pub too_many_again : (receiver : Receiver) → length xs ≤ 260 → (frame_in receiver 0 (message_frame xs ++ rest)).answer ≡ Err MoreThan64Messages
  too_many_again receiver few =
      let n : from_be_bytes w16 (to_be_bytes w16 (length xs)) ≡ length xs = from_be_bytes-to_be_bytes_2 (length xs) (omega (arith, few)) in
      let fit : nat_le (length xs) 260 ≡ true = grind (arith, nat_tests) in
      ap (λ (k : ℕ). (sized_in kinds.Message 0 k (xs ++ rest)).answer) n ∙ ap (λ (b : Bool). (sized_by (not b) true kinds.Message (length xs) (xs ++ rest)).answer) fit

pub end_again : (receiver : Receiver) (room moment : ℕ) (rest : List ℕ) → moment < 2 ^ 32 → frame_in receiver room (turn_frame moment ++ rest) ≡ found (Ok (frames.EndOfTurn moment)) rest
end_again receiver room moment rest few =
    ap (λ (f : Found (ArrayVec ℕ)). and_then f (λ octets more. found (Ok (frame_of kinds.EndOfTurn octets)) more)) (octets_again (to_be_bytes w32 moment) rest)
    ∙ ap (λ (n : ℕ). found (Ok (frames.EndOfTurn n)) rest) (from_be_bytes-to_be_bytes_4 moment few)

-- ---- a turn

abbrev pub AreShort : List (ArrayVec ℕ) → Type 0
AreShort ms = AllByRecursion (λ (m : ArrayVec ℕ). length m.items ≤ 260) ms

abbrev pub received : List (ArrayVec ℕ) → List Event
received ms = map (λ (m : ArrayVec ℕ). Receive m.items) ms

abbrev pub whole_turn : List (ArrayVec ℕ) → List ℕ → Talk
whole_turn ms rest = record { events = received ms; ending = Ok true; rest = rest; following = rest }

module _ (receiver : Receiver) (moment : ℕ) (few : moment < 2 ^ 32) (rest : List ℕ) where
  abbrev pub TurnText : List (ArrayVec ℕ) → List ℕ
  TurnText ms = frames_of ms ++ (turn_frame moment ++ rest)

  -- it is heard whole, or has more messages than may come
  pub turn_again : (room : ℕ) (ms : List (ArrayVec ℕ)) (b : Bool) → AreShort ms → Ok b ≡ (turn_in receiver moment room (TurnText ms)).ending → turn_in receiver moment room (TurnText ms) ≡ whole_turn ms rest
  turn_again room [] b short e =
      let last = end_again receiver room moment rest few in
      turn_right receiver moment (turn_frame moment ++ rest) room moment refl (sym (ap (λ (f : Found Frame). f.answer) last)) ∙ ap (λ (f : Found Frame). stop (Ok true) f.rest f.rest) last
  turn_again zero (m ∷ ms) b short e =
      let text : TurnText (m ∷ ms) ≡ frame_with m ++ TurnText ms = append_assoc (frame_with m) (frames_of ms) (turn_frame moment ++ rest) in
      let fault : (frame_in receiver 0 (TurnText (m ∷ ms))).answer ≡ Err MoreThan64Messages = ap (λ (t : List ℕ). (frame_in receiver 0 t).answer) text ∙ too_many_again m.items (TurnText ms) receiver short.0 in
      let ended = ap (λ (t : Talk). t.ending) (turn_fault receiver moment (TurnText (m ∷ ms)) 0 MoreThan64Messages (sym fault)) in
      absurd cc
  turn_again (suc room) (m ∷ ms) b short e =
      let text : TurnText (m ∷ ms) ≡ frame_with m ++ TurnText ms = append_assoc (frame_with m) (frames_of ms) (turn_frame moment ++ rest) in
      let first : frame_in receiver (suc room) (TurnText (m ∷ ms)) ≡ found (Ok (frames.Message m)) (TurnText ms) = ap (frame_in receiver (suc room)) text ∙ message_again m.items (TurnText ms) receiver room short.0 in
      let one : suc room - 1 ≡ room = omega arith in
      let step : turn_in receiver moment (suc room) (TurnText (m ∷ ms)) ≡ with_events (Receive m.items ∷ []) (turn_in receiver moment room (TurnText ms)) =
      turn_message receiver moment (TurnText (m ∷ ms)) (suc room) m (omega arith) (sym (ap (λ (f : Found Frame). f.answer) first))
      ∙ ap (λ (f : Found Frame). with_events (Receive m.items ∷ []) (turn_in receiver moment (suc room - 1) f.rest)) first
      ∙ ap (λ (k : ℕ). with_events (Receive m.items ∷ []) (turn_in receiver moment k (TurnText ms))) one in
      step ∙ ap (with_events (Receive m.items ∷ [])) (turn_again room ms b short.1 (e ∙ ap (λ (t : Talk). t.ending) step))
