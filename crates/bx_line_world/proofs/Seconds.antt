-- In one second at most 8,000 octets of messages are read.
use Rattle.std.proofs.Common.{◌≡◌, ℕ, zero, suc, ◌+◌, ◌≤◌, List, [], ◌∷◌, true, true≢false, sym, ap, arith, Option, Some, None, Result, Ok, Bool}
use Rattle.arrayvec.specs.ArrayVec.{ArrayVec}
use Rattle.bx_frames.specs.declared.fault.LinkFault.{LinkFault}
use Rattle.bx_frames.specs.declared.frame.Frame.{Frame}
use Rattle.bx_frames.specs.declared.frame.Frame.TheVariants as frames
use Rattle.bx_live.specs.Acts.{Act, Began, Logged, Wrote, Read, Took, begins_none}
use Rattle.bx_live.specs.declared.world.Begin.{Begin}
use Rattle.bx_live.specs.Chains.{Chain, chain_first}
use Rattle.bx_line_world.specs.Wires.{WireAct}
use Rattle.bx_line_world.specs.Days.{GoesByLine, ReadsTurn, ReadsFor, TakesMessage, octets_of_message, octets_taken, octets_read}
use Rattle.bx_line_world.specs.declared.line.Line.{Line}
use Rattle.bx_line_world.specs.declared.line_world.LineWorld.{LineWorld}

module _ {W : Type 0} (did : W → List WireAct → W → Type 0) where
  -- what is read is within what is left
  read_within : (room until second left : ℕ) (answer : Result Frame LinkFault) (a b : Line W) → ReadsFor did room until second left answer a b → octets_of_message answer ≤ left
  read_within zero until second left answer a b reads = let e = ap octets_of_message reads.0 in omega (arith, e)
  read_within (suc room) until second left answer a b reads = within answer reads where
    within : (answer : Result Frame LinkFault) → ReadsTurn did until second left answer a b → octets_of_message answer ≤ left
    within (Ok (frames.Message m)) r = r.answers.3
    within (Ok frames.EndOfDay) r = absurd r.answers
    within answer r = omega arith

  took_within : (left : ℕ) (message : Option (ArrayVec ℕ)) (a b : Line W) → TakesMessage did left message a b → octets_taken message ≤ left
  took_within left (Some m) a b takes = takes.takes.3
  took_within left None a b takes = omega arith

module _ {W D : Type 0} (did : W → List WireAct → W → Type 0) (holds may_leave : D → List ℕ → Type 0) (moment : D → ℕ) (left_since : D → ℕ → List ℕ → Type 0) (has_failed : D → Bool) where
  abbrev Goes : LineWorld W D → Act → LineWorld W D → Type 0
  Goes = GoesByLine did holds may_leave moment left_since has_failed

  within_on : (acts : List Act) (s t : LineWorld W D) → Chain Goes s acts t → begins_none acts ≡ true → s.taken ≤ 8000 → s.taken + octets_read acts ≤ 8000
  within_on [] s t chain none few = omega (arith, few)
  within_on (Began second begin ∷ acts) s t chain none few = absurd (true≢false (sym none))
  within_on (Read room answer ∷ acts) s t chain none few =
      let (mid, step, more) = chain_first Goes s t (Read room answer) acts chain in
      let here = read_within did room _ s.second _ answer s.line mid.line step.line in
      omega (arith, few, here, step.second.1, within_on acts mid t more none (omega (arith, few, here, step.second.1)))
  within_on (Took message ∷ acts) s t chain none few =
      let (mid, step, more) = chain_first Goes s t (Took message) acts chain in
      let here = took_within did _ message s.line mid.line step.line in
      omega (arith, few, here, step.second.1, within_on acts mid t more none (omega (arith, few, here, step.second.1)))
  within_on (Logged event done ∷ acts) s t chain none few =
      let (mid, step, more) = chain_first Goes s t (Logged event done) acts chain in omega (arith, step.second.1, within_on acts mid t more none (omega (arith, few, step.second.1)))
  within_on (Wrote octets done ∷ acts) s t chain none few =
      let (mid, step, more) = chain_first Goes s t (Wrote octets done) acts chain in omega (arith, step.second.1, within_on acts mid t more none (omega (arith, few, step.second.1)))
  within_on (y ∷ acts) s t chain none few =
      let (mid, step, more) = chain_first Goes s t y acts chain in omega (arith, step.second.1, within_on acts mid t more none (omega (arith, few, step.second.1)))

  pub second_within : (old new : LineWorld W D) (second : ℕ) (begin : Begin) (acts : List Act) → Chain Goes old (Began second begin ∷ acts) new → begins_none acts ≡ true → octets_read acts ≤ 8000
  second_within old new second begin acts chain none =
      let (mid, step, more) = chain_first Goes old new (Began second begin) acts chain in
      omega (arith, step.second.1, within_on acts mid new more none (omega (arith, step.second.1)))
