-- Private: what the functions of a line promise one another.
use Rattle.std.specs.Prelude.{◌≡◌, ℕ, ◌≤◌, Bool, true, false, List, [], ◌∷◌, length, map, Option, Some, None}
use Rattle.arrayvec.specs.ArrayVec.{ArrayVec}
use Rattle.bx_lapd.specs.declared.frame.Frame.{Frame}
use Rattle.bx_lapd.specs.declared.indication.Indication.{Indication}
use Rattle.bx_lapd.specs.Links.{Did}
use Rattle.bx_lapd.specs.Table.{takes_data}
use Rattle.bx_line_world.specs.Wires.{WireAct, Shown}
use Rattle.bx_line_world.specs.Posts.{all_told_to, with_messages, IsNoneWithin}
use Rattle.bx_line_world.specs.Lines.{LineEvent, Elapsed, Serves, passed_by, sent_as}
use Rattle.bx_line_world.specs.Serving.{GivesMessage, IsWait, Slice, Polls, has_come, is_wait_over}
use Rattle.bx_line_world.specs.Seeing.{Looked, is_look_over}
use Rattle.bx_live.specs.Chains.{Chain}
use Rattle.bx_line_world.specs.declared.line.Line.{Line}
use Rattle.bx_line_world.specs.declared.post.Post.{Post}

-- the clock was read
pub record Looks {W : Type 0} (did : W → List WireAct → W → Type 0) (old new : Line W) : Type 0 where
  pub wire : did old.wire (Shown new.shown ∷ []) new.wire
  pub rest : new ≡ record old { wire = new.wire; shown = new.shown; passed = passed_by old.passed old.shown new.shown }

abbrev pub with_wire : {W : Type 0} → Line W → W → Line W
with_wire s wire = record s { wire = wire }

-- frames were sent
pub record SendsFrames {W : Type 0} (did : W → List WireAct → W → Type 0) (frames : List Frame) (old new : Line W) : Type 0 where
  pub wire : did old.wire (map (sent_as old.end.network) frames) new.wire
  pub rest : new ≡ record old { wire = new.wire }

-- and what was told is kept
abbrev pub keeps : {W : Type 0} → Line W → List Indication → Line W
keeps old told = record old { post = all_told_to old.post told }

pub record CarriesOut {W : Type 0} (did : W → List WireAct → W → Type 0) (done : Did) (old new : Line W) : Type 0 where
  pub wire : did old.wire (map (sent_as old.end.network) done.frames) new.wire
  pub rest : new ≡ record old { wire = new.wire; post = all_told_to old.post done.told }

-- a message was given, or is not taken
abbrev pub GivesWhere : {W : Type 0} → (W → List WireAct → W → Type 0) → ArrayVec ℕ → Bool → Line W → Line W → Type 0
GivesWhere did message true old new = GivesMessage did old message new
GivesWhere did message false old new = (new ≡ old) × (takes_data old.end.link.state old.end.link ≡ false)

-- a frame was waited for, and came or did not
abbrev pub Waits : {W : Type 0} → (W → List WireAct → W → Type 0) → ℕ → Bool → Line W → Line W → Type 0
Waits did until has old new = (came : LineEvent) × IsWait until came × Serves did old came new × (has ≡ has_come came)

-- so many frames that are there already were heard
pub record PolledBy {W : Type 0} (did : W → List WireAct → W → Type 0) (count : ℕ) (old new : Line W) : Type 0 where
  pub came : List LineEvent
  pub run : Chain (Polls did) old came new
  pub counted : length came ≡ count

-- one look and one wait, or a look at which the wait is over
abbrev pub GoesOnWaiting : {W : Type 0} → (W → List WireAct → W → Type 0) → ℕ → Bool → Bool → Line W → Line W → Type 0
GoesOnWaiting did until in_turn true old new = (shown : ℕ) × Serves did old (Elapsed shown) new × (is_wait_over new until in_turn ≡ true)
GoesOnWaiting did until in_turn false old new = (came : LineEvent) × Slice did until in_turn old came new

-- one look, or a look at the timer at which it is over
abbrev pub GoesOnLooking : {W : Type 0} → (W → List WireAct → W → Type 0) → ℕ → Bool → Line W → Line W → Type 0
GoesOnLooking did until true old new = (shown : ℕ) × Serves did old (Elapsed shown) new × (is_look_over new until ≡ true)
GoesOnLooking did until false old new = (came : LineEvent) × Looked did until old came new

-- the first message is taken, where one is there that has at most so many octets
abbrev pub TakesFirst : ℕ → Post → Option (ArrayVec ℕ) → Post → Type 0
TakesFirst left old None new = IsNoneWithin left old × (new ≡ old)
TakesFirst left old (Some m) new = (rest : List (ArrayVec ℕ)) × (old.messages.items ≡ m ∷ rest) × (length m.items ≤ left) × (new ≡ with_messages old rest)
