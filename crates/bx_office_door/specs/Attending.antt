-- A door that is attended while a frame is waited for.
use Rattle.std.specs.Prelude.{◌≡◌, ℕ, Bool, List, [], ◌∷◌, Option, Some, None}
use Rattle.bx_line_world.specs.Wires.{WireAct, Shown, Sent, Waited}
use Rattle.bx_office_door.specs.Doors.{IsAttended}
use Rattle.bx_office_door.specs.Hearing.{is_heard}
use Rattle.bx_office_door.specs.Lending.{Lending, IsUsedWhereThere}
use Rattle.bx_office_door.specs.Sliced.{DidInside}
use Rattle.bx_office_door.specs.declared.wire.OfficeWire.{OfficeWire}

pub data DoorAct : Type 0 where
  -- what was ready was moved: the clock showed so many nanoseconds since 1970, and the other end of the line was heard of late, or not
  Attended : (now : ℕ) (is_heard : Bool) → DoorAct

-- each time the door was taken, attended so, and put back
abbrev pub AreAttended : {S : Type 0} → (S → Lending → S → Type 0) → List DoorAct → S → S → Type 0
AreAttended lent [] old new = new ≡ old
AreAttended {S} lent (Attended now is_heard ∷ acts) old new = (mid : S) × IsUsedWhereThere lent (IsAttended now is_heard) old mid × AreAttended lent acts mid new

-- what the clock showed last
abbrev pub shown_after : ℕ → List WireAct → ℕ
shown_after shown [] = shown
shown_after shown (Shown nanos ∷ acts) = shown_after nanos acts
shown_after shown (Sent octets ∷ acts) = shown_after shown acts
shown_after shown (Waited most came ∷ acts) = shown_after shown acts

abbrev pub heard_by : ℕ → Option ℕ → Option (List ℕ) → Option ℕ
heard_by shown heard None = heard
heard_by shown heard (Some octets) = Some shown

-- what it showed when the last frame came
abbrev pub heard_after : ℕ → Option ℕ → List WireAct → Option ℕ
heard_after shown heard [] = heard
heard_after shown heard (Shown nanos ∷ acts) = heard_after nanos heard acts
heard_after shown heard (Sent octets ∷ acts) = heard_after shown heard acts
heard_after shown heard (Waited most came ∷ acts) = heard_after shown (heard_by shown heard came) acts

-- the door is attended before each wait, and told what the clock showed last
abbrev pub attended_by : ℕ → Option ℕ → List WireAct → List DoorAct
attended_by shown heard [] = []
attended_by shown heard (Shown nanos ∷ acts) = attended_by nanos heard acts
attended_by shown heard (Sent octets ∷ acts) = attended_by shown heard acts
attended_by shown heard (Waited most came ∷ acts) = Attended shown (is_heard heard shown) ∷ attended_by shown (heard_by shown heard came) acts

-- the acts of the wire inside lie between two states, cut into slices, and the door beside it was attended just so
pub record DidBeside {W S : Type 0} (did : W → List WireAct → W → Type 0) (lent : S → Lending → S → Type 0) (old : OfficeWire W S) (acts : List WireAct) (new : OfficeWire W S) : Type 0 where
  pub wire : DidInside did old.wire acts new.wire
  pub door : AreAttended lent (attended_by old.shown old.heard acts) old.door new.door
  pub shown : new.shown ≡ shown_after old.shown acts
  pub heard : new.heard ≡ heard_after old.shown old.heard acts
