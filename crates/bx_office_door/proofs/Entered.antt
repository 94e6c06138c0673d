-- Who comes stands after the others, by where it has come in.
use Rattle.std.proofs.Common.{arith, ◌≡◌, ◌≤◌, ◌∙◌, ap, subst, sym, List, [], ◌∷◌, ◌++◌}
use Rattle.std.proofs.lemmas.List.{append_assoc}
use Rattle.std.proofs.lemmas.List.Elements.{All-push}
use Rattle.bx_office.specs.declared.gate.Place.{Place}
use Rattle.bx_office.specs.declared.gate.Side.{Side}
use Rattle.bx_office.specs.declared.gate.Side.TheVariants.{Operators, Customers}
use Rattle.bx_office_door.specs.Doors.{guests_of, IsStill}
use Rattle.bx_office_door.specs.Entering.{IsEntranceOn, IsEntrance, AreLetIn, room_on}
use Rattle.bx_office_door.specs.declared.door.Door.{Door}
use Rattle.bx_office_door.specs.declared.door.Entrance.{Entrance}
use Rattle.bx_office_door.specs.declared.guest.Guest.{Guest}

entrance_on : (side : Side) (place : Place) (old new : Door) → new.office ≡ old.office → new.counter ≡ old.counter → IsEntranceOn side place new → IsEntranceOn side place old
entrance_on Operators place old new office counter is = is ∙ ap (λ (e : Entrance). e.address) office
entrance_on Customers place old new office counter (e, at, is) = (e, sym counter ∙ at, is)

pub let_in_more : (first old new : Door) (g : Guest) (place : Place) → old.office ≡ first.office → old.counter ≡ first.counter → AreLetIn first old → guests_of new ≡ guests_of old ++ g ∷ [] → g.client.place ≡ place → IsEntrance old place → AreLetIn first new
let_in_more first old new g place office counter so is at there = record {
  came = so.came ++ g ∷ [];
  stand = is ∙ ap (λ (gs : List Guest). gs ++ g ∷ []) so.stand ∙ append_assoc (guests_of first) so.came (g ∷ []);
  entered = All-push (λ (guest : Guest). IsEntrance first guest.client.place) so.came g so.entered
      (subst (λ (p : Place). IsEntrance first p) (sym at) (entrance_on place.side place first old office counter there));
}

-- where a listener is looked at, all but what it lacked stays
pub still_looking : (first old new : Door) → new ≡ record old { has_lacked = new.has_lacked } → IsStill first old → IsStill first new
still_looking first old new same still = record {
  office = ap (λ (d : Door). d.office) same ∙ still.office;
  counter = ap (λ (d : Door). d.counter) same ∙ still.counter;
  answers = ap (λ (d : Door). d.answers) same ∙ still.answers;
  shown = ap (λ (d : Door). d.shown) same ∙ still.shown;
  heard = ap (λ (d : Door). d.is_heard) same ∙ still.heard;
  opens = ap (λ (d : Door). d.opens) same ∙ still.opens;
  figures = ap (λ (d : Door). d.figures) same ∙ still.figures;
}

pub room_at_most : (side : Side) → room_on side ≤ 68
room_at_most Operators = omega arith
room_at_most Customers = omega arith
