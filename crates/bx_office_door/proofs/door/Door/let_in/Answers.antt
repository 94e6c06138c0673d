use Rattle.std.proofs.Common.{arith, rules, ap, ◌∙◌, ◌≡◌, ◌+◌, ◌++◌, ◌∷◌, []}
use Rattle.std.specs.Vec.{vec_len}
use Rattle.bx_office_door.proofs.Entered.{let_in_more, still_looking, room_at_most}
use Rattle.bx_office_door.proofs.KeptSums.{kept_came}
use Rattle.bx_office_door.proofs.GivenNumbers.{came_more, came_given}
use Rattle.bx_office_door.specs.Doors.{guests_of}
use Rattle.bx_office_door.specs.declared.door.Door.{Door}
use Rattle.bx_office_door.proofs.door.Door.let_in.Goals as goal

pub invariant_of-self-in-loop-guest : goal.invariant_of-self-in-loop-guest
invariant_of-self-in-loop-guest c =
    let next : c.in-Some.number ≡ c.loop-guest.self.count + 1 = search rules in
    let pushed : c.push.new.self.items ≡ c.next_in.new.self.guests.items ++ c.new-guest.result ∷ [] = search rules in
    let all : c.push.new.self.items ≡ c.loop-guest.self.guests.items ++ c.new-guest.result ∷ [] = pushed ∙ ap (λ (d : Door). guests_of d ++ c.new-guest.result ∷ []) c.next_in.ensures.rest in
    let stood : vec_len c.next_in.new.self.guests ≡ vec_len c.loop-guest.self.guests = ap (λ (d : Door). vec_len d.guests) c.next_in.ensures.rest in
    record {
      few = omega (arith, stood, c.in-Some-next_in.ensures.room, room_at_most c.in-Some-next_in.place.side);
      kept = kept_came _ _ _ _ all c.new-guest.ensures.kept c.loop-guest.self.kept;
      given = came_given _ _ _ _ _ c.loop-guest.self.given all c.new-guest.ensures.number next;
    }

pub loop-guest-preserved : goal.loop-guest-preserved
loop-guest-preserved c =
    let next : c.in-Some.number ≡ c.loop-guest.self.count + 1 = search rules in
    let pushed : c.push.new.self.items ≡ c.next_in.new.self.guests.items ++ c.new-guest.result ∷ [] = search rules in
    let all : c.push.new.self.items ≡ c.loop-guest.self.guests.items ++ c.new-guest.result ∷ [] = pushed ∙ ap (λ (d : Door). guests_of d ++ c.new-guest.result ∷ []) c.next_in.ensures.rest in
    let still = still_looking c.args.self.now c.loop-guest.self c.next_in.new.self c.next_in.ensures.rest c.loop-guest.invariant.others in
    record {
      count = omega (arith, next, c.loop-guest.invariant.count);
      numbers = came_more _ _ _ _ _ _ _ c.loop-guest.invariant.count c.loop-guest.invariant.numbers all c.new-guest.ensures.number next;
      others = record { office = still.office; counter = still.counter; answers = still.answers; shown = still.shown; heard = still.heard; opens = still.opens; figures = still.figures };
      entered = let_in_more _ _ _ _ _ c.loop-guest.invariant.others.office c.loop-guest.invariant.others.counter c.loop-guest.invariant.entered all c.new-guest.ensures.place c.in-Some-next_in.ensures.entered;
    }
