use Rattle.std.proofs.Common.{arith, rules, ◌≡◌, ◌<◌, ◌++◌, ◌∷◌, [], inr, vec_len, vec_capacity}
use Rattle.bx_office_door.proofs.KeptSums.{kept_moved}
use Rattle.bx_office_door.proofs.Standing.{answered, still_given, is_found}
use Rattle.bx_office_door.proofs.door.Door.answer.Goals as goal

pub invariant_of-self : goal.invariant_of-self
invariant_of-self c =
    let fits : vec_len c.remove-guest.new.self < vec_capacity c.remove-guest.new.self = omega (arith, c.remove-guest.ensures.len, c.remove-guest.ensures.capacity, c.args.self.now.guests.ok.1) in
    let done = c.push.ensures.succeeds fits in
    let back : c.push.new.self.items ≡ c.remove-guest.new.self.items ++ c.answer.new.self ∷ [] = search rules in
    record {
      kept = kept_moved c.args.self.now.guests.items _ c.in-Some.index c.remove-guest.result c.answer.new.self _ c.in-Some.ensures.inside c.remove-guest.ensures.value (search rules) c.answer.ensures.client.kept c.args.self.now.kept;
      few = omega (arith, c.push.ensures.upper_bound, c.remove-guest.ensures.len, c.args.self.now.few);
      given = still_given c.args.self.now.count c.args.reply _ _ _ c.in-Some.index _ _ c.in-Some.ensures.inside c.remove-guest.ensures.value c.remove-guest.ensures.by_index.2 c.answer.ensures back c.args.self.now.given;
    }

pub returns-clause-answered : goal.returns-clause-answered
returns-clause-answered c =
    let back : c.push.new.self.items ≡ c.remove-guest.new.self.items ++ c.answer.new.self ∷ [] = search rules in
    inr (answered c.args.number c.args.reply _ _ _ c.in-Some.index _ _ c.in-Some.ensures c.remove-guest.ensures.value c.remove-guest.ensures.by_index.2 c.answer.ensures back)

pub returns-clause-answers : goal.returns-clause-answers
returns-clause-answers c =
    let found = is_found c.args.number c.args.self.now.guests.items c.in-Some.index c.remove-guest.result c.in-Some.ensures c.remove-guest.ensures.value in
    rw found (search rules)
