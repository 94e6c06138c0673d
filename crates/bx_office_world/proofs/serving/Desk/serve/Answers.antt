use Rattle.std.proofs.Common.{◌≡◌, ◌<◌, ◌≤◌, rules, true, false, ◌∙◌, subst, List, length, Some, None}
use Rattle.bx_office_door.specs.Guests.{first_asked}
use Rattle.bx_office_world.specs.declared.ledger.Keyed.{Keyed}
use Rattle.bx_office_world.specs.Served.{is_long}
use Rattle.bx_office_world.specs.TurnsTaken.{IsTurnTaken}
use Rattle.bx_office_world.proofs.Turns.{SoFar, one_more, not_taken, all_served, next_wanted, long_served, enough_served}
use Rattle.bx_office_world.proofs.serving.Desk.serve.Goals as goal

pub loop-answer-preserved : goal.loop-answer-preserved
loop-answer-preserved c =
    let desk = c.args.self.now in
    let d = c.args.exchange.now in
    let requests = c.args.ledger.now.requests.items in
    let old = c.loop-answer.door.guests.items in
    let new = c.next.new.door.guests.items in
    let number = c.in_ok-number.number in
    let route = c.in_ok-number.route in
    let asked : first_asked c.loop-answer.door.guests.items ≡ Some (c.in_ok-number.number, c.in_ok-number.route) = search rules in
    let taken = subst (λ (rs : List Keyed). IsTurnTaken desk rs d number route old new c.next.result) c.loop-answer.invariant.still c.next.ensures.turn in
    let quick : is_long (length d.entries) route ≡ false = search rules in
    record {
      served = one_more desk requests d c.loop-answer._answer number route c.args.door.now.guests.items old new c.loop-answer.invariant.served asked (not_taken desk requests d number route old new c.next.result c.in_default.is taken) quick;
      still = c.next.ensures.still c.in_default.is ∙ c.loop-answer.invariant.still;
    }

pub returns-in_err-number-clause-served : goal.returns-in_err-number-clause-served
returns-in_err-number-clause-served c =
    let asked : first_asked c.loop-answer.door.guests.items ≡ None = search rules in
    let few : c.loop-answer._answer ≤ 16 = search rules in
    let p = all_served c.args.self.now c.args.ledger.now.requests.items c.args.exchange.now c.loop-answer._answer c.args.door.now.guests.items c.loop-answer.door.guests.items few c.loop-answer.invariant.served asked in
    search rules

pub returns-in-Some-clause-served : goal.returns-in-Some-clause-served
returns-in-Some-clause-served c =
    let number = c.in_ok-number.number in
    let route = c.in_ok-number.route in
    let asked : first_asked c.loop-answer.door.guests.items ≡ Some (number, route) = search rules in
    let few : c.loop-answer._answer ≤ 16 = search rules in
    next_wanted c.args.self.now c.args.ledger.now.requests.items c.args.exchange.now c.loop-answer._answer c.args.door.now.guests.items c.loop-answer.door.guests.items c.next.new.door.guests.items number route c.in-Some.next few c.loop-answer.invariant.served asked c.in-Some.ensures.turn

pub returns-then-is_long-clause-served : goal.returns-then-is_long-clause-served
returns-then-is_long-clause-served c =
    let desk = c.args.self.now in
    let d = c.args.exchange.now in
    let number = c.in_ok-number.number in
    let route = c.in_ok-number.route in
    let mid = c.loop-answer.door.guests.items in
    let new = c.next.new.door.guests.items in
    let asked : first_asked mid ≡ Some (number, route) = search rules in
    let few : c.loop-answer._answer < 16 = search rules in
    let long : is_long (length d.entries) route ≡ true = search rules in
    let taken = subst (λ (rs : List Keyed). IsTurnTaken desk rs d number route mid new c.next.result) c.loop-answer.invariant.still c.next.ensures.turn in
    long_served desk c.args.ledger.now.requests.items d c.loop-answer._answer number route c.args.door.now.guests.items mid new few c.loop-answer.invariant.served asked
    (not_taken desk c.args.ledger.now.requests.items d number route mid new c.next.result c.in_default.is taken) long

pub returns-clause-served : goal.returns-clause-served
returns-clause-served c =
    let told : SoFar c.args.self.now c.args.ledger.now.requests.items c.args.exchange.now 16 c.args.door.now.guests.items c.loop-answer.door.guests.items = search rules in
    enough_served c.args.self.now c.args.ledger.now.requests.items c.args.exchange.now c.args.door.now.guests.items c.loop-answer.door.guests.items told
