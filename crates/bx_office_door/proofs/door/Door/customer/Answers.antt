use Rattle.std.proofs.Common.{arith, inr, refl}
use Rattle.bx_office_door.proofs.KeptSums.{kept_out}
use Rattle.bx_office_door.proofs.Standing.{sent_away, given_out, is_found}
use Rattle.bx_office_door.proofs.door.Door.customer.Goals as goal

pub invariant_of-self : goal.invariant_of-self
invariant_of-self c = record {
  kept = kept_out _ _ c.in_ok-index.index _ c.remove-gone.ensures.by_index.2 c.args.self.now.kept;
  few = omega (arith, c.remove-gone.ensures.len, c.args.self.now.few);
  given = given_out c.args.self.now.count _ _ c.in_ok-index.index c.remove-gone.result c.in_ok-index.ensures.inside c.remove-gone.ensures.value c.remove-gone.ensures.by_index.2 c.args.self.now.given;
}

pub returns-then-has_hung_up-clause-looked : goal.returns-then-has_hung_up-clause-looked
returns-then-has_hung_up-clause-looked c = inr (sent_away c.args.number _ _ c.in_ok-index.index c.remove-gone.result c.in_ok-index.ensures c.remove-gone.ensures.value c.remove-gone.ensures.by_index.2)

pub returns-clause-looked : goal.returns-clause-looked
returns-clause-looked c = (c.new.ensures, is_found c.args.number c.args.self.now.guests.items c.in_ok-index.index c.index.result.now c.in_ok-index.ensures c.index.ensures, refl)
