use Rattle.std.proofs.Common.{rules, arith, ◌≡◌, not, filter}
use Rattle.std.proofs.lemmas.Fn.{filter_same}
use Rattle.bx_office_door.specs.declared.guest.Guest.{Guest}
use Rattle.bx_office_door.proofs.KeptSums.{kept-filter}
use Rattle.bx_office_door.proofs.GivenNumbers.{thinned_filter, given_thinned}
use Rattle.bx_office_door.proofs.door.Door.let_out.Goals as goal

pub invariant_of-self : goal.invariant_of-self
invariant_of-self c =
    let kept : c.retain.new.self.items ≡ filter (λ (g : Guest). not g.is_gone) c.args.self.now.guests.items = filter_same _ (λ (g : Guest). not g.is_gone) _ (λ x b f' k. search rules) _ _ c.retain.ensures.filtered in
    record {
      few = omega (arith, c.retain.ensures.bound, c.args.self.now.few);
      kept = let less = kept-filter (λ (g : Guest). not g.is_gone) c.args.self.now.guests.items in rw kept (omega (arith, less, c.args.self.now.kept));
      given = rw kept (given_thinned c.args.self.now.count _ _ (thinned_filter (λ (g : Guest). not g.is_gone) c.args.self.now.guests.items) c.args.self.now.given);
    }

pub returns-clause-stay : goal.returns-clause-stay
returns-clause-stay c = filter_same _ (λ (g : Guest). not g.is_gone) _ (λ x b f' k. search rules) _ _ c.retain.ensures.filtered
