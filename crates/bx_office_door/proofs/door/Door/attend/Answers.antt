use Rattle.std.proofs.Common.{arith, not, subst, sym, List, ℕ, ◌∙◌, ◌≡◌, ◌<◌, None}
use Rattle.bx_office_door.proofs.GivenNumbers.{attended, thinned_filter}
use Rattle.bx_office_door.proofs.Quiet.{quiet-filter}
use Rattle.bx_office_door.specs.Guests.{first_asked, numbers_of, IsThinned}
use Rattle.bx_office_door.specs.declared.guest.Guest.{Guest}
use Rattle.bx_office_door.proofs.door.Door.attend.Goals as goal

pub returns : goal.returns
returns c =
    let stay = subst (λ (gs : List Guest). IsThinned (numbers_of c.go_on.new.self.guests.items) (numbers_of gs)) (sym c.let_out.ensures.stay) (thinned_filter (λ (g : Guest). not g.is_gone) c.go_on.new.self.guests.items) in
    record {
      count = omega (arith, c.let_in.ensures.count, c.go_on.ensures.count, c.let_out.ensures.count);
      numbers = attended _ _ _ _ _ _ _ _ c.let_in.ensures.numbers c.go_on.ensures.numbers stay c.go_on.ensures.count c.let_out.ensures.count;
      answers = c.let_out.ensures.others.answers ∙ (c.go_on.ensures.others.answers ∙ c.let_in.ensures.others.answers);
      shown = c.let_out.ensures.others.shown ∙ (c.go_on.ensures.others.shown ∙ c.let_in.ensures.others.shown);
      heard = c.let_out.ensures.others.heard ∙ (c.go_on.ensures.others.heard ∙ c.let_in.ensures.others.heard);
      opens = c.let_out.ensures.others.opens ∙ (c.go_on.ensures.others.opens ∙ c.let_in.ensures.others.opens);
      figures = c.let_out.ensures.others.figures ∙ (c.go_on.ensures.others.figures ∙ c.let_in.ensures.others.figures);
      early = λ lt. subst (λ (gs : List Guest). first_asked gs ≡ None) (sym c.let_out.ensures.stay)
          (quiet-filter (λ (g : Guest). not g.is_gone) c.go_on.new.self.guests.items (c.go_on.ensures.early (subst (λ (opens : ℕ). c.args.now < opens) (sym c.let_in.ensures.others.opens) lt)));
    }
