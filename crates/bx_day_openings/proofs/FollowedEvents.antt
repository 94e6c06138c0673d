-- What one event does to an exchange that follows.
use Rattle.std.proofs.Common.{◌≡◌, ℕ, Bool, true, is_some, List, [], ◌∷◌, ◌++◌, Option, Some, None, refl, sym, ◌∙◌, subst}
use Rattle.bx_day.specs.Day.{Day}
use Rattle.bx_events.specs.Events.{LiveEvent, Amended}
use Rattle.bx_events.specs.declared.amendment.Amendment.{Amendment}
use Rattle.bx_events.specs.declared.amendment.Amendment.TheVariants.{Sold, Cancelled, Changed, SoldByRulesTwo, Delayed, Dropped, Out}
use Rattle.bx_planfile.specs.OneBooking.{row_on}
use Rattle.bx_sales.specs.Amending.{AmendsDay}
use Rattle.bx_day_openings.specs.declared.amending.AmendmentFault.{AmendmentFault}
use Rattle.bx_day_openings.specs.declared.amending.AmendmentFault.TheVariants.{Memory}
use Rattle.bx_day_openings.specs.declared.selling.Selling.{Selling}
use Rattle.bx_day_openings.specs.Amendments.{IsBadAmendment}
use Rattle.bx_day_openings.specs.Going.{GoesFrom}
use Rattle.bx_day_openings.specs.Selling.{day_goes, tagged_by, tags_go, notes_go, IsAfter}
use Rattle.bx_sales.specs.GivenUps.{noted_of}

module _ (a b : Selling) (channels : b.channels ≡ a.channels) where
  after : (events : List LiveEvent) → a.fault ≡ None → GoesFrom (day_goes a.channels) (λ (d : Day). d) a.channels None a.exchange events b.exchange b.fault → (b.fault ≡ None → tags_go a.tags.items events b.tags.items) → (b.fault ≡ None → notes_go a.given_up.items events b.given_up.items) → IsAfter a events b
  after events none goes tags notes = (channels, subst (λ (s : Option AmendmentFault). GoesFrom (day_goes a.channels) (λ (d : Day). d) a.channels s a.exchange events b.exchange b.fault) (sym none) goes, tags, notes)

  pub went : (events : List LiveEvent) → a.fault ≡ None → b.fault ≡ None → day_goes a.channels a.exchange events b.exchange → tags_go a.tags.items events b.tags.items → notes_go a.given_up.items events b.given_up.items → IsAfter a events b
  went events none still goes tags notes = after events none (subst (λ (s : Option AmendmentFault). GoesFrom (day_goes a.channels) (λ (d : Day). d) a.channels None a.exchange events b.exchange s) (sym still) goes) (λ whole. tags) (λ whole. notes)

  pub amended : (kind : Amendment) (line : List ℕ) → a.fault ≡ None → b.fault ≡ None → AmendsDay a.channels row_on kind line a.exchange b.exchange → b.tags.items ≡ a.tags.items ++ tagged_by kind line [] → b.given_up.items ≡ noted_of a.given_up.items kind line → IsAfter a (Amended kind line ∷ []) b
  amended kind line none still is tags notes = went (Amended kind line ∷ []) none still (b.exchange, is, refl) tags notes

  pub not_amended : (kind : Amendment) (line : List ℕ) (fault : AmendmentFault) → a.fault ≡ None → b.fault ≡ Some fault → b.exchange ≡ a.exchange → IsBadAmendment a.channels kind line a.exchange fault → IsAfter a (Amended kind line ∷ []) b
  not_amended kind line fault none is same why = after (Amended kind line ∷ []) none (subst (λ (s : Option AmendmentFault). GoesFrom (day_goes a.channels) (λ (d : Day). d) a.channels None a.exchange (Amended kind line ∷ []) b.exchange s) (sym is) (record {
    amendment = record { before = []; kind = kind; line = line; following = []; are = refl };
    went = same;
    why = subst (λ (d : Day). IsBadAmendment a.channels kind line d fault) (sym same) why;
  })) (λ whole. let e = sym is ∙ whole in cc) (λ whole. let e = sym is ∙ whole in cc)

-- memory may run out at any line
pub of_memory : (channels : List Bool) (kind : Amendment) (line : List ℕ) (d : Day) → IsBadAmendment channels kind line d Memory
of_memory channels Sold line d = tt
of_memory channels Cancelled line d = tt
of_memory channels Changed line d = tt
of_memory channels SoldByRulesTwo line d = tt
of_memory channels Delayed line d = tt
of_memory channels Dropped line d = tt
of_memory channels Out line d = tt

pub stays : (a : Selling) (fault : AmendmentFault) (events : List LiveEvent) → a.fault ≡ Some fault → IsAfter a events a
stays a fault events is = (refl, subst (λ (s : Option AmendmentFault). GoesFrom (day_goes a.channels) (λ (d : Day). d) a.channels s a.exchange events a.exchange a.fault) (sym is) (refl, is), λ whole. let e = sym is ∙ whole in cc, λ whole. let e = sym is ∙ whole in cc)

pub stays_if : (a : Selling) (events : List LiveEvent) → is_some a.fault ≡ true → IsAfter a events a
stays_if a events is = by_sale a.fault refl is where
  by_sale : (s : Option AmendmentFault) → a.fault ≡ s → is_some s ≡ true → IsAfter a events a
  by_sale None e is = cc
  by_sale (Some fault) e is = stays a fault events e
