-- Events one after another, and what amends the plan.
use Rattle.std.specs.Prelude.{◌≡◌, ℕ, Bool, List, [], ◌∷◌, ◌++◌, Option, Some, None}
use Rattle.std.proofs.Common.{refl, sym, ap, ◌∙◌, subst, append_assoc, append-nil}
use Rattle.bx_day.specs.Day.{Day}
use Rattle.bx_events.specs.Events.{LiveEvent, OnLink, WithoutLink, Amended, HeardByRulesTwo}
use Rattle.bx_events.specs.declared.amendment.Amendment.{Amendment}
use Rattle.bx_events.specs.declared.amendment.Amendment.TheVariants.{Sold, Cancelled, Changed, SoldByRulesTwo, Delayed, Dropped, Out}
use Rattle.bx_sales.specs.declared.tag.Tag.{Tag}
use Rattle.bx_planfile.specs.OneBooking.{row_on}
use Rattle.bx_sales.proofs.Journal.{through_more}
use Rattle.bx_sales.proofs.Noting.{noted_on}
use Rattle.bx_sales.specs.GivenUps.{noted_by}
use Rattle.bx_day.specs.declared.outcome.GivenUp.{GivenUp}
use Rattle.bx_day_openings.specs.declared.amending.AmendmentFault.{AmendmentFault}
use Rattle.bx_day_openings.specs.declared.selling.Selling.{Selling}
use Rattle.bx_day_openings.specs.Going.{IsStopped, Goes, GoesFrom}
use Rattle.bx_day_openings.specs.Selling.{day_goes, tagged_by, tags_in, IsAfter}

module _ {S : Type 0} (goes : S → List LiveEvent → S → Type 0) (day : S → Day) (channels : List Bool) where
  pub goes_nothing : ((s : S) → goes s [] s) → (fault : Option AmendmentFault) (s : S) → GoesFrom goes day channels fault s [] s fault
  goes_nothing none None s = none s
  goes_nothing none (Some fault) s = (refl, refl)

  module _ (more : (s t u : S) (xs ys : List LiveEvent) → goes s xs t → goes t ys u → goes s (xs ++ ys) u) where
    later_stop : (s t u : S) (xs ys : List LiveEvent) (fault : AmendmentFault) → goes s xs t → IsStopped goes day channels t ys u fault → IsStopped goes day channels s (xs ++ ys) u fault
    later_stop s t u xs ys fault went stop = record {
      amendment = record { before = xs ++ stop.amendment.before; kind = stop.amendment.kind; line = stop.amendment.line; following = stop.amendment.following; are = ap (λ (l : List LiveEvent). xs ++ l) stop.amendment.are ∙ sym (append_assoc xs stop.amendment.before (Amended stop.amendment.kind stop.amendment.line ∷ stop.amendment.following)) };
      went = more s t u xs stop.amendment.before went stop.went;
      why = stop.why;
    }

    from_here : (s t u : S) (xs ys : List LiveEvent) (a b : Option AmendmentFault) → Goes goes day channels s xs t a → GoesFrom goes day channels a t ys u b → Goes goes day channels s (xs ++ ys) u b
    from_here s t u xs ys None None went next = more s t u xs ys went next
    from_here s t u xs ys None (Some fault) went next = later_stop s t u xs ys fault went next
    from_here s t u xs ys (Some fault) b stop (same, still) =
        subst (λ (x : Option AmendmentFault). Goes goes day channels s (xs ++ ys) u x) (sym still)
        (subst (λ (x : S). IsStopped goes day channels s (xs ++ ys) x fault) (sym same) (record {
          amendment = record { before = stop.amendment.before; kind = stop.amendment.kind; line = stop.amendment.line; following = stop.amendment.following ++ ys; are = ap (λ (l : List LiveEvent). l ++ ys) stop.amendment.are ∙ append_assoc stop.amendment.before (Amended stop.amendment.kind stop.amendment.line ∷ stop.amendment.following) ys };
          went = stop.went;
          why = stop.why;
        }))

    pub goes_more : (s t u : S) (xs ys : List LiveEvent) (a b c : Option AmendmentFault) → GoesFrom goes day channels a s xs t b → GoesFrom goes day channels b t ys u c → GoesFrom goes day channels a s (xs ++ ys) u c
    goes_more s t u xs ys None b c p q = from_here s t u xs ys b c p q
    goes_more s t u xs ys (Some fault) b c (same, still) q = then_stopped (subst (λ (x : Option AmendmentFault). GoesFrom goes day channels x t ys u c) still q) where
      then_stopped : GoesFrom goes day channels (Some fault) t ys u c → GoesFrom goes day channels (Some fault) s (xs ++ ys) u c
      then_stopped (on, again) = (on ∙ same, again)

pub after_nothing : (a : Selling) → IsAfter a [] a
after_nothing a = (refl, goes_nothing (day_goes a.channels) (λ (d : Day). d) a.channels (λ d. refl) a.fault a.exchange, λ whole. sym (append-nil a.tags.items), λ whole. refl)

tagged_more : (kind : Amendment) (line : List ℕ) (xs ys : List (Option Tag)) → tagged_by kind line (xs ++ ys) ≡ tagged_by kind line xs ++ ys
tagged_more Sold line xs ys = refl
tagged_more Cancelled line xs ys = refl
tagged_more Changed line xs ys = refl
tagged_more SoldByRulesTwo line xs ys = refl
tagged_more Delayed line xs ys = refl
tagged_more Dropped line xs ys = refl
tagged_more Out line xs ys = refl

tags_more : (xs ys : List LiveEvent) → tags_in (xs ++ ys) ≡ tags_in xs ++ tags_in ys
tags_more [] ys = refl
tags_more (Amended kind line ∷ xs) ys = ap (λ (tags : List (Option Tag)). tagged_by kind line tags) (tags_more xs ys) ∙ tagged_more kind line (tags_in xs) (tags_in ys)
tags_more (OnLink event ∷ xs) ys = tags_more xs ys
tags_more (WithoutLink rules ∷ xs) ys = tags_more xs ys
tags_more (HeardByRulesTwo octets ∷ xs) ys = tags_more xs ys

-- where all was right at the end, it was before
pub was_right : {S : Type 0} (goes : S → List LiveEvent → S → Type 0) (day : S → Day) (channels : List Bool) (s t : S) (events : List LiveEvent) (b c : Option AmendmentFault) → GoesFrom goes day channels b s events t c → c ≡ None → b ≡ None
was_right goes day channels s t events None c on whole = refl
was_right goes day channels s t events (Some fault) c (same, still) whole = let e = sym still ∙ whole in cc

-- what was noted of some events, and then of more
pub noted_after : (a b c : List (Option GivenUp)) (xs ys : List LiveEvent) → b ≡ noted_by a xs → c ≡ noted_by b ys → c ≡ noted_by a (xs ++ ys)
noted_after a b c xs ys p q = q ∙ ap (λ (given_up : List (Option GivenUp)). noted_by given_up ys) p ∙ sym (noted_on a xs ys)

pub after_more : (a b c : Selling) (xs ys : List LiveEvent) → IsAfter a xs b → IsAfter b ys c → IsAfter a (xs ++ ys) c
after_more a b c xs ys (same, p, tags, notes) (again, q, tags', notes') =
    let on = subst (λ (cs : List Bool). GoesFrom (day_goes cs) (λ (d : Day). d) cs b.fault b.exchange ys c.exchange c.fault) same q in
    let right = λ (whole : c.fault ≡ None). was_right (day_goes b.channels) (λ (d : Day). d) b.channels b.exchange c.exchange ys b.fault c.fault q whole in (
      again ∙ same,
      goes_more (day_goes a.channels) (λ (d : Day). d) a.channels (λ d e f us vs p q. through_more a.channels row_on us vs d e f p q) a.exchange b.exchange c.exchange xs ys a.fault b.fault c.fault p on,
      λ whole. tags' whole ∙ ap (λ (ts : List (Option Tag)). ts ++ tags_in ys) (tags (right whole))
          ∙ append_assoc a.tags.items (tags_in xs) (tags_in ys) ∙ ap (λ (ts : List (Option Tag)). a.tags.items ++ ts) (sym (tags_more xs ys)),
      λ whole. noted_after a.given_up.items b.given_up.items c.given_up.items xs ys (notes (right whole)) (notes' whole),
    )
