-- First fit beside what has begun is one colouring, so each line of a journal makes one day of a day.
use Rattle.std.proofs.Common.{◌≡◌, ℕ, suc, ◌<◌, Bool, List, [], ◌∷◌, length, Option, None, arith, refl, sym, subst, ap, ap₂, ◌∙◌, inl, slice_index_or}
use Rattle.bx_base.specs.Bookings.{Row, row_at}
use Rattle.bx_colour.specs.ChangedRows.{IsFirstFitAmong, AreSameUpTo, choices_of}
use Rattle.bx_colour.specs.Colouring.{is_in}
use Rattle.bx_colour.proofs.FirstFitChanged.{begun_stay}
use Rattle.bx_day.specs.Changed.{changed}
use Rattle.bx_day.specs.Day.{Day}
use Rattle.bx_day.specs.Outages.{live_happens}
use Rattle.bx_day.proofs.Once.{decide}
use Rattle.bx_events.specs.Events.{LiveEvent, OnLink, WithoutLink, Amended, HeardByRulesTwo}
use Rattle.bx_events.specs.declared.amendment.Amendment.{Amendment}
use Rattle.bx_events.specs.declared.amendment.Amendment.TheVariants.{Sold, Cancelled, Changed, SoldByRulesTwo, Delayed, Dropped, Out}
use Rattle.bx_sales.specs.Amending.{AmendsDay}
use Rattle.bx_sales.specs.GoingOn.{own_of, GoesOnBeside}
use Rattle.bx_sales.specs.Journal.{RunsThrough}
use Rattle.bx_sales.specs.Left.{left_in_service}
use Rattle.bx_sales.proofs.Told.{same_channels}

-- the same rows
itself : (t : ℕ) (rows : List Row) (marks : List Bool) (allowed : ℕ → List Bool) → AreSameUpTo t rows marks allowed rows marks allowed
itself t rows marks allowed = record {
  longer = omega arith;
  begun = λ i lt marked by. (marked, record { start = refl; end = inl refl });
  choices = λ i lt marked by. refl;
  no_other = λ i lt marked by. (lt, marked, by);
}

one_colouring : (rows : List Row) (allowed : ℕ → List Bool) (marks : List Bool) (a a' : List (Option ℕ)) → IsFirstFitAmong rows allowed marks a → IsFirstFitAmong rows allowed marks a' → a' ≡ a
one_colouring rows allowed marks a a' fit fit' = same_channels a' a (fit'.one_each ∙ sym fit.one_each) (λ i inside.
    let lt : i < length rows = let n = fit.one_each in omega (arith, inside, n) in
    decide (is_in marks i)
    (λ marked. begun_stay (row_at rows i).start allowed allowed rows marks a rows marks a' fit fit' (itself (row_at rows i).start rows marks allowed) i lt marked (omega arith))
    (λ out. fit'.refused i out ∙ sym (fit.refused i out)))

one_beside : (channels : List Bool) (rows : List Row) (marks : List Bool) (old new new' : Day) → GoesOnBeside channels rows marks old new → GoesOnBeside channels rows marks old new' → new' ≡ new
one_beside channels rows marks old new new' g g' =
    g'.day ∙ ap (λ (a : List (Option ℕ)). changed rows a old) (one_colouring rows (choices_of (own_of old) channels) marks g.assigned g'.assigned g.first_fit g'.first_fit) ∙ sym g.day

one_amended : (channels : List Bool) (row_on : List ℕ → Row) (kind : Amendment) (line : List ℕ) (old new new' : Day) → AmendsDay channels row_on kind line old new → AmendsDay channels row_on kind line old new' → new' ≡ new
one_amended channels row_on Sold line old new new' is is' = one_beside (left_in_service channels old) _ _ old new new' is.gone_on is'.gone_on
one_amended channels row_on Cancelled line old new new' is is' = one_beside (left_in_service channels old) _ _ old new new' is.gone_on is'.gone_on
one_amended channels row_on Changed line old new new' is is' = one_beside (left_in_service channels old) _ _ old new new' is.gone_on is'.gone_on
one_amended channels row_on SoldByRulesTwo line old new new' is is' = one_beside channels _ _ old new new' is.gone_on is'.gone_on
one_amended channels row_on Delayed line old new new' is is' = is'.gone_on.day ∙ sym is.gone_on.day
one_amended channels row_on Dropped line old new new' is is' = is'.gone_on.day ∙ sym is.gone_on.day
one_amended channels row_on Out line old new new' is is' = one_beside (left_in_service channels old) _ _ old new new' is.recoloured is'.recoloured

pub one_day : (channels : List Bool) (row_on : List ℕ → Row) (events : List LiveEvent) (old new new' : Day) → RunsThrough channels row_on events old new → RunsThrough channels row_on events old new' → new' ≡ new
one_day channels row_on [] old new new' is is' = is' ∙ sym is
one_day channels row_on (Amended kind line ∷ events) old new new' (mid, is, rest) (mid', is', rest') =
    one_day channels row_on events mid new new' rest (subst (λ (d : Day). RunsThrough channels row_on events d new') (one_amended channels row_on kind line old mid mid' is is') rest')
one_day channels row_on (OnLink event ∷ events) old new new' rest rest' = one_day channels row_on events (live_happens old (OnLink event)).day new new' rest rest'
one_day channels row_on (WithoutLink rules ∷ events) old new new' rest rest' = one_day channels row_on events (live_happens old (WithoutLink rules)).day new new' rest rest'
one_day channels row_on (HeardByRulesTwo octets ∷ events) old new new' rest rest' = one_day channels row_on events (live_happens old (HeardByRulesTwo octets)).day new new' rest rest'
