-- The best selection beside all that is promised is the best choice of a batch: what counts on the channels is what is held.
use Rattle.std.proofs.Common.{◌≡◌, ℕ, suc, ◌+◌, ◌&&◌, Bool, List, [], ◌∷◌, ◌++◌, length, Option, refl, sym, subst, ap, ◌∙◌, arith}
use Rattle.std.proofs.lemmas.List.{length-append, length-map}
use Rattle.bx_base.specs.Bookings.{Row}
use Rattle.bx_colour.specs.Beside.{counts_on, marks_beside}
use Rattle.bx_colour.specs.Colouring.{running_at, FitsChannels}
use Rattle.bx_day.specs.Day.{Day}
use Rattle.bx_sales.specs.GoingOn.{own_at, own_of, FitsBeside}
use Rattle.bx_sales.specs.Selling.{rows_of, marks_of}
use Rattle.bx_sales.proofs.Places.{marks_size}
use Rattle.bx_market.specs.Choices.{promised, eligible_marks, IsBestBatch}
use Rattle.bx_market.specs.Choosing.{FitsTogether, IsBestSelection}
use Rattle.bx_market.proofs.AllPromised.{promised_total}
use Rattle.bx_market.proofs.Chosen.{marks_count, together}
use Rattle.bx_market.proofs.Totals.{total, all_of, runs, total-append, running_total}

-- more marks behind those of what may have a channel of its own
pub beside_more : (own : List (Option ℕ)) (channels marks more : List Bool) → length own ≡ length marks → marks_beside own channels (marks ++ more) ≡ marks_beside own channels marks ++ more
beside_more [] channels [] more count = refl
beside_more [] channels (m ∷ marks) more count = absurd (omega (arith, count))
beside_more (o ∷ own) channels [] more count = absurd (omega (arith, count))
beside_more (o ∷ own) channels (m ∷ marks) more count = ap (λ (l : List Bool). (m && counts_on channels o) ∷ l) (beside_more own channels marks more (omega (arith, count)))

pub beside_size : (own : List (Option ℕ)) (channels marks : List Bool) → length own ≡ length marks → length (marks_beside own channels marks) ≡ length marks
beside_size [] channels marks count = refl
beside_size (o ∷ own) channels [] count = absurd (omega (arith, count))
beside_size (o ∷ own) channels (m ∷ marks) count = ap suc (beside_size own channels marks (omega (arith, count)))

module _ (channels : List Bool) (d : Day) where
  -- what counts of all that is promised
  abbrev pub counted : List Bool
  counted = marks_beside (own_of d) channels (marks_of d)

  pub own_count : length (own_of d) ≡ length (marks_of d)
  own_count = length-map d.entries (own_at d.moment) ∙ sym (marks_size d)

  pub counted_count : length counted ≡ length (rows_of d)
  counted_count = beside_size (own_of d) channels (marks_of d) own_count ∙ marks_count d

  pub beside_is : (marks : List Bool) → marks_beside (own_of d) channels (marks_of d ++ marks) ≡ counted ++ marks
  beside_is marks = beside_more (own_of d) channels (marks_of d) marks own_count

  module _ (batch : List Row) where
    abbrev held : List Row
    held = promised channels d.moment d.entries

    -- what runs of both
    beside_sum : (marks : List Bool) (t : ℕ) → running_at (rows_of d ++ batch) (counted ++ marks) t ≡ total (runs t) held (all_of held) + total (runs t) batch marks
    beside_sum marks t =
        running_total (rows_of d ++ batch) (counted ++ marks) t ∙ total-append (runs t) (rows_of d) batch counted marks counted_count
        ∙ ap (λ (n : ℕ). n + total (runs t) batch marks) (sym (promised_total (runs t) (λ row. refl) channels d.moment d.entries))

    to_together : (marks : List Bool) → FitsBeside channels d (rows_of d ++ batch) (marks_of d ++ marks) → FitsTogether channels held batch marks
    to_together marks fits t =
        let enough = (subst (λ (ms : List Bool). FitsChannels (rows_of d ++ batch) ms channels) (beside_is marks) fits).enough t in
        let sum = beside_sum marks t in
        let both = together held batch marks t in
        omega (arith, enough, sum, both)

    from_together : (marks : List Bool) → length marks ≡ length batch → FitsTogether channels held batch marks → FitsBeside channels d (rows_of d ++ batch) (marks_of d ++ marks)
    from_together marks each fits = subst (λ (ms : List Bool). FitsChannels (rows_of d ++ batch) ms channels) (sym (beside_is marks)) (record {
      one_each = (let a = length-append counted marks in let b = length-append (rows_of d) batch in let n = counted_count in omega (arith, a, b, n, each));
      enough = λ t.
          let most = fits t in
          let sum = beside_sum marks t in
          let both = together held batch marks t in
          omega (arith, most, sum, both);
    })

    pub best_batch : (chosen : List Bool) → IsBestSelection channels held batch (eligible_marks d.moment (length d.entries) batch) chosen → IsBestBatch channels d batch chosen
    best_batch chosen best = record {
      one_each = best.one_each;
      eligible = best.among;
      fits = λ i h. from_together chosen best.one_each (best.fits i h);
      best = λ other choice. best.best other (record { one_each = choice.one_each; among = choice.eligible; fits = to_together other choice.fits });
    }
