-- Bookings that every plan has to hold: all that is promised and counts on some channels, and all that has begun on them.
use Rattle.std.proofs.Common.{◌≡◌, ℕ, zero, suc, ◌+◌, ◌<◌, ◌&&◌, not, Bool, true, false, true≢false, cond, List, [], ◌∷◌, ◌++◌, map, length, refl, sym, ap, ◌∙◌, arith}
use Rattle.bx_base.specs.Bookings.{Row, row_at}
use Rattle.bx_colour.specs.Beside.{counts_on, marks_beside}
use Rattle.bx_colour.specs.Colouring.{is_in}
use Rattle.bx_day.specs.Invariant.{is_refused}
use Rattle.bx_day.specs.declared.entry.Entry.{Entry}
use Rattle.bx_sales.specs.GoingOn.{own_at}
use Rattle.bx_market.specs.Choices.{must_rows, promised}
use Rattle.bx_market.specs.Choosing.{AreMustRows}
use Rattle.bx_market.proofs.Totals.{total, all_of}

abbrev must_row : Row → Row
must_row row = record row { must = true }

pub must_more : (f : Row → ℕ) → ((row : Row) → f (record row { must = true }) ≡ f row) → (row : Row) (rows : List Row) (counted : Bool)
    → total f (cond counted (record row { must = true } ∷ rows) rows) (all_of (cond counted (record row { must = true } ∷ rows) rows)) ≡ cond counted (f row) 0 + total f rows (all_of rows)
must_more f same row rows false = omega arith
must_more f same row rows true = let e = same row in omega (arith, e)

module _ (f : Row → ℕ) (same : (row : Row) → f (record row { must = true }) ≡ f row) where
  pub promised_total : (channels : List Bool) (t : ℕ) (es : List Entry) → total f (promised channels t es) (all_of (promised channels t es)) ≡ total f (map (λ (e : Entry). e.booking) es) (marks_beside (map (own_at t) es) channels (map (λ (e : Entry). not (is_refused e.standing)) es))
  promised_total channels t [] = refl
  promised_total channels t (e ∷ es) =
      let counted = not (is_refused e.standing) && counts_on channels (own_at t e) in
      must_more f same e.booking (promised channels t es) counted ∙ ap (λ (n : ℕ). cond counted (f e.booking) 0 + n) (promised_total channels t es)

held_more : (row : Row) (rows : List Row) (counted : Bool) → AreMustRows rows → AreMustRows (cond counted (must_row row ∷ rows) rows)
held_more row rows false all i lt = all i lt
held_more row rows true all zero lt = refl
held_more row rows true all (suc i) lt = all i (omega (arith, lt))

-- each of them has to be held
pub all_held : (test : Entry → Bool) (es : List Entry) → AreMustRows (must_rows test es)
all_held test [] i lt = absurd (omega (arith, lt))
all_held test (e ∷ es) i lt = held_more e.booking (must_rows test es) (test e) (all_held test es) i lt

-- of bookings after others only one of these can be one that has to be held
pub must_in : (rows more : List Row) (marks : List Bool) → ((i : ℕ) → i < length more → (row_at more i).must ≡ false) → (i : ℕ) → i < length (rows ++ more) → (row_at (rows ++ more) i).must ≡ true → is_in (all_of rows ++ marks) i ≡ true
must_in [] more marks free i lt must = absurd (true≢false (sym must ∙ free i lt))
must_in (row ∷ rows) more marks free zero lt must = refl
must_in (row ∷ rows) more marks free (suc i) lt must = must_in rows more marks free i (omega (arith, lt)) must
