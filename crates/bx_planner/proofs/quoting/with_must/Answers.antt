use Rattle.std.proofs.Common.{◌≡◌, ◌≢◌, ◌<◌, ◌∙◌, ◌++◌, ◌∷◌, [], ℕ, ◌+◌, List, take, length, ap, sym, arith, true}
use Rattle.std.proofs.lemmas.List.{take_more, length-set, get_or-set_same, get_or-set_other}
use Rattle.bx_base.specs.Bookings.{Row, row_at, no_row}
use Rattle.bx_planner.specs.Weighing.{rows_held}
use Rattle.bx_planner.proofs.quoting.with_must.Goals as goal
use Rattle.bx_planner.proofs.quoting.with_must.Goals.{then-place-index, else-place-index}

held_there : (rows : List Row) (index place : ℕ) → place < length rows → place ≡ index → row_at (rows_held rows index) place ≡ record (row_at rows place) { must = true }
held_there rows index place h s =
    let row = record (row_at rows index) { must = true } in
    ap (λ (k : ℕ). row_at (rows_held rows index) k) s ∙ (get_or-set_same rows index row no_row (omega arith) ∙ ap (λ (k : ℕ). record (row_at rows k) { must = true }) (sym s))

held_elsewhere : (rows : List Row) (index place : ℕ) → place ≢ index → row_at (rows_held rows index) place ≡ row_at rows place
held_elsewhere rows index place d = get_or-set_other rows index place (record (row_at rows index) { must = true }) no_row d

one_more : (rows : List Row) (index place : ℕ) (before after : List Row) (marked : Row) → place < length rows → before ≡ take place (rows_held rows index) → after ≡ before ++ marked ∷ [] → marked ≡ row_at (rows_held rows index) place → after ≡ take (place + 1) (rows_held rows index)
one_more rows index place before after marked h b a m =
    let many = length-set rows index (record (row_at rows index) { must = true }) in
    a ∙ (ap (λ (xs : List Row). xs ++ marked ∷ []) b ∙ (ap (λ (r : Row). take place (rows_held rows index) ++ r ∷ []) m ∙ sym (take_more (rows_held rows index) place no_row (omega (arith, h, many)))))

pub loop-place-preserved : goal.loop-place-preserved
loop-place-preserved c =
    let rows = c.args.bookings.now in
    let inside : c.loop-place.place < length rows = omega arith in
    let booking = c.nth-booking.ensures.value in
    let marked : c.if-place-index.marked ≡ row_at (rows_held rows c.args.index) c.loop-place.place =
    elim c.if-place-index.branch [
      | then-place-index w ↦ (w.marked-is ∙ (w.as_must-marked.ensures ∙ (ap (λ (r : Row). record r { must = true }) booking ∙ sym (held_there rows c.args.index c.loop-place.place inside w.if-place-index.true))))
      | else-place-index w ↦ (w.marked-is ∙ (booking ∙ sym (held_elsewhere rows c.args.index c.loop-place.place w.if-place-index.false)))
    ] in
    one_more rows c.args.index c.loop-place.place c.loop-place.rows c.push.new.self c.if-place-index.marked inside c.loop-place.invariant c.in-Ok.ensures.ok marked
