use Rattle.std.proofs.Common.{◌≡◌, ℕ, ◌++◌, List, Bool, true, not, map, replicate, length, ap, sym, subst, ◌∙◌, arith}
use Rattle.bx_base.specs.Bookings.{Row}
use Rattle.bx_day.specs.Invariant.{is_refused}
use Rattle.bx_day.specs.declared.entry.Entry.{Entry}
use Rattle.bx_sales.specs.GoingOn.{KeepsBegun, GoesOnBeside, FitsBeside}
use Rattle.bx_sales.specs.Selling.{marks_of}
use Rattle.bx_sales.specs.SellingAll.{AreLater, marks_and}
use Rattle.bx_sales.proofs.InTurn.{all_in_turn, rows_in_turn, marks_in_turn}
use Rattle.bx_sales.proofs.Keeping.{keeps_and}
use Rattle.bx_sales.proofs.selling_all.sell_all.Goals as goal

pub go_on_beside-requires-clause-keeps : goal.go_on_beside-requires-clause-keeps
go_on_beside-requires-clause-keeps c =
    let d = c.args.exchange.now in
    let rows = c.args.rows.now in
    let rows_are = c.in-Ok.ensures.rows ∙ ap (λ (es : List Entry). map (λ (e : Entry). e.booking) es ++ rows) c.entries.ensures in
    let marks_are = c.deref.ensures.value ∙ c.in-Ok-marks_and.ensures ∙ ap (λ (es : List Entry). map (λ (e : Entry). not (is_refused e.standing)) es ++ replicate c.len-count.result true) c.entries-2.ensures
    ∙ ap (λ (n : ℕ). marks_of d ++ replicate n true) c.len-count.ensures.count in
    let later = subst (λ (t : ℕ). AreLater t rows) c.moment.ensures.value (c.are_later.ensures.0 c.if-not-are_later.false) in
    subst (λ (ms : List Bool). KeepsBegun d c.in-Ok.bookings ms) (sym marks_are) (subst (λ (rs : List Row). KeepsBegun d rs (marks_and d rows)) (sym rows_are) (keeps_and d c.moment.ensures.state rows later))

pub returns-in-Ok-go_on_beside-clause-sold : goal.returns-in-Ok-go_on_beside-clause-sold
returns-in-Ok-go_on_beside-clause-sold c =
    let d = c.args.exchange.now in
    let d1 = c.go_on_beside.new.exchange in
    let rows = c.args.rows.now in
    let channels = c.args.channels in
    let rows_are = c.in-Ok.ensures.rows ∙ ap (λ (es : List Entry). map (λ (e : Entry). e.booking) es ++ rows) c.entries.ensures in
    let marks_are = c.deref.ensures.value ∙ c.in-Ok-marks_and.ensures ∙ ap (λ (es : List Entry). map (λ (e : Entry). not (is_refused e.standing)) es ++ replicate c.len-count.result true) c.entries-2.ensures
    ∙ ap (λ (n : ℕ). marks_of d ++ replicate n true) c.len-count.ensures.count in
    let later = subst (λ (t : ℕ). AreLater t rows) c.moment.ensures.value (c.are_later.ensures.0 c.if-not-are_later.false) in
    let some : length rows ≡ 0 → ⊥ = λ none. omega (arith, none, c.if-count-eq0.false, c.len-count.ensures.count) in
    all_in_turn channels c.count-channels.ensures.set rows d d1 c.moment.ensures.state some later
    (subst (λ (rs : List Row). FitsBeside channels d rs (marks_and d rows)) rows_are (subst (λ (ms : List Bool). FitsBeside channels d c.in-Ok.bookings ms) marks_are c.in-Ok-go_on_beside.ensures.fitting))
    (subst (λ (rs : List Row). GoesOnBeside channels rs (marks_and d rows) d d1) rows_are (subst (λ (ms : List Bool). GoesOnBeside channels c.in-Ok.bookings ms d d1) marks_are c.in-Ok-go_on_beside.ensures.gone_on))

pub returns-in-Ok-go_on_beside-clause-following : goal.returns-in-Ok-go_on_beside-clause-following
returns-in-Ok-go_on_beside-clause-following c =
    let d = c.args.exchange.now in
    let d1 = c.go_on_beside.new.exchange in
    let rows = c.args.rows.now in
    let sold = returns-in-Ok-go_on_beside-clause-sold c in
    (rows_in_turn c.args.channels rows d d1 sold, marks_in_turn c.args.channels rows d d1 sold)
