use Rattle.std.proofs.Common.{◌++◌, ◌∷◌, [], List, Bool, true, not, map, ap, subst, ◌∙◌}
use Rattle.bx_base.specs.Bookings.{Row}
use Rattle.bx_day.specs.Invariant.{is_refused}
use Rattle.bx_day.specs.declared.entry.Entry.{Entry}
use Rattle.bx_sales.specs.GoingOn.{GoesOnBeside, FitsBeside}
use Rattle.bx_sales.specs.Selling.{rows_with, marks_with}
use Rattle.bx_sales.proofs.GoneOn.{rows_then, marks_then}
use Rattle.bx_sales.proofs.InTurn.{one_more_each}
use Rattle.bx_sales.proofs.selling.sell.Goals as goal

pub returns-in-Ok-go_on_beside-clause-following : goal.returns-in-Ok-go_on_beside-clause-following
returns-in-Ok-go_on_beside-clause-following c =
    let d = c.args.exchange.now in
    let d1 = c.go_on_beside.new.exchange in
    let row = c.args.booking.now in
    let channels = c.args.channels in
    let rows_are = c.in-Ok.ensures.rows ∙ ap (λ (es : List Entry). map (λ (e : Entry). e.booking) es ++ row ∷ []) c.entries.ensures in
    let marks_are = c.deref.ensures.value ∙ c.in-Ok-marks_with.ensures ∙ ap (λ (es : List Entry). map (λ (e : Entry). not (is_refused e.standing)) es ++ true ∷ []) c.entries-2.ensures in
    let gone = subst (λ (rs : List Row). GoesOnBeside channels rs (marks_with d) d d1) rows_are (subst (λ (ms : List Bool). GoesOnBeside channels c.in-Ok.bookings ms d d1) marks_are c.in-Ok-go_on_beside.ensures.gone_on) in
    (rows_then channels (rows_with d row) (marks_with d) d d1 (one_more_each d row) gone, marks_then channels (rows_with d row) (marks_with d) d d1 (one_more_each d row) gone)

pub returns-in-Ok-go_on_beside-clause-fitting : goal.returns-in-Ok-go_on_beside-clause-fitting
returns-in-Ok-go_on_beside-clause-fitting c =
    let d = c.args.exchange.now in
    let row = c.args.booking.now in
    let channels = c.args.channels in
    let rows_are = c.in-Ok.ensures.rows ∙ ap (λ (es : List Entry). map (λ (e : Entry). e.booking) es ++ row ∷ []) c.entries.ensures in
    let marks_are = c.deref.ensures.value ∙ c.in-Ok-marks_with.ensures ∙ ap (λ (es : List Entry). map (λ (e : Entry). not (is_refused e.standing)) es ++ true ∷ []) c.entries-2.ensures in
    subst (λ (rs : List Row). FitsBeside channels d rs (marks_with d)) rows_are (subst (λ (ms : List Bool). FitsBeside channels d c.in-Ok.bookings ms) marks_are c.in-Ok-go_on_beside.ensures.fitting)
