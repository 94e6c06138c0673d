use Rattle.std.proofs.Common.{◌≡◌, List, Bool, length, sym, subst, ap, ◌∙◌, rules}
use Rattle.std.proofs.lemmas.List.{length-map}
use Rattle.bx_base.specs.Bookings.{Row}
use Rattle.bx_colour.specs.Colouring.{is_in}
use Rattle.bx_sales.specs.Selling.{rows_of, marks_of}
use Rattle.bx_sales.proofs.Places.{rows_size}
use Rattle.bx_market.specs.Choosing.{AreMustRows, IsBestSelection}
use Rattle.bx_market.specs.Leaving.{IsBestKept}
use Rattle.bx_market.specs.LeavingSteps.{is_ahead, ahead_marks, has_begun_on, begun_rows, with_begun, AreAhead}
use Rattle.bx_market.proofs.AllPromised.{all_held}
use Rattle.bx_market.proofs.Chosen.{ok_map}
use Rattle.bx_market.proofs.Kept.{best_kept}
use Rattle.bx_market.proofs.keeping.keep_best.Goals as goal

pub best_beside-requires-clause-count : goal.best_beside-requires-clause-count
best_beside-requires-clause-count c =
    let d = c.args.exchange.now in
    let rows : c.in_ok-rows.rows ≡ rows_of d = search rules in
    let ahead : c.deref.result.now ≡ ahead_marks d.moment d.entries = search rules in
    ap length ahead ∙ length-map d.entries (is_ahead d.moment) ∙ sym (ap length rows ∙ rows_size d)

pub best_beside-requires-clause-held : goal.best_beside-requires-clause-held
best_beside-requires-clause-held c =
    let d = c.args.exchange.now in
    let held : c.in_ok-held.held ≡ begun_rows c.args.left d.moment d.entries = search rules in
    subst AreMustRows (sym held) (all_held (has_begun_on c.args.left d.moment) d.entries)

pub returns-clause-count : goal.returns-clause-count
returns-clause-count c =
    let d = c.args.exchange.now in
    let rows : c.in_ok-rows.rows ≡ rows_of d = search rules in
    ok_map (λ v. IsBestSelection c.args.left c.in_ok-held.held c.in_ok-rows.rows c.deref.result.now v.items) (λ v. length v.items ≡ length d.entries) c.best_beside.result
    (λ v best. best.one_each ∙ ap length rows ∙ rows_size d) c.best_beside.ensures

pub returns-clause-among : goal.returns-clause-among
returns-clause-among c =
    let d = c.args.exchange.now in
    let ahead : c.deref.result.now ≡ ahead_marks d.moment d.entries = search rules in
    ok_map (λ v. IsBestSelection c.args.left c.in_ok-held.held c.in_ok-rows.rows c.deref.result.now v.items) (λ v. AreAhead d.moment d.entries v.items) c.best_beside.result
    (λ v best i h. sym (ap (λ (ms : List Bool). is_in ms i) ahead) ∙ best.among i h) c.best_beside.ensures

pub returns-clause-best : goal.returns-clause-best
returns-clause-best c =
    let d = c.args.exchange.now in
    let left = c.args.left in
    let rows : c.in_ok-rows.rows ≡ rows_of d = search rules in
    let ahead : c.deref.result.now ≡ ahead_marks d.moment d.entries = search rules in
    let held : c.in_ok-held.held ≡ begun_rows left d.moment d.entries = search rules in
    ok_map (λ v. IsBestSelection left c.in_ok-held.held c.in_ok-rows.rows c.deref.result.now v.items) (λ v. IsBestKept left (marks_of d) d (with_begun d.moment d.entries v.items)) c.best_beside.result
    (λ v best. best_kept left d v.items
    (subst (λ (hs : List Row). IsBestSelection left hs (rows_of d) (ahead_marks d.moment d.entries) v.items) held
    (subst (λ (rs : List Row). IsBestSelection left c.in_ok-held.held rs (ahead_marks d.moment d.entries) v.items) rows
    (subst (λ (ms : List Bool). IsBestSelection left c.in_ok-held.held c.in_ok-rows.rows ms v.items) ahead best))))
    c.best_beside.ensures
