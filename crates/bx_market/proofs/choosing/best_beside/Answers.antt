use Rattle.std.proofs.Common.{◌≡◌, List, ℕ, Option, [], Err, refl, ap, ◌∙◌, rules}
use Rattle.bx_base.specs.Bookings.{AreBookings}
use Rattle.bx_market.specs.Choosing.{chosen_marks, IsBestSelection}
use Rattle.bx_market.proofs.Chosen.{ok_map, found_best, found_none, found_all}
use Rattle.bx_market.proofs.choosing.best_beside.Goals as goal

pub returns-then-branch : goal.returns-then-branch
returns-then-branch c =
    found_all c.args.channels c.args.held c.args.batch.now c.args.eligible.now c.requires.count c.requires.held c.add_free.new.rows c.in_ok-all.all.items c.in_ok-add_free.ensures
    (c.in_ok-all.ensures.items_if_clones_equal (λ y h same. same)) (c.in_ok-all_fit.ensures.0 c.if-branch.true)

pub returns-in-Ok : goal.returns-in-Ok
returns-in-Ok c =
    let held = c.args.held in
    let b = c.args.batch.now in
    let parts = c.args.eligible.now in
    let assigned = c.in-Ok.best.assigned.items in
    let e = c.in-Ok.ensures in
    let bookings : AreBookings c.add_free.new.rows = search rules in
    let is : c.deref.result.now ≡ assigned = c.deref.ensures.value in
    ok_map (λ v. v.items ≡ chosen_marks parts c.deref.result.now c.len-place.result) (λ v. IsBestSelection c.args.channels held b parts v.items) c.chosen_marks.result
    (λ v found. found_best c.args.channels held b parts c.requires.count c.requires.held c.add_free.new.rows c.len-place.result assigned v.items c.in_ok-add_free.ensures c.len-place.ensures.count
    (found ∙ ap (λ (a : List (Option ℕ)). chosen_marks parts a c.len-place.result) is) bookings c.in-Ok.best.total e.lawful e.total e.best)
    c.chosen_marks.ensures

pub returns-in-Err-TooManyMust : goal.returns-in-Err-TooManyMust
returns-in-Err-TooManyMust c =
    let held = c.args.held in
    let b = c.args.batch.now in
    let parts = c.args.eligible.now in
    ok_map (λ v. v.items ≡ chosen_marks parts [] c.len-place.result) (λ v. IsBestSelection c.args.channels held b parts v.items) c.chosen_marks-in-Err-TooManyMust.result
    (λ v found. found_none c.args.channels held b parts c.requires.count c.requires.held c.add_free.new.rows c.len-place.result [] v.items c.in_ok-add_free.ensures c.len-place.ensures.count found refl
    c.in-Err-TooManyMust.field-0-0 ((c.in-Err-TooManyMust.ensures.musts c.in-Err-TooManyMust.field-0-0).0 (ap (λ f. Err f) c.in-Err-TooManyMust.field-0-is)))
    c.chosen_marks-in-Err-TooManyMust.ensures
