use Rattle.std.proofs.Common.{◌≡◌, List, Bool, ap, ◌∙◌, length, sym, subst, rules}
use Rattle.bx_base.specs.Bookings.{Row}
use Rattle.bx_market.specs.Choices.{is_counted, promised, eligible_marks, IsBestBatch}
use Rattle.bx_market.specs.Choosing.{AreMustRows, IsBestSelection}
use Rattle.bx_market.proofs.AllPromised.{all_held}
use Rattle.bx_market.proofs.BestBatch.{best_batch}
use Rattle.bx_market.proofs.Eligible.{eligible_count}
use Rattle.bx_market.proofs.choosing.choose.Goals as goal

pub best_beside-requires-clause-count : goal.best_beside-requires-clause-count
best_beside-requires-clause-count c =
    let d = c.args.exchange.now in
    let b = c.args.batch.now in
    let marks : c.in_ok-eligible.eligible.items ≡ eligible_marks d.moment (length d.entries) b = search rules in
    ap length (c.deref.ensures.value ∙ marks) ∙ eligible_count d.moment (length d.entries) b

pub best_beside-requires-clause-held : goal.best_beside-requires-clause-held
best_beside-requires-clause-held c =
    let d = c.args.exchange.now in
    subst AreMustRows (sym c.in_ok-held.ensures) (all_held (is_counted c.channels_left-left.result d.moment) d.entries)

pub returns-clause-best : goal.returns-clause-best
returns-clause-best c =
    let d = c.args.exchange.now in
    let b = c.args.batch.now in
    let channels = c.channels_left-left.result in
    let marks : c.in_ok-eligible.eligible.items ≡ eligible_marks d.moment (length d.entries) b = search rules in
    record {
      best = subst (λ (left : List Bool). IsBestBatch left d b c.in_ok-chosen.chosen.items) c.channels_left-left.ensures
          (best_batch channels d b c.in_ok-chosen.chosen.items
          (subst (λ (parts : List Bool). IsBestSelection channels (promised channels d.moment d.entries) b parts c.in_ok-chosen.chosen.items) (c.deref.ensures.value ∙ marks)
          (subst (λ (held : List Row). IsBestSelection channels held b c.deref.result.now c.in_ok-chosen.chosen.items) c.in_ok-held.ensures c.in_ok-chosen.ensures)));
    }
