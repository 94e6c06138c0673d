use Rattle.std.proofs.Common.{◌≡◌, ◌∙◌, sym, ap}
use Rattle.std.proofs.lemmas.List.{get_or_default}
use Rattle.bx_day.specs.Day.{entry_at, no_entry}
use Rattle.bx_day.specs.Invariant.{is_refused}
use Rattle.bx_day.specs.declared.entry.Entry.{Entry}
use Rattle.std.proofs.Common.{length}
use Rattle.std.proofs.lemmas.Bool.{true≢false}
use Rattle.bx_base.proofs.Orders.{listed_skip, listed_more}
use Rattle.bx_day.specs.Linking.{IsOffered, begins}
use Rattle.bx_day.proofs.linking.starts.Goals as goal
use Rattle.bx_day.proofs.linking.starts.Goals.{then-not-is_refused+in_ok-push, else-not-is_refused}

pub loop-index-preserved : goal.loop-index-preserved
loop-index-preserved c =
    let es = c.args.entries.now in
    let n = c.loop-index.index in
    let item : c.index-entries-index.result ≡ entry_at es n = c.index-entries-index.is ∙ get_or_default es n c.index-entries-index.result no_entry c.loop-index-test.true in
    let refused = ap (λ (e : Entry). is_refused e.standing) (sym item) ∙ sym c.is_refused.ensures in
    elim c.if-not-is_refused.branch [
      | then-not-is_refused+in_ok-push w ↦ rw (w.order-is, w.in_ok-push.ensures.items) (listed_more (length es) (IsOffered es) (begins es) n c.loop-index.order.items w.start.result c.loop-index-test.true (refused ∙ w.if-not-is_refused.true) (w.start.ensures.value ∙ ap (λ (e : Entry). e.booking.start) item) c.loop-index.invariant)
      | else-not-is_refused w ↦ rw w.order-is (listed_skip (length es) (IsOffered es) (begins es) n c.loop-index.order.items (λ t. true≢false (sym (refused ∙ w.if-not-is_refused.false) ∙ t)) c.loop-index.invariant)
    ]
