use Rattle.std.proofs.Common.{List, length, subst}
use Rattle.bx_day.specs.Linking.{AreLinks}
use Rattle.bx_day.specs.Outlasting.{AreEarliest}
use Rattle.bx_day.specs.Passing.{day_of}
use Rattle.bx_day.specs.RestoringInside.{AreLiveBelow}
use Rattle.bx_day.specs.declared.entry.Entry.{Entry}
use Rattle.bx_day.proofs.IndexLemmas.{indexed_now}
use Rattle.bx_day.proofs.Restored.{slots_anew}
use Rattle.bx_day.proofs.exchange.Exchange.restored.Goals as goal

pub invariant_of-result : goal.invariant_of-result
invariant_of-result c =
    let d = day_of c.args.moment c.args.unlinked c.args.entries.items c.args.maintenance in
    let live = c.live_anew-live.result in
    let waiting = c.first_waiting-waiting.result in
    let following = c.in_ok-links.links.following.items in
    let links = subst (λ (es : List Entry). AreLinks es c.in_ok-links.links.first following) c.deref.ensures.value c.in_ok-links.ensures in
    let lives = subst (λ (es : List Entry). AreLiveBelow es (length es) live) c.deref-2.ensures.value c.live_anew-live.ensures in
    let anew = subst (λ (es : List Entry). AreEarliest es (length es) waiting) c.deref-3.ensures.value c.first_waiting-waiting.ensures in
    indexed_now d live waiting following c.requires.exchange (slots_anew d live waiting c.in_ok-links.links.first following c.requires lives anew links)
