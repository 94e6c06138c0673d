use Rattle.std.proofs.Common.{◌≡◌, ◌+◌, cond, ◌&&◌, ◌||◌, not, ◌∙◌, rules}
use Rattle.bx_line.specs.declared.incidence.Incidence.TheVariants.{Leaving, Arriving}
use Rattle.bx_line.specs.Cliques.{has_row}
use Rattle.bx_line.proofs.CliqueLemmas.{has_row-first, swept_more}
use Rattle.bx_line.proofs.line.Line.cliques.Goals as goal

pub loop-place-preserved : goal.loop-place-preserved
loop-place-preserved c =
    let line = c.args.self.now in
    let place = c.loop-place.place in
    let grows = c.loop-place.has_started in
    let starts = c.is_some-starts.result in
    let ends = c.is_some-ends.result in
    let starts_is : starts ≡ has_row Leaving line place = c.is_some-starts.ensures ∙ has_row-first Leaving line place c.first_row.result c.first_row.ensures in
    let ends_is : ends ≡ has_row Arriving line place = c.is_some-ends.ensures ∙ has_row-first Arriving line place c.first_row-in-loop-place.result c.first_row-in-loop-place.ensures in
    let after_is : c.if-has_started.ended ≡ c.loop-place.ended + cond (grows && ends) 1 0 = search rules in
    let new_is : c.if-starts.has_started ≡ (starts || (grows && not ends)) = search rules in
    rw c.in_ok-push.ensures.items (swept_more line place c.loop-place.ended c.if-has_started.ended grows starts ends c.if-starts.has_started c.loop-place.counts.items c.loop-place.invariant starts_is ends_is after_is new_is)
