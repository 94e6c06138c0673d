use Rattle.std.proofs.Common.{◌≡◌, ◌<◌, ℕ, ◌+◌, max, length, subst, sym, ◌∙◌, arith}
use Rattle.std.proofs.lemmas.Grind.{common_steps}
use Rattle.std.proofs.lemmas.List.{get_or_default}
use Rattle.bx_day.specs.Day.{entry_at, no_entry}
use Rattle.bx_day_openings.specs.Openings.{IsLastOfDay}
use Rattle.bx_day_openings.proofs.LastTurns.{next_entry}
use Rattle.bx_day_openings.proofs.replaying.last_turns.Goals as goal

pub loop-index-preserved : goal.loop-index-preserved
loop-index-preserved c =
    let l = c.loop-index in
    let entries = c.args.entries.now in
    let over = c.over_with.result in
    let e = c.index-entries-index.result in
    let inside : l.index < length entries = omega (arith, c.loop-index-test.true, l.auto.index-end) in
    let is : e ≡ entry_at entries l.index = c.index-entries-index.is ∙ get_or_default entries l.index e no_entry inside in
    let greater : c.max-turns.result ≡ max l.turns over = grind (arith, common_steps, c.max-turns.ensures) in
    record {
      limit = omega (arith, greater, l.invariant.limit, c.over_with.ensures.limit);
      last = subst (λ (n : ℕ). IsLastOfDay entries (l.index + 1) n) (sym greater) (next_entry entries l.index l.turns over e is l.invariant.last l.invariant.limit.0 c.over_with.ensures.over);
    }
