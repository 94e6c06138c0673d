use Rattle.std.proofs.Common.{◌≡◌, ℕ, ◌+◌, ◌-◌, ◌<◌, None, ◌∙◌, subst, arith}
use Rattle.std.proofs.lemmas.List.{get_or_default}
use Rattle.bx_line.specs.ByPlace.{row_in}
use Rattle.bx_line.proofs.Chaining.{AreChained, chained_more, chains_from_chained}
use Rattle.bx_line.proofs.by_place.ByPlace.of.Goals as goal

pub loop-row-preserved : goal.loop-row-preserved
loop-row-preserved c =
    let before : c.loop-row.row ≡ c.loop-row.row - 1 + 1 = omega arith in
    let chained = subst (λ (n : ℕ). AreChained c.args.side c.args.arcs.now c.args.places n c.loop-row.first.items c.loop-row.next.items) before c.loop-row.invariant in
    let place = c.side_of-place.ensures in
    let within : c.side_of-place.result < c.args.places = omega (arith, place, c.requires.within (c.loop-row.row - 1) (omega (arith, chained.few))) in
    let read : c.index.result.now ≡ row_in c.loop-row.first.items c.side_of-place.result = c.index.ensures ∙ get_or_default c.loop-row.first.items c.side_of-place.result c.index.result.now None (omega (arith, within, chained.first_each)) in
    rw read (chained_more c.args.side c.args.arcs.now c.args.places (c.loop-row.row - 1) c.loop-row.first.items c.loop-row.next.items chained c.side_of-place.result place within)

pub returns : goal.returns
returns c =
    chains_from_chained c.args.side c.args.arcs.now c.args.places c.loop-row.row c.loop-row.first.items c.loop-row.next.items (omega (arith, c.loop-row-test.false)) c.loop-row.invariant
