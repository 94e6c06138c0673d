use Rattle.std.proofs.Common.{◌≡◌, ℕ, length, subst, arith}
use Rattle.bx_line.specs.ByPlace.{AreChains}
use Rattle.bx_line.specs.declared.incidence.Incidence.TheVariants.{Leaving, Arriving}
use Rattle.bx_line.proofs.line.Line.joined.Goals as goal

pub invariant_of-result : goal.invariant_of-result
invariant_of-result c =
    let moments = c.args.moments.items in
    let arcs = c.args.arcs.items in
    let leaving = c.in_ok-leaving.leaving in
    let arriving = c.in_ok-arriving.arriving in
    let size : c.len.result ≡ length moments = omega (arith, c.args.moments.ok) in
    let same : c.len-2.result ≡ length moments = omega (arith, c.args.moments.ok) in (
      c.requires,
      subst (λ (n : ℕ). AreChains Leaving arcs n leaving.first.items leaving.next.items) size (rw c.deref.ensures.value at c.in_ok-leaving.ensures),
      subst (λ (n : ℕ). AreChains Arriving arcs n arriving.first.items arriving.next.items) same (rw c.deref-2.ensures.value at c.in_ok-arriving.ensures),
    )
