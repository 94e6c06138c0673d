use Rattle.std.proofs.Common.{◌≡◌, ℕ, List, ◌∙◌, ap, arith}
use Rattle.bx_colour.specs.Counted.{counted_to, running_between}
use Rattle.bx_colour.specs.Loads.{load_at}
use Rattle.bx_colour.proofs.load.Load.first_above.Goals as goal

pub returns-clause-first : goal.returns-clause-first
returns-clause-first c =
    let load = c.args.self.now in
    let starts = c.as_slice.result.now in
    let ends = c.as_slice-2.result.now in
    let all : (t : ℕ) → running_between starts ends t ≡ load_at load t = (λ t.
    let first : counted_to starts t ≡ counted_to load.starts.items t = ap (λ (xs : List ℕ). counted_to xs t) c.as_slice.ensures.value ∙ c.sort.ensures.counted t in
    let last : counted_to ends t ≡ counted_to load.ends.items t = ap (λ (xs : List ℕ). counted_to xs t) c.as_slice-2.ensures.value ∙ c.sort-2.ensures.counted t in
    omega (arith, first, last)) in
    λ t. (
      λ e. let h = (c.first_between.ensures.first t).0 e in (omega (arith, h.0, all t), λ s b. omega (arith, h.1 s b, all s)),
      λ h. (c.first_between.ensures.first t).1 (omega (arith, h.0, all t), λ s b. omega (arith, h.1 s b, all s)),
    )
