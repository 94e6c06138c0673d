use Rattle.std.proofs.Common.{◌≡◌, ◌≤◌, ◌<◌, ◌+◌, ℕ, Some, get_or, length, ap, subst, arith, inl, inr}
use Rattle.std.proofs.lemmas.Bool.{cases_lt}
use Rattle.bx_colour.specs.Above.{IsFirstAbove}
use Rattle.bx_colour.specs.Counted.{counted_to, running_between}
use Rattle.bx_colour.proofs.LoadLemmas.{counted_most, counted_rises, come_up_to, has_started, first_found, one_first}
use Rattle.bx_colour.proofs.load.first_between.Goals as goal

pub come_by-ended-requires-clause-known : goal.come_by-ended-requires-clause-known
come_by-ended-requires-clause-known c =
    let starts = c.args.starts.now in
    let i = c.loop-index.index in
    let here = come_up_to starts i (get_or starts i 0) c.requires.starts (omega (arith, c.loop-index-test.true, c.loop-index.auto.index-end)) (omega arith) in
    c.loop-index.invariant.known (get_or starts i 0) (omega (arith, here))

pub overflow_add-ended : goal.overflow_add-ended
overflow_add-ended c =
    let most = counted_most c.args.ends.now (get_or c.args.starts.now c.loop-index.index 0) in
    omega (arith, most, c.come_by-ended.ensures, c.requires.one_each, c.ranges.limit.fits)

pub returns-then-index-ended-clause-first : goal.returns-then-index-ended-clause-first
returns-then-index-ended-clause-first c =
    let starts = c.args.starts.now in
    let ends = c.args.ends.now in
    let limit = c.args.limit in
    let i = c.loop-index.index in
    let m = get_or starts i 0 in
    let found = first_found starts ends limit i c.come_by-ended.result c.requires.starts (omega (arith, c.loop-index-test.true, c.loop-index.auto.index-end)) c.come_by-ended.ensures (omega (arith, c.if-index-ended.true)) c.loop-index.invariant.none in
    λ t. (
      λ e. let same : m ≡ t = cc in subst (λ (x : ℕ). IsFirstAbove starts ends limit x) same found,
      λ h. ap (λ x. Some x) (one_first (running_between starts ends) limit m t found.0 found.1 h.0 h.1),
    )

pub loop-index-preserved : goal.loop-index-preserved
loop-index-preserved c =
    let starts = c.args.starts.now in
    let ends = c.args.ends.now in
    let i = c.loop-index.index in
    let m = get_or starts i 0 in
    let within : i < length starts = omega (arith, c.loop-index-test.true, c.loop-index.auto.index-end) in
    let ended : c.come_by-ended.result ≡ counted_to ends m = c.come_by-ended.ensures in
    let later : (s : ℕ) → i + 1 ≤ counted_to starts s → counted_to ends m ≤ counted_to ends s = (λ s h. counted_rises ends m s (has_started starts i s c.requires.starts within h)) in
    record {
      known = λ s h. omega (arith, later s h, ended);
      none = λ s h. elim (cases_lt i (counted_to starts s)) [
        | inl more ↦ (let after = later s (omega (arith, more)) in omega (arith, after, ended, h, c.if-index-ended.false))
        | inr few ↦ c.loop-index.invariant.none s few
      ];
      few = omega (arith, counted_most ends m, ended, c.requires.one_each);
    }

pub returns-clause-first : goal.returns-clause-first
returns-clause-first c =
    let starts = c.args.starts.now in
    let none : (t : ℕ) → running_between starts c.args.ends.now t ≤ c.args.limit = (λ t. c.loop-index.invariant.none t (omega (arith, counted_most starts t, c.loop-index-test.false, c.loop-index.auto.index-end))) in
    λ t. (λ e. absurd (cc), λ h. absurd (omega (arith, h.0, none t)))

pub returns-clause-none : goal.returns-clause-none
returns-clause-none c = λ t. c.loop-index.invariant.none t (omega (arith, counted_most c.args.starts.now t, c.loop-index-test.false, c.loop-index.auto.index-end))
