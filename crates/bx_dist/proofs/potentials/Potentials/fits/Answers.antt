use Rattle.std.proofs.lemmas.Grind.{common_steps}
use Rattle.std.proofs.Common.{◌-◌, ◌+◌, ℤ, length, ap, arith, below_more, refl}
use Rattle.bx_dist.specs.Inside.{RowFits}
use Rattle.bx_dist.proofs.Fitting.{fits_from_parts, RowFits-from_fits, GapFits-from_fits}
use Rattle.bx_dist.proofs.potentials.Potentials.fits.Goals as goal

pub returns-then-not-row_fits : goal.returns-then-not-row_fits
returns-then-not-row_fits c =
    (λ h. cc, λ p. let r = c.row_fits.ensures.1 (RowFits-from_fits c.args.line.now c.args.carried.now c.args.self.now p.fits (c.loop-i.i + 1) (omega arith) (omega arith)) in cc)

pub loop-i-preserved : goal.loop-i-preserved
loop-i-preserved c = below_more (λ k. RowFits c.args.line.now c.args.carried.now c.args.self.now (k + 1)) c.loop-i.i c.loop-i.invariant (c.row_fits.ensures.0 c.if-not-row_fits.false)

pub returns-then-not-gap_fits : goal.returns-then-not-gap_fits
returns-then-not-gap_fits c =
    (λ h. cc, λ p. let r = c.gap_fits.ensures.1 (GapFits-from_fits c.args.line.now c.args.carried.now c.args.self.now p.fits (c.loop-v.v - 1) (omega arith)) in cc)

pub returns : goal.returns
returns c = (
  λ h. record {
    one_each = omega (arith, ap (length {A = ℤ}) c.self.view_is, c.self.inside.heights.ok);
    sized = c.is_sized.ensures.0 c.if-not-is_sized.false;
    fits = fits_from_parts c.args.line.now c.args.carried.now c.args.self.now (λ i b. c.loop-i.invariant i (omega arith)) (λ v b. c.loop-v.invariant v (omega arith));
  },
  λ p. refl,
)

pub loop-i-init : goal.loop-i-init
loop-i-init c = grind (arith, common_steps) steps 60000
