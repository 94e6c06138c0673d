use Rattle.std.proofs.Common.{◌≡◌, [], ◌<◌, length, map, get_or, sym, ap, subst, ◌∙◌, arith, inl, inr}
use Rattle.std.proofs.lemmas.Bool.{cases_eq}
use Rattle.std.proofs.lemmas.List.{get_or-map, get_or_read, length-map}
use Rattle.std.proofs.lemmas.Result.{err_from_is_err_and}
use Rattle.bx_base.specs.Bound.{IsCharge, no_charge}
use Rattle.bx_planfile.specs.Text.{price_fields}
use Rattle.bx_text.proofs.GatheringSteps.{line_put, line_failed}
use Rattle.bx_text.specs.Gathering.{held}
use Rattle.bx_planfile.proofs.writing.put_prices.Goals as goal

pub returns-in_err-put-clause-text : goal.returns-in_err-put-clause-text
returns-in_err-put-clause-text g c =
    let p = err_from_is_err_and c.from_residual.result c.from_residual.ensures.1 in
    let prices = c.args.prices.now in
    let i = c.loop-price.price-index in
    let within : i < length (map price_fields prices) = omega (arith, length-map prices price_fields, c.loop-price-test.true) in
    let item = get_or_read prices i c.price-item.result c.loop-price-test.true c.price-item.is no_charge in
    let line : get_or (map price_fields prices) i [] ≡ price_fields c.price-item.result = get_or-map price_fields prices i no_charge [] c.loop-price-test.true ∙ ap price_fields (sym item) in
    rw p.1 (line_failed g.W.Write.contents (map price_fields prices) i (held c.args.w.now c.args.block.now) (held c.loop-price.w c.loop-price.block) (held c.put.new.w c.put.new.block) c.in_err-put.field-0.0 p.0 (price_fields c.price-item.result) c.deref.result.now within line
    (c.deref.ensures.0 ∙ c.price_line.ensures.text) c.loop-price.invariant.text c.in_err-put.ensures)

pub loop-price-preserved : goal.loop-price-preserved
loop-price-preserved g c =
    let prices = c.args.prices.now in
    let i = c.loop-price.price-index in
    let within : i < length (map price_fields prices) = omega (arith, length-map prices price_fields, c.loop-price-test.true) in
    let item = get_or_read prices i c.price-item.result c.loop-price-test.true c.price-item.is no_charge in
    let line : get_or (map price_fields prices) i [] ≡ price_fields c.price-item.result = get_or-map price_fields prices i no_charge [] c.loop-price-test.true ∙ ap price_fields (sym item) in
    record {
      text = line_put g.W.Write.contents (map price_fields prices) i (held c.args.w.now c.args.block.now) (held c.loop-price.w c.loop-price.block) (held c.put.new.w c.put.new.block) (price_fields c.price-item.result) c.deref.result.now within line
          (c.deref.ensures.0 ∙ c.price_line.ensures.text) c.loop-price.invariant.text c.in_ok-put.ensures;
      limits = λ k lt. elim (cases_eq k i) [
        | inl same ↦ rw same (subst IsCharge item c.price_line.ensures.limits)
        | inr other ↦ c.loop-price.invariant.limits k (omega arith)
      ];
    }
