use Rattle.std.proofs.Common.{◌≡◌, ◌++◌, ◌∷◌, ◌+◌, [], vec_len, arith, ap, ◌∙◌}
use Rattle.std.proofs.lemmas.Result.{err_from_is_err_and}
use Rattle.bx_planfile.specs.Reading.{read_line, read_price, read_prices}
use Rattle.bx_planfile.proofs.Loops.{no_prices, price_follows, price_line_fails, price_fails, prices_done, prices_grow, fails_from}
use Rattle.bx_planfile.proofs.Refusals.{line_never, price_never, not_memory}
use Rattle.bx_planfile.proofs.lists.prices_of.Goals as goal

pub loop-i-init : goal.loop-i-init
loop-i-init c = record {
  len = c.new-prices.ensures.len;
  so_far = λ m le. rw c.new-prices.ensures.items (no_prices c.args.n c.args.bytes.now m);
}

pub returns-in_err-fields-clause-value : goal.returns-in_err-fields-clause-value
returns-in_err-fields-clause-value c =
    let p = err_from_is_err_and c.from_residual.result c.from_residual.ensures.1 in
    let total = read_prices c.args.count c.args.n c.args.bytes.now in
    let line = rw c.from.ensures at c.in_err-fields.ensures in
    rw (p.1, p.2) (price_line_fails c.args.count c.loop-i.i c.args.n c.loop-i.rest.now c.loop-i.prices.items total (c.loop-i.invariant.so_far c.args.count (omega arith)) c.in_err-fields.field-0.0 c.loop-i-test.true
    (fails_from c.in_err-fields.field-0.0 (read_line (c.args.n + c.loop-i.i) c.loop-i.rest.now) line))

pub returns-in_err-fields-clause-memory : goal.returns-in_err-fields-clause-memory
returns-in_err-fields-clause-memory c = λ m. not_memory (line_never _ _) c.in_err-fields.ensures m c.from_residual.ensures.1

pub returns-in_err-price-clause-value : goal.returns-in_err-price-clause-value
returns-in_err-price-clause-value c =
    let p = err_from_is_err_and c.from_residual-in_err-price.result c.from_residual-in_err-price.ensures.1 in
    let total = read_prices c.args.count c.args.n c.args.bytes.now in
    let price = rw c.from.ensures at c.in_err-price.ensures in
    rw (p.1, p.2) (price_fails c.args.count c.loop-i.i c.args.n c.loop-i.rest.now c.loop-i.prices.items total (c.loop-i.invariant.so_far c.args.count (omega arith))
    c.in_ok-fields.fields c.in_ok-fields.after.now c.in_err-price.field-0.0 c.loop-i-test.true (rw c.from.ensures at c.in_ok-fields.ensures)
    (fails_from c.in_err-price.field-0.0 (read_price (c.args.n + c.loop-i.i) c.in_ok-fields.fields) price))

pub returns-in_err-price-clause-memory : goal.returns-in_err-price-clause-memory
returns-in_err-price-clause-memory c = λ m. not_memory (price_never _ _) c.in_err-price.ensures m c.from_residual-in_err-price.ensures.1

pub returns-then-is_err-clause-memory : goal.returns-then-is_err-clause-memory
returns-then-is_err-clause-memory c = λ m.
    prices_grow c.args.count c.loop-i.i c.args.n c.args.bytes.now c.loop-i.rest.now c.loop-i.prices.items c.loop-i.invariant.so_far
    c.in_ok-fields.fields c.in_ok-fields.after.now c.in_ok-price.price c.loop-i-test.true (rw c.from.ensures at c.in_ok-fields.ensures) (rw c.from.ensures at c.in_ok-price.ensures)

pub loop-i-preserved : goal.loop-i-preserved
loop-i-preserved c =
    let ok = c.if-is_err.ensures.negation in
    let items : c.push.new.self.items ≡ c.loop-i.prices.items ++ c.in_ok-price.price ∷ [] = rw ok at c.push.ensures.items in
    let len : vec_len c.push.new.self ≡ vec_len c.loop-i.prices + 1 = rw ok at c.push.ensures.len in
    record {
      len = len ∙ ap (λ n. n + 1) c.loop-i.invariant.len;
      so_far = λ m le. rw items (price_follows m c.loop-i.i c.args.n c.loop-i.rest.now c.loop-i.prices.items
          (read_prices m c.args.n c.args.bytes.now) (c.loop-i.invariant.so_far m (omega arith))
          c.in_ok-fields.fields c.in_ok-fields.after.now c.in_ok-price.price (omega arith)
          (rw c.from.ensures at c.in_ok-fields.ensures) (rw c.from.ensures at c.in_ok-price.ensures));
    }

pub returns-clause-value : goal.returns-clause-value
returns-clause-value c = prices_done c.args.count c.loop-i.i c.args.n c.loop-i.rest.now c.loop-i.prices.items (read_prices c.args.count c.args.n c.args.bytes.now) (c.loop-i.invariant.so_far c.args.count (omega arith)) c.loop-i-test.false
