use Rattle.std.proofs.Common.{◌++◌, arith}
use Rattle.std.proofs.lemmas.Result.{err_from_is_err_and}
use Rattle.bx_base.specs.PlanParts.{IsPlan, parts_of}
use Rattle.bx_planfile.proofs.WritingSteps.{rows_text, count_text, prices_text, foot_text, following, failing, in_text, on_ok}
use Rattle.bx_planfile.proofs.writing.put_plan.Goals as goal

pub returns-in_err-put_head-clause-text : goal.returns-in_err-put_head-clause-text
returns-in_err-put_head-clause-text g c =
    let plan = c.args.plan.now in
    let r = err_from_is_err_and c.from_residual.result c.from_residual.ensures.1 in
    rw r.1 (in_text plan (failing (rows_text plan ++ (count_text plan ++ (prices_text plan ++ foot_text plan))) c.in_err-put_head.ensures.text))

pub returns-in_err-put_bookings-clause-text : goal.returns-in_err-put_bookings-clause-text
returns-in_err-put_bookings-clause-text g c =
    let plan = c.args.plan.now in
    let r = err_from_is_err_and c.from_residual-in_err-put_bookings.result c.from_residual-in_err-put_bookings.ensures.1 in
    rw r.1 (in_text plan (following c.in_ok-put_head.ensures.text (failing (count_text plan ++ (prices_text plan ++ foot_text plan)) c.in_err-put_bookings.ensures.text)))

pub returns-in_err-put-clause-text : goal.returns-in_err-put-clause-text
returns-in_err-put-clause-text g c =
    let plan = c.args.plan.now in
    let count = rw (c.deref.ensures.0, c.named_line.ensures, c.len.ensures, plan.prices.ok.0) at c.in_err-put.ensures in
    let r = err_from_is_err_and c.from_residual-in_err-put.result c.from_residual-in_err-put.ensures.1 in
    rw r.1 (in_text plan (following c.in_ok-put_head.ensures.text (following c.in_ok-put_bookings.ensures.text (failing (prices_text plan ++ foot_text plan) count))))

pub returns-in_err-put_prices-clause-text : goal.returns-in_err-put_prices-clause-text
returns-in_err-put_prices-clause-text g c =
    let plan = c.args.plan.now in
    let count = rw (c.deref.ensures.0, c.named_line.ensures, c.len.ensures, plan.prices.ok.0) at c.in_ok-put.ensures in
    let prices = rw c.deref-2.ensures.value at c.in_err-put_prices.ensures.text in
    let r = err_from_is_err_and c.from_residual-in_err-put_prices.result c.from_residual-in_err-put_prices.ensures.1 in
    rw r.1 (in_text plan (following c.in_ok-put_head.ensures.text (following c.in_ok-put_bookings.ensures.text (following count (failing (foot_text plan) prices)))))

pub returns-clause-text : goal.returns-clause-text
returns-clause-text g c =
    let plan = c.args.plan.now in
    let count = rw (c.deref.ensures.0, c.named_line.ensures, c.len.ensures, plan.prices.ok.0) at c.in_ok-put.ensures in
    let prices = rw c.deref-2.ensures.value at c.in_ok-put_prices.ensures.text in
    in_text plan (following c.in_ok-put_head.ensures.text (following c.in_ok-put_bookings.ensures.text (following count (following prices c.put_foot.ensures))))

pub returns-clause-limits : goal.returns-clause-limits
returns-clause-limits g c =
    let plan = c.args.plan.now in
    on_ok c.put_foot.result (IsPlan (parts_of plan)) (record {
      rows = c.put_head.ensures.rows;
      channels = c.put_head.ensures.channels;
      one_each = omega (arith, plan.assigned.ok.0, plan.one_each);
      assigned = c.in_ok-put_bookings.ensures.limits;
      few_prices = omega (arith, plan.prices.ok.0, plan.few_prices);
      prices = rw c.deref-2.ensures.value at c.in_ok-put_prices.ensures.limits;
      total = plan.total_limit;
    })
