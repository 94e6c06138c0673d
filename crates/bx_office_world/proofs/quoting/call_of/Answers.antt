use Rattle.std.proofs.Common.{rules, inl, inr}
use Rattle.std.proofs.lemmas.Result.{err_from_is_err_and}
use Rattle.bx_book.specs.Rows.{span_of}
use Rattle.bx_office_world.proofs.CallTimes.{no_call}
use Rattle.bx_office_world.proofs.quoting.call_of.Goals as goal

pub returns-in_err-start-clause-none : goal.returns-in_err-start-clause-none
returns-in_err-start-clause-none c =
    let p = no_call c.args.query.now (span_of c.args.day.now) c.in_err-start.field-0.0 (inl c.in_err-start.ensures.none) in
    search rules steps 1000000

pub returns-in_err-end-clause-none : goal.returns-in_err-end-clause-none
returns-in_err-end-clause-none c =
    let p = no_call c.args.query.now (span_of c.args.day.now) c.in_err-end.field-0.0 (inr (c.in_ok-start.start, c.in_ok-start.ensures.second, c.in_err-end.ensures.none)) in
    let e = err_from_is_err_and c.from_residual-in_err-end.result c.from_residual-in_err-end.ensures.1 in
    rw (e.1, e.2) p
