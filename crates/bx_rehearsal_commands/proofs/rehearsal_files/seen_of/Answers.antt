use Rattle.std.proofs.Common.{inl, inr}
use Rattle.std.proofs.lemmas.Result.{err_from_is_err_and}
use Rattle.bx_rehearsal_commands.proofs.rehearsal_files.seen_of.Goals as goal

pub returns-in_err-first-clause-refused : goal.returns-in_err-first-clause-refused
returns-in_err-first-clause-refused c =
    let p = err_from_is_err_and c.from_residual.result c.from_residual.ensures.1 in
    rw (p.1, p.2) (inl c.in_err-first.ensures.refused)

pub returns-in_err-clock-clause-refused : goal.returns-in_err-clock-clause-refused
returns-in_err-clock-clause-refused c =
    let p = err_from_is_err_and c.from_residual-in_err-clock.result c.from_residual-in_err-clock.ensures.1 in
    rw (p.1, p.2) (inr ((_, c.in_ok-first.ensures.first), c.in_err-clock.ensures.none))
