use Rattle.std.proofs.Common.{inl, inr}
use Rattle.std.proofs.lemmas.Result.{err_from_is_err_and}
use Rattle.bx_live_commands.proofs.OpenOffices.{at_hand_of}
use Rattle.bx_journal_files.proofs.Results.{if_err}
use Rattle.bx_live_commands.proofs.live_files.run_live_day.Goals as goal

pub returns-in_err-socket-clause-stopped : goal.returns-in_err-socket-clause-stopped
returns-in_err-socket-clause-stopped g c =
    let p = err_from_is_err_and c.from_residual-in_err-socket.result c.from_residual-in_err-socket.ensures.1 in
    let there = at_hand_of c.args.request c.in_ok-hours.hours c.in_ok-opening.opening c.in_ok-hours.ensures.hours c.in_ok-opening.ensures.opened in
    rw (p.1, p.2) (inr (inr (inl (there, c.in_err-socket.ensures))))

pub returns-in_err-premises-clause-stopped : goal.returns-in_err-premises-clause-stopped
returns-in_err-premises-clause-stopped g c =
    let p = err_from_is_err_and c.from_residual-in_err-premises.result c.from_residual-in_err-premises.ensures.1 in
    let there = at_hand_of c.args.request c.in_ok-hours.hours c.in_ok-opening.opening c.in_ok-hours.ensures.hours c.in_ok-opening.ensures.opened in
    rw (p.1, p.2) (inr (inr (inr (inl (there, c.in_err-premises.ensures.wanted, c.in_err-premises.ensures.refused)))))

pub returns-clause-stopped : goal.returns-clause-stopped
returns-clause-stopped g c =
    let there = at_hand_of c.args.request c.in_ok-hours.hours c.in_ok-opening.opening c.in_ok-hours.ensures.hours c.in_ok-opening.ensures.opened in
    if_err c.run_on_socket.result _ _ (λ fault why. inr (inr (inr (inr (there, why c.in_ok-hours.ensures.hours c.in_ok-opening.ensures.opened c.in_ok-premises.ensures.opened))))) c.run_on_socket.ensures.stopped
