use Rattle.std.proofs.Common.{inl, inr}
use Rattle.std.proofs.lemmas.Result.{err_from_is_err_and}
use Rattle.bx_far_commands.proofs.LineRuns.{line_day}
use Rattle.bx_far_commands.proofs.line_files.run_script_by_line.Goals as goal

pub returns-in_err-hours-clause-stopped : goal.returns-in_err-hours-clause-stopped
returns-in_err-hours-clause-stopped g c =
    let p = err_from_is_err_and c.from_residual.result c.from_residual.ensures.1 in
    rw (p.1, p.2) (inl c.in_err-hours.ensures.refused)

pub returns-in_err-far-clause-stopped : goal.returns-in_err-far-clause-stopped
returns-in_err-far-clause-stopped g c =
    let r = c.from_residual-in_err-far in
    let p = err_from_is_err_and r.result r.ensures.1 in
    rw (p.1, p.2) (inr (inl ((c.in_ok-hours.hours, c.in_ok-hours.ensures.hours), c.in_err-far.ensures.refused)))

pub returns-in_err-file-clause-stopped : goal.returns-in_err-file-clause-stopped
returns-in_err-file-clause-stopped g c =
    let r = c.from_residual-in_err-file in
    let p = err_from_is_err_and r.result r.ensures.1 in
    rw (p.1, p.2) (inr (inr (inl ((c.in_ok-hours.hours, c.in_ok-hours.ensures.hours), (c.in_ok-far.far, c.in_ok-far.ensures.opened), rw c.capture_asked.ensures at c.in_err-file.ensures.refused))))

pub returns-in_err-socket-clause-stopped : goal.returns-in_err-socket-clause-stopped
returns-in_err-socket-clause-stopped g c =
    let r = c.from_residual-in_err-socket in
    let p = err_from_is_err_and r.result r.ensures.1 in
    rw (p.1, p.2)
    (inr (inr (inr ((c.in_ok-hours.hours, c.in_ok-hours.ensures.hours), (c.in_ok-far.far, c.in_ok-far.ensures.opened), (c.in_ok-file.file, rw c.capture_asked.ensures at c.in_ok-file.ensures.opened), c.in_err-socket.ensures))))

pub returns-clause-ran : goal.returns-clause-ran
returns-clause-ran g c =
    line_day {H = g.row.H.Denot} g.H.File.Write.contents c.args.request c.in_ok-hours.hours c.in_ok-far.far c.in_ok-file.file c.new-wire.result c.turns_asked.result c.run_over_wire.result.0 c.run_over_wire.result.1
    c.in_ok-hours.ensures.hours c.in_ok-far.ensures.opened (rw c.capture_asked.ensures at c.in_ok-file.ensures.opened) c.turns_asked.ensures c.run_over_wire.ensures
