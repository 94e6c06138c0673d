use Rattle.std.proofs.lemmas.Result.{err_from_is_err_and}
use Rattle.bx_devices.specs.Devices.{reading_of}
use Rattle.bx_devices.specs.Watching.{device_of}
use Rattle.bx_day_openings.proofs.Scripts.{untold_script, no_far_end}
use Rattle.bx_day_openings.proofs.openings.far_end_of.Goals as goal

pub returns-clause-opened : goal.returns-clause-opened
returns-clause-opened g c =
    record { script = c.in_ok-script.script; read = untold_script (g.I.Reader.Read.remaining (device_of c.in_ok-input.input)) c.in_ok-script.script c.in_ok-script.ensures.found; opens = c.new.ensures }

pub returns-in_err-script-clause-refused : goal.returns-in_err-script-clause-refused
returns-in_err-script-clause-refused g c =
    let p = err_from_is_err_and c.from_residual-in_err-script.result c.from_residual-in_err-script.ensures.1 in
    rw (p.1, p.2)
    (no_far_end c.args.name.now (reading_of g.I.Reader.Read.remaining c.in_ok-input.input c.script_from.new.input) c.in_err-script.field-0.0 c.in_err-script.ensures.none)
