use Rattle.std.proofs.Common.{inl, inr, refl}
use Rattle.std.proofs.lemmas.Result.{err_from_is_err_and}
use Rattle.bx_devices.specs.Devices.{writing_of}
use Rattle.bx_audit.specs.Inside.{AreRecordsUnwritten}
use Rattle.bx_audit.specs.Unrecorded.{IsRecordsCommandRefusal}
use Rattle.bx_audit.proofs.Handed.{on_both, if_err}
use Rattle.bx_audit.proofs.recorded_files.record_files.Goals as goal

pub returns-in_err-clock-clause-refused : goal.returns-in_err-clock-clause-refused
returns-in_err-clock-clause-refused g c =
    let p = err_from_is_err_and c.from_residual.result c.from_residual.ensures.1 in
    rw (p.1, p.2)
    (inl (inl c.in_err-clock.ensures.none, refl))

pub returns-in_err-day-clause-refused : goal.returns-in_err-day-clause-refused
returns-in_err-day-clause-refused g c =
    let p = err_from_is_err_and c.from_residual-in_err-day.result c.from_residual-in_err-day.ensures.1 in
    rw (p.1, p.2)
    (inl (inr ((c.in_ok-clock.clock, c.in_ok-clock.ensures.clock), c.in_err-day.ensures.untold), refl))

pub returns-clause-done : goal.returns-clause-done
returns-clause-done g c =
    let day = c.in_ok-day.day in
    on_both _ _ _ c.write_and_tell.result
    (λ written told. (day.exchange, record { channels = day.channels; told = c.in_ok-day.ensures.told; clock = c.in_ok-clock.clock; clock_of = c.in_ok-clock.ensures.clock; written = written }, told)) c.write_and_tell.ensures.recorded c.write_and_tell.ensures.told

pub returns-clause-refused : goal.returns-clause-refused
returns-clause-refused g c =
    let day = c.in_ok-day.day in
    if_err (AreRecordsUnwritten c.in_ok-clock.clock day.exchange.entries (writing_of g.W.Write.contents c.args.output.now c.write_and_tell.new.output)) (IsRecordsCommandRefusal (g.I.Inputs.gives c.args.inputs.now) c.args.request g.W.Write.contents c.args.output.now c.write_and_tell.new.output) c.write_and_tell.result
    (λ fault un. inr (record {
      day = day.exchange;
      channels = day.channels;
      told = c.in_ok-day.ensures.told;
      clock = c.in_ok-clock.clock;
      clock_of = c.in_ok-clock.ensures.clock;
      cause = un.cause;
      answered = un.answered;
      refused = un.refused;
    })) c.write_and_tell.ensures.refused
