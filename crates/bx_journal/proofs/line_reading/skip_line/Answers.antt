use Rattle.std.proofs.Common.{◌∷◌, [], ◌++◌, ◌∙◌}
use Rattle.std.proofs.lemmas.Result.{err_from_is_err_and}
use Rattle.std.proofs.lemmas.Bool.{ne_eqb}
use Rattle.bx_devices.specs.Watching.{device_of}
use Rattle.bx_journal.proofs.Takings.{octet_then, line_done, ends_here, stops_here}
use Rattle.bx_journal.proofs.line_reading.skip_line.Goals as goal

pub returns-then-octet-eq10-clause-skipped : goal.returns-then-octet-eq10-clause-skipped
returns-then-octet-eq10-clause-skipped g c =
    let remaining = g.R.Read.remaining in
    let so_far = c.loop-pieces.invariant.part in (
      so_far.0,
      line_done (remaining (device_of c.args.device.now)) (remaining (device_of c.loop-pieces.device)) (remaining (device_of c.next_octet.new.device)) c.args.pieces.now c.loop-pieces.pieces c.next_octet.new.self
          so_far.0 c.in-Some.octet so_far.1 (rw c.in-Some.is at c.in_ok-octet.ensures.octet) c.if-octet-eq10.true,
    )

pub loop-pieces-preserved : goal.loop-pieces-preserved
loop-pieces-preserved g c =
    let remaining = g.R.Read.remaining in
    let so_far = c.loop-pieces.invariant.part in
    let octet = c.in-Some.octet in
    record {
      part = (
        so_far.0 ++ octet ∷ [],
        octet_then (remaining (device_of c.args.device.now)) (remaining (device_of c.loop-pieces.device)) (remaining (device_of c.next_octet.new.device)) c.args.pieces.now c.loop-pieces.pieces c.next_octet.new.self
            so_far.0 octet so_far.1 (rw c.in-Some.is at c.in_ok-octet.ensures.octet) (ne_eqb octet 10 c.if-octet-eq10.false),
      );
      unfaulted = c.in_ok-octet.ensures.unfaulted ∙ c.loop-pieces.invariant.unfaulted;
    }

pub returns-in-None-clause-skipped : goal.returns-in-None-clause-skipped
returns-in-None-clause-skipped g c =
    let remaining = g.R.Read.remaining in
    let so_far = c.loop-pieces.invariant.part in
    ends_here (remaining (device_of c.args.device.now)) (remaining (device_of c.loop-pieces.device)) (remaining (device_of c.next_octet.new.device)) c.args.pieces.now c.loop-pieces.pieces c.next_octet.new.self
    so_far.0 so_far.1 (rw c.in-None.is at c.in_ok-octet.ensures.octet)

pub returns-in_err-octet-clause-skipped : goal.returns-in_err-octet-clause-skipped
returns-in_err-octet-clause-skipped g c =
    let p = err_from_is_err_and c.from_residual.result c.from_residual.ensures.1 in
    let remaining = g.R.Read.remaining in
    let so_far = c.loop-pieces.invariant.part in
    rw p.1
    (stops_here (remaining (device_of c.args.device.now)) (remaining (device_of c.loop-pieces.device)) (remaining (device_of c.next_octet.new.device)) c.args.pieces.now c.loop-pieces.pieces c.next_octet.new.self
    _ so_far.0 so_far.1 c.in_err-octet.ensures.octet)
