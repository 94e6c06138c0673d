use Rattle.std.proofs.Common.{◌≤◌, ◌∙◌, length, subst, sym, arith}
use Rattle.std.proofs.lemmas.Result.{err_from_is_err_and}
use Rattle.std.proofs.lemmas.Bool.{ne_eqb}
use Rattle.bx_devices.specs.Watching.{device_of}
use Rattle.bx_journal.specs.Taking.{TakesPart}
use Rattle.bx_journal.proofs.Takings.{octet_then, line_done, ends_here, stops_here, skipped_line, at_ok, at_err}
use Rattle.bx_journal.proofs.line_reading.next_line.Goals as goal

pub returns-then-octet-eq10-clause-line : goal.returns-then-octet-eq10-clause-line
returns-then-octet-eq10-clause-line g c =
    let remaining = g.R.Read.remaining in
    line_done (remaining (device_of c.args.device.now)) (remaining (device_of c.loop-pieces.device)) (remaining (device_of c.next_octet.new.device)) c.args.pieces.now c.loop-pieces.pieces c.next_octet.new.self
    c.loop-pieces.line.items c.in-Some.octet c.loop-pieces.invariant.part (rw c.in-Some.is at c.in_ok-octet.ensures.octet) c.if-octet-eq10.true

pub returns-then-is_err-clause-line : goal.returns-then-is_err-clause-line
returns-then-is_err-clause-line g c =
    let remaining = g.R.Read.remaining in
    let octet = c.in-Some.octet in
    let xs = c.loop-pieces.line.items in
    let part = octet_then (remaining (device_of c.args.device.now)) (remaining (device_of c.loop-pieces.device)) (remaining (device_of c.next_octet.new.device)) c.args.pieces.now c.loop-pieces.pieces c.next_octet.new.self
    xs octet c.loop-pieces.invariant.part (rw c.in-Some.is at c.in_ok-octet.ensures.octet) (ne_eqb octet 10 c.if-octet-eq10.false) in
    let full = at_err c.try_push.result c.if-is_err.ensures.negation c.try_push.ensures.full in
    let few : 526 ≤ length xs = omega (arith, full) in
    skipped_line (remaining (device_of c.args.device.now)) (remaining (device_of c.next_octet.new.device)) (remaining (device_of c.skip_line.new.device)) c.args.pieces.now c.next_octet.new.self c.skip_line.new.pieces
    _ xs _ octet c.skip_line.result part few c.skip_line.ensures.skipped

pub loop-pieces-preserved : goal.loop-pieces-preserved
loop-pieces-preserved g c =
    let remaining = g.R.Read.remaining in
    let octet = c.in-Some.octet in
    let xs = c.loop-pieces.line.items in
    let part = octet_then (remaining (device_of c.args.device.now)) (remaining (device_of c.loop-pieces.device)) (remaining (device_of c.next_octet.new.device)) c.args.pieces.now c.loop-pieces.pieces c.next_octet.new.self
    xs octet c.loop-pieces.invariant.part (rw c.in-Some.is at c.in_ok-octet.ensures.octet) (ne_eqb octet 10 c.if-octet-eq10.false) in
    let pushed = at_ok c.try_push.result c.if-is_err.ensures.negation c.try_push.ensures.ok in
    record {
      part = subst (TakesPart (remaining (device_of c.args.device.now)) (remaining (device_of c.next_octet.new.device)) c.args.pieces.now c.next_octet.new.self) (sym pushed) part;
      unfaulted = c.in_ok-octet.ensures.unfaulted ∙ c.loop-pieces.invariant.unfaulted;
    }

pub returns-in-None-clause-line : goal.returns-in-None-clause-line
returns-in-None-clause-line g c =
    let remaining = g.R.Read.remaining in
    ends_here (remaining (device_of c.args.device.now)) (remaining (device_of c.loop-pieces.device)) (remaining (device_of c.next_octet.new.device)) c.args.pieces.now c.loop-pieces.pieces c.next_octet.new.self
    c.loop-pieces.line.items c.loop-pieces.invariant.part (rw c.in-None.is at c.in_ok-octet.ensures.octet)

pub returns-in_err-octet-clause-line : goal.returns-in_err-octet-clause-line
returns-in_err-octet-clause-line g c =
    let p = err_from_is_err_and c.from_residual.result c.from_residual.ensures.1 in
    let remaining = g.R.Read.remaining in
    rw p.1
    (stops_here (remaining (device_of c.args.device.now)) (remaining (device_of c.loop-pieces.device)) (remaining (device_of c.next_octet.new.device)) c.args.pieces.now c.loop-pieces.pieces c.next_octet.new.self
    _ c.loop-pieces.line.items c.loop-pieces.invariant.part c.in_err-octet.ensures.octet)
