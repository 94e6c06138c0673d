use Rattle.std.proofs.Common.{◌∙◌, arith}
use Rattle.std.proofs.Math.Bool.{or-false}
use Rattle.bx_devices.specs.Watching.{is_faulted}
use Rattle.bx_devices.proofs.OctetLemmas.{length-from_place}
use Rattle.bx_frames.proofs.OctetSteps.{read_within, Consumes-next, part_read}
use Rattle.bx_frames.proofs.octet_reading.read_exact_octets.Goals as goal

pub loop-at-preserved : goal.loop-at-preserved
loop-at-preserved g c =
    let buf = c.loop-at.buf in
    let part = c.read.new.buf in
    let bound = c.in-Ok.ensures.bound.0 in
    record {
      within = read_within buf part c.loop-at.at c.in-Ok.n c.loop-at.invariant.within bound;
      read = Consumes-next buf part c.loop-at.at c.in-Ok.n c.loop-at.invariant.within bound _ _ _ c.loop-at.invariant.read c.in-Ok.ensures.bytes.0;
      unfaulted = c.in-Ok.ensures.faulted ∙ or-false (is_faulted c.loop-at.r) ∙ c.loop-at.invariant.unfaulted;
      counted = omega (arith, c.in-Ok.ensures.reads, c.loop-at.invariant.counted, c.loop-at.r.counted);
    }

pub returns-in-Err-clause-part : goal.returns-in-Err-clause-part
returns-in-Err-clause-part g c =
    let l = c.loop-at in
    part_read l.buf c.read.new.buf l.at c.loop-at-test.true (c.read.auto.buf ∙ length-from_place l.buf l.at) _ _ _ l.invariant.read c.in-Err.ensures.bytes
