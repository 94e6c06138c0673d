use Rattle.std.proofs.lemmas.Grind.{common_steps}
use Rattle.std.proofs.Common.{rules, ◌≤◌, ◌+◌, arith, refl, length-take, length}
use Rattle.bx_devices.proofs.OctetLemmas.{ReadsPrefix-next}
use Rattle.bx_devices.proofs.octets.read_octets.Goals as goal

pub returns-then-len-n-gt-MAX_OCTETS-clause-too_long :
    goal.returns-then-len-n-gt-MAX_OCTETS-clause-too_long
returns-then-len-n-gt-MAX_OCTETS-clause-too_long g c = λ _.
    let part : length c.read.new.buf ≤ c.min-most.result = omega (arith, c.read.auto.buf, length-take c.min-most.result c.loop-buf.buf) in
    ReadsPrefix-next _ _ _ c.loop-buf.octets.items c.read.new.buf c.in-Ok.n 4194305 c.loop-buf.invariant.read c.in-Ok.ensures.bytes.0 c.in-Ok.ensures.bound.0 (omega (arith, c.in-Ok.ensures.bound.0))

pub returns-then-is_err-clause-memory : goal.returns-then-is_err-clause-memory
returns-then-is_err-clause-memory g c = λ _.
    let part : length c.read.new.buf ≤ c.min-most.result = omega (arith, c.read.auto.buf, length-take c.min-most.result c.loop-buf.buf) in (
      length c.loop-buf.octets.items + c.in-Ok.n,
      omega (arith, c.if-len-n-gt-MAX_OCTETS.false),
      ReadsPrefix-next _ _ _ c.loop-buf.octets.items c.read.new.buf c.in-Ok.n _ c.loop-buf.invariant.read c.in-Ok.ensures.bytes.0 c.in-Ok.ensures.bound.0 refl,
    )

pub returns-then-is_err-clause-failed : goal.returns-then-is_err-clause-failed
returns-then-is_err-clause-failed g c = grind (arith, common_steps) steps 60000

pub returns-in-Ok-eq0-clause-too_long : goal.returns-in-Ok-eq0-clause-too_long
returns-in-Ok-eq0-clause-too_long g c = grind (arith, common_steps) steps 60000

pub loop-buf-preserved : goal.loop-buf-preserved
loop-buf-preserved g c = record {
  size = grind (arith, common_steps) steps 200000;
  fits = grind (arith, common_steps) steps 200000;
  read = grind (arith, common_steps);
  unfaulted = search rules steps 200000;
  each = grind (arith, common_steps) steps 200000;
}
