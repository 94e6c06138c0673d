use Rattle.std.proofs.Common.{rules, ◌∙◌, arith}
use Rattle.bx_devices.proofs.OctetLemmas.{Appends-next, takes_some, length-from_place}
use Rattle.bx_devices.proofs.octets.write_octets.Goals as goal

pub loop-at-preserved : goal.loop-at-preserved
loop-at-preserved g c = record {
  within = omega (arith, length-from_place c.args.bytes.now c.loop-at.at, c.in-Ok.ensures.bound);
  written = Appends-next _ _ _ _ c.loop-at.at c.in-Ok.n c.loop-at.invariant.written c.in-Ok.ensures.bytes;
  unfaulted = c.in-Ok.ensures.faulted ∙ takes_some _ _ _ c.in-Ok.n-test.1 ∙ c.loop-at.invariant.unfaulted;
  reads = c.in-Ok.ensures.reads ∙ c.loop-at.invariant.reads;
}

pub returns-in-Ok-eq0-clause-ok : goal.returns-in-Ok-eq0-clause-ok
returns-in-Ok-eq0-clause-ok g c = search rules steps 60000

pub returns-in-Ok-eq0-clause-unfaulted : goal.returns-in-Ok-eq0-clause-unfaulted
returns-in-Ok-eq0-clause-unfaulted g c = search rules steps 60000
