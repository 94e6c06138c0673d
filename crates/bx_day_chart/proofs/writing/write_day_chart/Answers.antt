use Rattle.std.proofs.Common.{ℕ, List, subst}
use Rattle.std.specs.Io.KnownBytes.{Appends}
use Rattle.bx_devices.specs.Octets.{AppendsPrefix}
use Rattle.bx_devices.specs.Watching.{device_of}
use Rattle.bx_day_chart.proofs.writing.write_day_chart.Goals as goal

pub returns-in-Ok-write_octets-clause-drawn : goal.returns-in-Ok-write_octets-clause-drawn
returns-in-Ok-write_octets-clause-drawn g c = record {
  text = c.in-Ok.picture.text.items;
  is = c.in-Ok.ensures;
  written = subst (λ (t : List ℕ). Appends (g.W.Write.contents (device_of c.args.output.now)) (g.W.Write.contents (device_of c.write_octets.new.w)) t) c.text.ensures.value c.in-Ok-write_octets.ensures.ok;
}

pub returns-clause-refused : goal.returns-clause-refused
returns-clause-refused g c = (
  c.in-Err.ensures.err,
  record {
    text = c.in-Ok.picture.text.items;
    is = c.in-Ok.ensures;
    written = subst (λ (t : List ℕ). AppendsPrefix (g.W.Write.contents (device_of c.args.output.now)) (g.W.Write.contents (device_of c.write_octets.new.w)) t) c.text.ensures.value c.in-Err.ensures.prefix;
  },
)
