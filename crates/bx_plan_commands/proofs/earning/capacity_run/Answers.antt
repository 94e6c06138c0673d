use Rattle.std.proofs.Common.{rules, ℕ, List, subst}
use Rattle.std.specs.Io.KnownBytes.{Appends}
use Rattle.bx_devices.specs.Octets.{AppendsPrefix}
use Rattle.bx_plan_commands.proofs.earning.capacity_run.Goals as goal

pub returns-in-Err-clause-refused : goal.returns-in-Err-clause-refused
returns-in-Err-clause-refused g c = (c.in-Err.ensures.err, search rules steps 1000000)

pub returns-in_default-clause-refused : goal.returns-in_default-clause-refused
returns-in_default-clause-refused g c = ((c.in-Ok.bookings, c.in-Ok.ensures.ok), search rules steps 1000000)

pub returns-in-Ok-write_octets-clause-tabled : goal.returns-in-Ok-write_octets-clause-tabled
returns-in-Ok-write_octets-clause-tabled g c = record {
  rows = c.in-Ok.bookings;
  read = c.in-Ok.ensures.ok;
  text = c.in-Ok-table_of.text.items;
  table = c.in-Ok-table_of.ensures;
  written = subst (λ (text : List ℕ). Appends (g.W.Write.contents c.args.output.now.inner) (g.W.Write.contents c.write_octets.new.w.inner) text) c.deref.ensures.value c.in-Ok-write_octets.ensures.ok;
}

pub returns-clause-refused : goal.returns-clause-refused
returns-clause-refused g c = (
  c.in-Err-write_octets.ensures.err,
  record {
    rows = c.in-Ok.bookings;
    read = c.in-Ok.ensures.ok;
    text = c.in-Ok-table_of.text.items;
    table = c.in-Ok-table_of.ensures;
    written = subst (λ (text : List ℕ). AppendsPrefix (g.W.Write.contents c.args.output.now.inner) (g.W.Write.contents c.write_octets.new.w.inner) text) c.deref.ensures.value c.in-Err-write_octets.ensures.prefix;
  },
)
