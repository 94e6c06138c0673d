use Rattle.std.proofs.Common.{refl, inl, inr}
use Rattle.std.proofs.lemmas.Result.{err_from_is_err_and}
use Rattle.bx_devices.specs.Devices.{reading_of}
use Rattle.bx_plan_commands.proofs.plan_files.check_named.Goals as goal

pub returns-in_err-input-clause-refused : goal.returns-in_err-input-clause-refused
returns-in_err-input-clause-refused g c =
    let p = err_from_is_err_and c.from_residual.result c.from_residual.ensures.1 in
    rw (p.1, p.2) (inl (c.in_err-input.ensures.unopened, refl))

pub returns-clause-checked : goal.returns-clause-checked
returns-clause-checked g c = record {
  input = reading_of g.I.Reader.Read.remaining c.in_ok-input.input c.check_against.new.input;
  of_name = record { given = c.in_ok-input.ensures.opened; unfaulted = c.in_ok-input.ensures.unfaulted; unread = c.in_ok-input.ensures.unread };
  total = c.in_ok-_total._total;
  proved = c.in_ok-_total.ensures.proved;
  written = c.in_ok-_total.ensures.written;
}

pub returns-in_err-_total-clause-refused : goal.returns-in_err-_total-clause-refused
returns-in_err-_total-clause-refused g c =
    let p = err_from_is_err_and c.from_residual-in_err-_total.result c.from_residual-in_err-_total.ensures.1 in
    rw (p.1, p.2) (inr (record {
      input = reading_of g.I.Reader.Read.remaining c.in_ok-input.input c.check_against.new.input;
      of_name = record { given = c.in_ok-input.ensures.opened; unfaulted = c.in_ok-input.ensures.unfaulted; unread = c.in_ok-input.ensures.unread };
      refused = c.in_err-_total.ensures.refused;
    }))
