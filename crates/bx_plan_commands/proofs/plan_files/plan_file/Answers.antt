use Rattle.std.proofs.Common.{inr, refl}
use Rattle.std.proofs.lemmas.Result.{err_from_is_err_and}
use Rattle.bx_base.specs.PlanParts.{parts_of}
use Rattle.bx_devices.specs.Devices.{reading_of}
use Rattle.bx_plan_commands.proofs.plan_files.plan_file.Goals as goal

pub returns-in_err-input-clause-refused : goal.returns-in_err-input-clause-refused
returns-in_err-input-clause-refused g c =
    let p = err_from_is_err_and c.from_residual-in_err-input.result c.from_residual-in_err-input.ensures.1 in
    rw (p.1, p.2) (inr ((c.in_ok-channels.channels, c.in_ok-channels.day, c.in_ok-channels.ensures.named), c.in_err-input.ensures.unopened), refl)

pub returns-in-Ok-clause-planned : goal.returns-in-Ok-clause-planned
returns-in-Ok-clause-planned g c = record {
  planned = record {
    given = record {
      channels = c.in_ok-channels.channels;
      day = c.in_ok-channels.day;
      named = c.in_ok-channels.ensures.named;
      input = reading_of g.I.Reader.Read.remaining c.in_ok-input.input c.plan_run.new.input;
      of_name = record { given = c.in_ok-input.ensures.opened; unfaulted = c.in_ok-input.ensures.unfaulted; unread = c.in_ok-input.ensures.unread };
    };
    plan = parts_of c.in-Ok.plan;
    run = c.in-Ok.ensures.planned;
  };
  noted = c.note_too_short.ensures;
}

pub returns-clause-refused : goal.returns-clause-refused
returns-clause-refused g c = (
  record { channels = c.in_ok-channels.channels; day = c.in_ok-channels.day; named = c.in_ok-channels.ensures.named; input = reading_of g.I.Reader.Read.remaining c.in_ok-input.input c.plan_run.new.input; of_name = record { given = c.in_ok-input.ensures.opened; unfaulted = c.in_ok-input.ensures.unfaulted; unread = c.in_ok-input.ensures.unread } },
  c.in-Err.ensures.refused,
)
