use Rattle.std.proofs.Common.{inl, ◌∙◌}
use Rattle.bx_office_world.proofs.serving.tell_batch.Goals as goal

pub returns-in-Ok : goal.returns-in-Ok
returns-in-Ok c =
    let r = c.reply_of.ensures in
    record {
      reply = c.reply_of.result;
      is = inl (r.0, r.1, r.2, r.3 ∙ c.deref.ensures.value ∙ c.in-Ok.ensures);
      answered = c.answer.ensures.answered;
    }
