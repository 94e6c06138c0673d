use Rattle.std.proofs.Common.{inl, inr, subst, sym, ◌∙◌, ℕ, List}
use Rattle.bx_day_chart.specs.Sights.{sight_of}
use Rattle.bx_office_door.proofs.Standing.{is_there}
use Rattle.bx_office_world.specs.Desk.{IsUnanswered}
use Rattle.bx_office_world.proofs.Replies.{written_as}
use Rattle.bx_office_world.proofs.serving.Desk.tell.Goals as goal

pub returns-in-Ok : goal.returns-in-Ok
returns-in-Ok c = inr (record {
  client = c.in-Some.client.now;
  there = c.in-Some.ensures;
  reply = c.reply_of.result;
  said = inl (record {
    status = c.reply_of.ensures.0 ∙ c.status_at-status.ensures;
    allowed = c.reply_of.ensures.2;
    written = written_as c.args.self.now.opened.now c.args.exchange.now _ _ c.args.self.now.figures (sight_of c.args.self.now.sight) _ _ c.args.route _ _ _ _ c.deref.ensures.value c.query.ensures (sym c.reply_of.ensures.1) (sym (c.reply_of.ensures.3 ∙ c.deref-in-Ok.ensures.value)) c.in-Ok.ensures.written;
  });
  answered = is_there c.args.number c.reply_of.result _ _ c.in-Some.client.now c.in-Some.ensures c.answer.ensures.answered;
})

pub returns-in-Err : goal.returns-in-Err
returns-in-Err c = inr (record {
  client = c.in-Some.client.now;
  there = c.in-Some.ensures;
  reply = c.refuse.ensures.reply;
  said = inr (
    c.in-Err.why,
    subst (λ (query : List ℕ). IsUnanswered c.args.self.now.opened.now c.args.exchange.now query c.args.route c.in-Err.why) c.query.ensures c.in-Err.ensures.none,
    rw (← c.status_of.ensures, ← c.answer_words.ensures) c.refuse.ensures.is,
  );
  answered = is_there c.args.number c.refuse.ensures.reply _ _ c.in-Some.client.now c.in-Some.ensures c.refuse.ensures.answered;
})
