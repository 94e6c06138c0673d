use Rattle.std.proofs.Common.{rules, true, inl, inr, refl}
use Rattle.bx_events.specs.Events.{Tick}
use Rattle.bx_day.specs.Course.{exchange_next, exchange_text}
use Rattle.bx_frames.proofs.Hearing.{one_told, one_failed}
use Rattle.bx_sessions.proofs.session.Session.open_turn.Goals as goal

pub returns-in-Ok-clause-opened : goal.returns-in-Ok-clause-opened
returns-in-Ok-clause-opened g c = λ _. record {
  day = c.in-Ok.ensures.day;
  written = one_told exchange_next exchange_text g.W.Write.contents c.args.writer.now c.write_tick.new.writer (g.E.End.day c.args.exchange.now) Tick true c.in-Ok.ensures.written;
  answer = inl refl;
}

pub returns-in-Err-clause-opened : goal.returns-in-Err-clause-opened
returns-in-Err-clause-opened g c = λ _. record {
  day = c.in-Err.ensures.day;
  written = one_failed exchange_next exchange_text g.W.Write.contents c.args.writer.now c.write_tick.new.writer (g.E.End.day c.args.exchange.now) Tick c.in-Err.field-0 c.in-Err.ensures.written;
  answer = inr refl;
}

pub returns-in-Ok-clause-turn : goal.returns-in-Ok-clause-turn
returns-in-Ok-clause-turn g c = search rules steps 60000
