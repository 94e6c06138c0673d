use Rattle.std.proofs.Common.{ℕ, true, List, subst}
use Rattle.bx_events.specs.Events.{Event}
use Rattle.bx_day.specs.Course.{exchange_next, exchange_text}
use Rattle.bx_frames.specs.Heard.{Went, no_tick}
use Rattle.bx_frames.specs.Talks.{turn_in}
use Rattle.bx_frames.specs.declared.frame.Receiver.TheVariants.{Exchange}
use Rattle.bx_frames.proofs.ReadAnswers.{gave, faulty}
use Rattle.bx_sessions.proofs.ExchangeTurns.{as_turned}
use Rattle.bx_sessions.proofs.session.Session.close_turn.Goals as goal

pub returns-in-Ok-clause-heard : goal.returns-in-Ok-clause-heard
returns-in-Ok-clause-heard g c = λ _.
    let e = c.args.exchange.now in
    let e1 = c.hear_turn.new.end in
    subst (λ (n : ℕ). (heard : Went Exchange exchange_next exchange_text (turn_in Exchange n 64) no_tick g.R.Read.remaining g.W.Write.contents c.args.reader.now c.hear_turn.new.reader c.args.writer.now c.hear_turn.new.writer (g.E.End.day e) (g.E.End.day e1) (gave true)) × g.E.End.kept e heard.events e1)
    c.turn-moment.ensures.value (as_turned (λ (events : List Event). g.E.End.kept e events e1) c.in-Ok.field-0 c.in-Ok.ensures.far c.in-Ok.ensures.went)

pub returns-in-Err-clause-heard : goal.returns-in-Err-clause-heard
returns-in-Err-clause-heard g c = λ _.
    let e = c.args.exchange.now in
    let e1 = c.hear_turn.new.end in
    subst (λ (n : ℕ). (heard : Went Exchange exchange_next exchange_text (turn_in Exchange n 64) no_tick g.R.Read.remaining g.W.Write.contents c.args.reader.now c.hear_turn.new.reader c.args.writer.now c.hear_turn.new.writer (g.E.End.day e) (g.E.End.day e1) (faulty c.in-Err.fault)) × g.E.End.kept e heard.events e1)
    c.turn-moment.ensures.value c.in-Err.ensures.went
