use Rattle.std.proofs.Common.{ℕ, true, false, [], ◌∷◌, subst}
use Rattle.std.proofs.lemmas.Result.{err_from_is_err_and}
use Rattle.bx_events.specs.Events.{Tick}
use Rattle.bx_far.specs.Course.{far_next, far_text}
use Rattle.bx_frames.specs.Heard.{Went, no_tick}
use Rattle.bx_frames.specs.Talks.{turn_in}
use Rattle.bx_frames.specs.declared.frame.Receiver.TheVariants.{FarEnd}
use Rattle.bx_frames.proofs.ReadAnswers.{gave, faulty}
use Rattle.bx_link.proofs.FarTurns.{turn_stopped, day_over, turn_ticked, tick_failed}
use Rattle.bx_link.proofs.far_session.take_turn.Goals as goal

pub returns-then-not-goes_on : goal.returns-then-not-goes_on
returns-then-not-goes_on g c =
    let e = c.args.far.now in
    let e1 = c.hear_turn.new.end in
    let d = g.E.End.day e in
    let heard = subst (λ (n : ℕ). (heard : Went FarEnd far_next far_text (turn_in FarEnd n 64) no_tick g.R.Read.remaining g.W.Write.contents c.args.reader.now c.hear_turn.new.reader c.args.writer.now c.hear_turn.new.writer d (g.E.End.day e1) (gave false)) × g.E.End.kept e heard.events e1)
    c.turn-due.ensures.value (rw c.if-not-goes_on.true at c.in_ok-goes_on.ensures).went in
    (day_over g.R.Read.remaining g.W.Write.contents c.args.reader.now c.hear_turn.new.reader c.args.writer.now c.hear_turn.new.writer d (g.E.End.day e1) heard.0, heard.1)

pub returns-in_err-goes_on : goal.returns-in_err-goes_on
returns-in_err-goes_on g c =
    let p = err_from_is_err_and c.from_residual.result c.from_residual.ensures.1 in
    let e = c.args.far.now in
    let e1 = c.hear_turn.new.end in
    let d = g.E.End.day e in
    let heard = subst (λ (n : ℕ). (heard : Went FarEnd far_next far_text (turn_in FarEnd n 64) no_tick g.R.Read.remaining g.W.Write.contents c.args.reader.now c.hear_turn.new.reader c.args.writer.now c.hear_turn.new.writer d (g.E.End.day e1) (faulty c.in_err-goes_on.field-0.0)) × g.E.End.kept e heard.events e1)
    c.turn-due.ensures.value c.in_err-goes_on.ensures.went in
    rw (p.1, p.2) (turn_stopped g.R.Read.remaining g.W.Write.contents c.args.reader.now c.hear_turn.new.reader c.args.writer.now c.hear_turn.new.writer d (g.E.End.day e1) c.in_err-goes_on.field-0.0 heard.0, heard.1)

pub returns-in-Ok : goal.returns-in-Ok
returns-in-Ok g c =
    let e = c.args.far.now in
    let e1 = c.hear_turn.new.end in
    let e2 = c.write_tick.new.end in
    let d = g.E.End.day e in
    let heard = subst (λ (n : ℕ). (heard : Went FarEnd far_next far_text (turn_in FarEnd n 64) no_tick g.R.Read.remaining g.W.Write.contents c.args.reader.now c.hear_turn.new.reader c.args.writer.now c.hear_turn.new.writer d (g.E.End.day e1) (gave true)) × g.E.End.kept e heard.events e1)
    c.turn-due.ensures.value (rw c.if-not-goes_on.false at c.in_ok-goes_on.ensures).went in (
      turn_ticked g.R.Read.remaining g.W.Write.contents c.args.reader.now c.hear_turn.new.reader c.args.writer.now c.hear_turn.new.writer d (g.E.End.day e1) heard.0
          c.write_tick.new.writer (g.E.End.day e2) c.in-Ok.ensures.day c.in-Ok.ensures.written,
      g.met.E.End.keeps_on e e1 e2 heard.0.events (Tick ∷ []) heard.1 c.in-Ok.ensures.kept,
    )

pub returns-in-Err : goal.returns-in-Err
returns-in-Err g c =
    let e = c.args.far.now in
    let e1 = c.hear_turn.new.end in
    let e2 = c.write_tick.new.end in
    let d = g.E.End.day e in
    let heard = subst (λ (n : ℕ). (heard : Went FarEnd far_next far_text (turn_in FarEnd n 64) no_tick g.R.Read.remaining g.W.Write.contents c.args.reader.now c.hear_turn.new.reader c.args.writer.now c.hear_turn.new.writer d (g.E.End.day e1) (gave true)) × g.E.End.kept e heard.events e1)
    c.turn-due.ensures.value (rw c.if-not-goes_on.false at c.in_ok-goes_on.ensures).went in (
      tick_failed g.R.Read.remaining g.W.Write.contents c.args.reader.now c.hear_turn.new.reader c.args.writer.now c.hear_turn.new.writer d (g.E.End.day e1) heard.0
          c.write_tick.new.writer (g.E.End.day e2) c.in-Err.ensures.day c.in-Err.field-0 c.in-Err.ensures.written,
      g.met.E.End.keeps_on e e1 e2 heard.0.events (Tick ∷ []) heard.1 c.in-Err.ensures.kept,
    )
