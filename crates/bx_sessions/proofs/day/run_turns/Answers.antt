use Rattle.std.proofs.Common.{◌≡◌, ◌+◌, ◌-◌, suc, arith}
use Rattle.std.proofs.lemmas.Result.{err_from_is_err_and}
use Rattle.bx_sessions.proofs.ExchangeTurns.{nothing_happened, talk_over, talk_not_opened, turn_over, turn_failed}
use Rattle.bx_sessions.proofs.day.run_turns.Goals as goal

pub returns-in_err-open_turn : goal.returns-in_err-open_turn
returns-in_err-open_turn g c =
    let l = c.loop-turn in
    let p = err_from_is_err_and c.from_residual.result c.from_residual.ensures.1 in
    let next : c.args.turns - l._turn ≡ suc (c.args.turns - (l._turn + 1)) = omega (arith, c.loop-turn-test.true) in
    let so_far = rw next at l.invariant.talked in
    rw (p.1, p.2)
    (talk_not_opened so_far.0 (c.in_err-open_turn.ensures.opened l.invariant.going_on), g.met.E.End.keeps_on _ _ _ _ _ so_far.1 (c.in_err-open_turn.ensures.kept l.invariant.going_on))

pub returns-in_err-close_turn : goal.returns-in_err-close_turn
returns-in_err-close_turn g c =
    let l = c.loop-turn in
    let p = err_from_is_err_and c.from_residual-in_err-close_turn.result c.from_residual-in_err-close_turn.ensures.1 in
    let next : c.args.turns - l._turn ≡ suc (c.args.turns - (l._turn + 1)) = omega (arith, c.loop-turn-test.true) in
    let so_far = rw next at l.invariant.talked in
    let heard = c.in_err-close_turn.ensures.heard c.in_ok-open_turn.ensures.closed in
    rw (p.1, p.2) (
      turn_failed so_far.0 (c.in_ok-open_turn.ensures.opened l.invariant.going_on) heard.0,
      g.met.E.End.keeps_on _ _ _ _ _ (g.met.E.End.keeps_on _ _ _ _ _ so_far.1 (c.in_ok-open_turn.ensures.kept l.invariant.going_on)) heard.1,
    )

pub loop-turn-preserved : goal.loop-turn-preserved
loop-turn-preserved g c =
    let l = c.loop-turn in
    let next : c.args.turns - l._turn ≡ suc (c.args.turns - (l._turn + 1)) = omega (arith, c.loop-turn-test.true) in
    let so_far = rw next at l.invariant.talked in
    let heard = c.in_ok-close_turn.ensures.heard c.in_ok-open_turn.ensures.closed in
    record {
      between = c.in_ok-close_turn.ensures.turn;
      going_on = c.in_ok-close_turn.ensures.closed;
      talked = (
        turn_over so_far.0 (c.in_ok-open_turn.ensures.opened l.invariant.going_on) heard.0,
        g.met.E.End.keeps_on _ _ _ _ _ (g.met.E.End.keeps_on _ _ _ _ _ so_far.1 (c.in_ok-open_turn.ensures.kept l.invariant.going_on)) heard.1,
      );
    }

pub returns : goal.returns
returns g c =
    let l = c.loop-turn in
    let none : c.args.turns - l._turn ≡ 0 = omega (arith, c.loop-turn-test.false) in
    let so_far = rw none at l.invariant.talked in
    (talk_over so_far.0, so_far.1)

pub loop-turn-init : goal.loop-turn-init
loop-turn-init g c =
    let e = c.args.exchange.now in
    let all : c.args.turns - 0 ≡ c.args.turns = omega arith in
    record {
      between = c.new-session.ensures.turn;
      going_on = c.new-session.ensures.closed;
      talked = rw all (nothing_happened g.R.Read.remaining g.W.Write.contents c.args.turns c.args.reader.now c.args.writer.now (g.E.End.day e), g.met.E.End.keeps_nothing e);
    }
