use Rattle.std.proofs.Common.{◌≡◌, ◌+◌, ◌-◌, suc, true, false, [], ◌∷◌, ◌++◌, refl, arith, inl, inr}
use Rattle.std.proofs.lemmas.Result.{err_from_is_err_and}
use Rattle.bx_events.specs.Events.{Tick}
use Rattle.bx_frames.specs.declared.fault.LinkFault.TheVariants.{Closed}
use Rattle.bx_frames.proofs.Events.{ticks_more}
use Rattle.bx_sessions.proofs.BothEnds.{stands_so, call_over, call_stands, call_failed, near_ended, waits_now, not_opened, was_opened}
use Rattle.bx_sessions.proofs.ExchangeTurns.{nothing_happened, only_write, talk_not_opened, turn_over, turn_failed, day_written, day_not_written}
use Rattle.bx_link.proofs.FarTurns.{no_turn_yet}
use Rattle.bx_sessions.proofs.both_ends.run_both_ends.Goals as goal

pub loop-turn-init : goal.loop-turn-init
loop-turn-init g c =
    let n = c.min-count.result in
    let near = c.args.near.now in
    let e = c.args.exchange.now in
    let distant = c.args.distant.now in
    let all : n - 0 ≡ n = omega arith in
    record {
      between = c.new-session.ensures.turn;
      going_on = c.new-session.ensures.closed;
      within = omega arith;
      near_side = rw all (nothing_happened g.R.Read.remaining g.W.Write.contents n near.reader near.writer (g.E.End.day e), g.met.E.End.keeps_nothing e);
      far_side = inl (c.new-far_session.ensures, no_turn_yet g.S.Read.remaining g.T.Write.contents distant.reader distant.writer c.args.far.now);
    }

pub returns-in_err-open_turn : goal.returns-in_err-open_turn
returns-in_err-open_turn g c =
    let l = c.loop-turn in
    let q = err_from_is_err_and c.from_residual.result c.from_residual.ensures.1 in
    let next : c.min-count.result - l._turn ≡ suc (c.min-count.result - (l._turn + 1)) = omega (arith, c.loop-turn-test.true) in
    let p = rw next at l.invariant.near_side in
    let opens = c.in_err-open_turn.ensures.opened l.invariant.going_on in
    let stands = stands_so l.far_session l.invariant.far_side in
    rw (q.1, q.2, ← c.reached.ensures.value, ← c.min-count.ensures) (
      inr (inl (record {
        fault = c.in_err-open_turn.field-0.0;
        failed = refl;
        near_side = talk_not_opened p.0 opens;
        taken = l._turn;
        opened = not_opened p.0.events (only_write c.in_err-open_turn.field-0.0 opens.answer) (omega (arith, p.0.ticks, c.loop-turn-test.true));
        goes_on = stands.0;
        far_side = stands.1;
      })),
      g.met.E.End.keeps_on _ _ _ _ _ p.1 (c.in_err-open_turn.ensures.kept l.invariant.going_on),
    )

pub returns-in_err-far_turn : goal.returns-in_err-far_turn
returns-in_err-far_turn g c =
    let l = c.loop-turn in
    let q = err_from_is_err_and c.from_residual-in_err-far_turn.result c.from_residual-in_err-far_turn.ensures.1 in
    let next : c.min-count.result - l._turn ≡ suc (c.min-count.result - (l._turn + 1)) = omega (arith, c.loop-turn-test.true) in
    let p = rw next at l.invariant.near_side in
    let call = c.in_err-far_turn.ensures in
    rw (q.1, q.2, ← c.reached.ensures.value, ← c.min-count.ensures) (
      inr (inr (inr (inl (record {
        fault = c.in_err-far_turn.field-0.0;
        failed = refl;
        taken = l._turn + 1;
        near_side = waits_now l._turn p.0 (c.in_ok-open_turn.ensures.opened l.invariant.going_on) (omega (arith, c.loop-turn-test.true));
        far_side = call_failed l.far_session (λ still. (call.taken still).0) call.refused call.reader call.writer call.far l.invariant.far_side;
      })))),
      g.met.E.End.keeps_on _ _ _ _ _ p.1 (c.in_ok-open_turn.ensures.kept l.invariant.going_on),
    )

pub returns-in_err-close_turn : goal.returns-in_err-close_turn
returns-in_err-close_turn g c =
    let l = c.loop-turn in
    let q = err_from_is_err_and c.from_residual-in_err-close_turn.result c.from_residual-in_err-close_turn.ensures.1 in
    let next : c.min-count.result - l._turn ≡ suc (c.min-count.result - (l._turn + 1)) = omega (arith, c.loop-turn-test.true) in
    let p = rw next at l.invariant.near_side in
    let heard = c.in_err-close_turn.ensures.heard c.in_ok-open_turn.ensures.closed in
    let call = c.in_ok-far_turn.ensures in
    rw (q.1, q.2, ← c.reached.ensures.value, ← c.min-count.ensures) (
      inr (inl (record {
        fault = c.in_err-close_turn.field-0.0;
        failed = refl;
        near_side = turn_failed p.0 (c.in_ok-open_turn.ensures.opened l.invariant.going_on) heard.0;
        taken = l._turn + 1;
        opened = was_opened heard.0 (p.0.events ++ Tick ∷ []) (omega (arith, p.0.ticks, ticks_more p.0.events (Tick ∷ []), c.loop-turn-test.true));
        goes_on = c.in_ok-far_turn.field-0;
        far_side = call_over l.far_session c.in_ok-far_turn.field-0 (λ still. (call.taken still).0) call.refused l.invariant.far_side;
      })),
      g.met.E.End.keeps_on _ _ _ _ _ (g.met.E.End.keeps_on _ _ _ _ _ p.1 (c.in_ok-open_turn.ensures.kept l.invariant.going_on)) heard.1,
    )

pub loop-turn-preserved : goal.loop-turn-preserved
loop-turn-preserved g c =
    let l = c.loop-turn in
    let next : c.min-count.result - l._turn ≡ suc (c.min-count.result - (l._turn + 1)) = omega (arith, c.loop-turn-test.true) in
    let p = rw next at l.invariant.near_side in
    let call = c.in_ok-far_turn.ensures in
    let heard = c.in_ok-close_turn.ensures.heard c.in_ok-open_turn.ensures.closed in
    record {
      between = c.in_ok-close_turn.ensures.turn;
      going_on = c.in_ok-close_turn.ensures.closed;
      within = omega (arith, c.loop-turn-test.true);
      near_side = (
        turn_over p.0 (c.in_ok-open_turn.ensures.opened l.invariant.going_on) heard.0,
        g.met.E.End.keeps_on _ _ _ _ _ (g.met.E.End.keeps_on _ _ _ _ _ p.1 (c.in_ok-open_turn.ensures.kept l.invariant.going_on)) heard.1,
      );
      far_side = call_stands l.far_session c.in_ok-far_turn.field-0 (λ still. (call.taken still).0) call.refused c.far_turn.new.self call.over l.invariant.far_side;
    }

pub returns-in-Err : goal.returns-in-Err
returns-in-Err g c =
    let l = c.loop-turn in
    let none : c.min-count.result - l._turn ≡ 0 = omega (arith, c.loop-turn-test.false) in
    let p = rw none at l.invariant.near_side in
    let all : l._turn ≡ c.min-count.result = omega (arith, c.loop-turn-test.false, l.invariant.within) in
    let stands = stands_so l.far_session (rw all at l.invariant.far_side) in
    rw (← c.reached.ensures.value, ← c.min-count.ensures) (
      inr (inr (inl (record {
        failed = refl;
        near_side = near_ended p.0 (day_not_written g.W.Write.contents l.near.writer c.write_end_of_day.new.w c.in-Err.field-0 c.in-Err.ensures);
        goes_on = stands.0;
        far_side = stands.1;
      }))),
      p.1,
    )

pub returns-then-goes_on : goal.returns-then-goes_on
returns-then-goes_on g c =
    let l = c.loop-turn in
    let none : c.min-count.result - l._turn ≡ 0 = omega (arith, c.loop-turn-test.false) in
    let p = rw none at l.invariant.near_side in
    let all : l._turn ≡ c.min-count.result = omega (arith, c.loop-turn-test.false, l.invariant.within) in
    let call = rw c.if-goes_on.true at c.in_ok-goes_on.ensures in
    rw (← c.reached.ensures.value, ← c.min-count.ensures) (
      inr (inr (inr (inr (record {
        fault = Closed;
        failed = refl;
        near_side = near_ended p.0 (day_written g.W.Write.contents l.near.writer c.write_end_of_day.new.w c.in-Ok.ensures);
        far_side = inr (call_over l.far_session true (λ still. (call.taken still).0) call.refused (rw all at l.invariant.far_side), refl);
      })))),
      p.1,
    )

pub returns : goal.returns
returns g c =
    let l = c.loop-turn in
    let none : c.min-count.result - l._turn ≡ 0 = omega (arith, c.loop-turn-test.false) in
    let p = rw none at l.invariant.near_side in
    let all : l._turn ≡ c.min-count.result = omega (arith, c.loop-turn-test.false, l.invariant.within) in
    let call = rw c.if-goes_on.false at c.in_ok-goes_on.ensures in
    rw (← c.reached.ensures.value, ← c.min-count.ensures) (
      inl (record {
        done = refl;
        near_side = near_ended p.0 (day_written g.W.Write.contents l.near.writer c.write_end_of_day.new.w c.in-Ok.ensures);
        far_side = call_over l.far_session false (λ still. (call.taken still).0) call.refused (rw all at l.invariant.far_side);
      }),
      p.1,
    )

pub returns-in_err-goes_on : goal.returns-in_err-goes_on
returns-in_err-goes_on g c =
    let l = c.loop-turn in
    let q = err_from_is_err_and c.from_residual-in_err-goes_on.result c.from_residual-in_err-goes_on.ensures.1 in
    let none : c.min-count.result - l._turn ≡ 0 = omega (arith, c.loop-turn-test.false) in
    let p = rw none at l.invariant.near_side in
    let all : l._turn ≡ c.min-count.result = omega (arith, c.loop-turn-test.false, l.invariant.within) in
    let call = c.in_err-goes_on.ensures in
    rw (q.1, q.2, ← c.reached.ensures.value, ← c.min-count.ensures) (
      inr (inr (inr (inr (record {
        fault = c.in_err-goes_on.field-0.0;
        failed = refl;
        near_side = near_ended p.0 (day_written g.W.Write.contents l.near.writer c.write_end_of_day.new.w c.in-Ok.ensures);
        far_side = inl (call_failed l.far_session {r = c.args.distant.now.reader} {w = c.args.distant.now.writer} {d = c.args.far.now} (λ still. (call.taken still).0) call.refused call.reader call.writer call.far (rw all at l.invariant.far_side));
      })))),
      p.1,
    )
