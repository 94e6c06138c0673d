use Rattle.std.proofs.Common.{◌≡◌, ◌-◌, false, List}
use Rattle.bx_events.specs.Events.{Event}
use Rattle.bx_sessions.specs.Sessions.{is_turn_open, is_closed}
use Rattle.bx_sessions.proofs.ExchangeTurns.{KeptSoFar}
use Rattle.bx_sessions.proofs.day.run_turns.Given as goal

abbrev pub invariant-loop-turn : goal.invariant-loop-turn
invariant-loop-turn g l = record {
  between : is_turn_open l.session ≡ false;
  going_on : is_closed l.session ≡ false;
  talked : KeptSoFar g.R.Read.remaining g.W.Write.contents l.turns (l.turns - l._turn) l.fn.reader l.reader l.fn.writer l.writer (g.E.End.day l.fn.exchange) (g.E.End.day l.exchange) (λ (events : List Event). g.E.End.kept l.fn.exchange events l.exchange);
}
