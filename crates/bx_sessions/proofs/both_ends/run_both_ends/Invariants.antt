use Rattle.std.proofs.Common.{List, ◌≡◌, ◌-◌, ◌≤◌, false}
use Rattle.bx_events.specs.Events.{Event}
use Rattle.bx_sessions.specs.Sessions.{is_turn_open, is_closed}
use Rattle.bx_sessions.proofs.BothEnds.{FarStands}
use Rattle.bx_sessions.proofs.ExchangeTurns.{KeptSoFar}
use Rattle.bx_sessions.proofs.both_ends.run_both_ends.Given as goal

abbrev pub invariant-loop-turn : goal.invariant-loop-turn
invariant-loop-turn g l = record {
  between : is_turn_open l.session ≡ false;
  going_on : is_closed l.session ≡ false;
  within : l._turn ≤ l.count;
  near_side : KeptSoFar g.R.Read.remaining g.W.Write.contents l.count (l.count - l._turn) l.fn.near.reader l.near.reader l.fn.near.writer l.near.writer (g.E.End.day l.fn.exchange) (g.E.End.day l.exchange) (λ (events : List Event). g.E.End.kept l.fn.exchange events l.exchange);
  far_side : FarStands g.S.Read.remaining g.T.Write.contents l._turn l.far_session l.fn.distant.reader l.distant.reader l.fn.distant.writer l.distant.writer l.fn.far l.far;
}
