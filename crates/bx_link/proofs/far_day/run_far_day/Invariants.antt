use Rattle.std.proofs.Common.{◌≡◌, ◌≤◌, false, List}
use Rattle.bx_events.specs.Events.{Event}
use Rattle.bx_link.specs.Sessions.{is_far_over}
use Rattle.bx_link.proofs.FarTurns.{KeptFarSoFar}
use Rattle.bx_link.proofs.far_day.run_far_day.Given as goal

abbrev pub invariant-loop-turn : goal.invariant-loop-turn
invariant-loop-turn g l = record {
  going_on : is_far_over l.session ≡ false;
  within : l._turn ≤ 18446744073709551615;
  so_far : KeptFarSoFar g.R.Read.remaining g.W.Write.contents l._turn l.fn.reader l.reader l.fn.writer l.writer (g.E.End.day l.fn.far) (g.E.End.day l.far) (λ (events : List Event). g.E.End.kept l.fn.far events l.far);
}
