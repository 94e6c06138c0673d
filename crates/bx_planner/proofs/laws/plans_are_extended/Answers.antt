use Rattle.bx_planner.proofs.Extending.{amended_extends, best_first_fit}
use Rattle.bx_planner.proofs.laws.plans_are_extended.Goals as goal

pub returns-clause-extends : goal.returns-clause-extends
returns-clause-extends c m rows more channels assigned after bookings before first_fit carries kept starts = amended_extends m rows more channels assigned after bookings before first_fit carries kept starts

pub returns-clause-again : goal.returns-clause-again
returns-clause-again c rows channels plan h = best_first_fit rows channels plan h
