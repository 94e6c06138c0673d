use Rattle.bx_day_openings.proofs.Takeovers.{none_took_over}
use Rattle.bx_day_openings.proofs.laws.no_takeover.Goals as goal

pub returns : goal.returns
returns c channels wanted before rows assigned count bookings carries bad = none_took_over channels wanted before rows assigned count bookings carries bad
