use Rattle.std.proofs.Common.{◌≡◌, ℕ, ◌<◌, length, get_or}
use Rattle.bx_colour.specs.Loads.{load_at}
use Rattle.bx_dist.specs.Residual.{ArePotentials}
use Rattle.bx_line.specs.Flows.{IsFlow}
use Rattle.bx_line.specs.Network.{places_of}
use Rattle.bx_planner.specs.declared.earnings.Earning.{Earning}
use Rattle.bx_planner.specs.Earnings.{IsEarning}
use Rattle.bx_planner.specs.Musts.{musts_at}
use Rattle.bx_planner.proofs.earnings.earnings_of.Given as goal

abbrev pub invariant-loop-count : goal.invariant-loop-count
invariant-loop-count l =
    record {
      size : length l.earnings.items ≡ l.count;
      each : (k : ℕ) (d : Earning) → k < l.count → IsEarning l.bookings k (get_or l.earnings.items k d);
      flow : IsFlow l.shorter l.carried;
      units : 0 < places_of l.shorter → l.carried.units ≡ l.count;
      fits : ArePotentials l.shorter l.carried l.potentials;
      musts : (t : ℕ) → load_at l.musts t ≡ musts_at l.bookings t;
    }
