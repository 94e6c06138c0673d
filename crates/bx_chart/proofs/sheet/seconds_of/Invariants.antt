use Rattle.std.proofs.Common.{◌≡◌, ◌≤◌}
use Rattle.bx_base.specs.PlanParts.{parts_of}
use Rattle.bx_chart.specs.Hours.{latest_below}
use Rattle.bx_chart.proofs.sheet.seconds_of.Given as goal

abbrev pub invariant-loop-index : goal.invariant-loop-index
invariant-loop-index l =
    record {
      latest : l.seconds ≡ latest_below (parts_of l.plan).rows l.least l.index;
      some : 1 ≤ l.seconds;
      few : l.seconds ≤ 200000;
    }
