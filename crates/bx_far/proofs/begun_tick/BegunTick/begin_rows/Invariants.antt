use Rattle.std.proofs.Common.{◌≡◌, ◌≤◌, ◌+◌, drop}
use Rattle.bx_far.specs.FarDay.{begin_rows}
use Rattle.bx_far.specs.Inside.{calls_now}
use Rattle.bx_far.proofs.begun_tick.BegunTick.begin_rows.Given as goal

abbrev pub invariant-loop-row : goal.invariant-loop-row
invariant-loop-row l = record {
  same : begin_rows l.moment (drop l.row-index l.rows) l.self ≡ begin_rows l.moment l.rows l.initial.self;
  room : l.self.next + calls_now l.moment (drop l.row-index l.rows) ≤ 16001;
}
