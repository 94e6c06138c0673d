use Rattle.std.proofs.Common.{◌≡◌, ℕ, ◌-◌, List}
use Rattle.bx_devices.specs.Watching.{device_of, is_faulted}
use Rattle.bx_journal.specs.Taking.{TakesPart}
use Rattle.bx_journal.proofs.line_reading.skip_line.Given as goal

abbrev pub invariant-loop-pieces : goal.invariant-loop-pieces
invariant-loop-pieces g l = record {
  part : (prefix : List ℕ) × TakesPart (g.R.Read.remaining (device_of l.fn.device)) (g.R.Read.remaining (device_of l.device)) l.fn.pieces l.pieces prefix;
  unfaulted : is_faulted l.device ≡ is_faulted l.fn.device;
}

abbrev pub decreases-loop-pieces : goal.decreases-loop-pieces
decreases-loop-pieces g l = 18446744073709551615 - l.pieces.taken
