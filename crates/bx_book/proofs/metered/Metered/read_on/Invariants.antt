use Rattle.std.proofs.Common.{◌≡◌, ◌-◌, length}
use Rattle.bx_devices.specs.Watching.{reads_of}
use Rattle.bx_book.specs.Metering.{watched_of}
use Rattle.bx_book.proofs.metered.Metered.read_on.Given as goal

abbrev pub invariant-loop-buf : goal.invariant-loop-buf
invariant-loop-buf g l = record { size : length l.buf ≡ 4096 }

abbrev pub decreases-loop-buf : goal.decreases-loop-buf
decreases-loop-buf g l = 8388608 - reads_of (watched_of l.self)
