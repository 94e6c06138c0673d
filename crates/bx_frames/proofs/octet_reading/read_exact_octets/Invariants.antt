use Rattle.std.proofs.Common.{◌≡◌, ◌-◌, ◌≤◌, length, take}
use Rattle.std.specs.Io.KnownBytes.{Consumes}
use Rattle.bx_devices.specs.Watching.{device_of, is_faulted, reads_of}
use Rattle.bx_frames.proofs.octet_reading.read_exact_octets.Given as goal

abbrev pub invariant-loop-at : goal.invariant-loop-at
invariant-loop-at g l =
    let remaining = g.R.Read.remaining in
    record {
      within : l.at ≤ length l.buf;
      read : Consumes (remaining (device_of l.fn.r)) (remaining (device_of l.r)) (take l.at l.buf);
      unfaulted : is_faulted l.r ≡ is_faulted l.fn.r;
      counted : reads_of l.fn.r ≤ reads_of l.r;
    }

abbrev pub decreases-loop-at : goal.decreases-loop-at
decreases-loop-at g l = length l.buf - l.at
