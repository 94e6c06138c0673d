use Rattle.std.proofs.Common.{◌≡◌, ◌-◌, ◌+◌, ◌≤◌, length, vec_len}
use Rattle.std.specs.Io.KnownBytes.{Consumes}
use Rattle.bx_devices.specs.Watching.{device_of, is_faulted, reads_of}
use Rattle.bx_devices.proofs.octets.read_octets.Given as goal

abbrev pub invariant-loop-buf : goal.invariant-loop-buf
invariant-loop-buf g l =
    let remaining = g.R.Read.remaining in
    record {
      size : length l.buf ≡ 4096;
      fits : vec_len l.octets ≤ 4194304;
      read : Consumes (remaining (device_of l.fn.r)) (remaining (device_of l.r)) l.octets.items;
      unfaulted : is_faulted l.r ≡ is_faulted l.fn.r;
      each : reads_of l.r ≤ reads_of l.fn.r + vec_len l.octets;
    }

abbrev pub decreases-loop-buf : goal.decreases-loop-buf
decreases-loop-buf g l = 8388608 - reads_of l.r
