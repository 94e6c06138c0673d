use Rattle.std.proofs.Common.{◌≡◌, ◌-◌, ◌≤◌, length, take}
use Rattle.std.specs.Io.KnownBytes.{Appends}
use Rattle.bx_devices.specs.Watching.{device_of, is_faulted, reads_of}
use Rattle.bx_devices.proofs.octets.write_octets.Given as goal

abbrev pub invariant-loop-at : goal.invariant-loop-at
invariant-loop-at g l =
    let contents = g.W.Write.contents in
    record {
      within : l.at ≤ length l.bytes;
      written : Appends (contents (device_of l.fn.w)) (contents (device_of l.w)) (take l.at l.bytes);
      unfaulted : is_faulted l.w ≡ is_faulted l.fn.w;
      reads : reads_of l.w ≡ reads_of l.fn.w;
    }

abbrev pub decreases-loop-at : goal.decreases-loop-at
decreases-loop-at g l = length l.bytes - l.at
