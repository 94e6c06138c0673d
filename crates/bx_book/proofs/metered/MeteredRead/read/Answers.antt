use Rattle.bx_devices.specs.Watching.{device_of}
use Rattle.bx_book.proofs.Passing.{has_passed_more}
use Rattle.bx_book.proofs.metered.MeteredRead.read.Goals as goal

pub invariant_of-self-2-clause-passed : goal.invariant_of-self-2-clause-passed
invariant_of-self-2-clause-passed g c =
    let read = g.R.Read.remaining in
    has_passed_more g.O.Origin.text (read (device_of c.args.self.now.reader.now)) (read (device_of c.read.new.self)) c.read.new.buf c.args.self.now.octets c.in_ok-read.read c.in_ok-read.ensures.bound.0 c.in_ok-read.ensures.bytes.0 c.args.self.now.passed
