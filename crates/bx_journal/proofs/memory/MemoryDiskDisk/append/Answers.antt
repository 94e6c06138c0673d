use Rattle.bx_journal.proofs.PastContents.{elapses_to}
use Rattle.bx_journal.proofs.memory.MemoryDiskDisk.append.Goals as goal

pub returns-in-Ok-clause-time : goal.returns-in-Ok-clause-time
returns-in-Ok-clause-time c =
    let past = c.in-Ok.ensures.past in
    elapses_to c.args.self.now.past.items c.appended.new.self.past.items past.0 c.args.self.now.octets.items c.appended.new.self.octets.items past.1 past.2
