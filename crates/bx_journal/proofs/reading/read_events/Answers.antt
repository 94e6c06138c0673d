use Rattle.std.proofs.Common.{◌∷◌, [], ◌∙◌, ap, arith, length-append}
use Rattle.bx_devices.specs.Watching.{device_of}
use Rattle.bx_journal.specs.Reading.{event_on}
use Rattle.bx_journal.proofs.EventsRead.{event_more, ended_by, stopped_by, broken_by, no_event_on, too_long}
use Rattle.bx_journal.proofs.reading.read_events.Goals as goal

pub returns-in-None-clause-lines : goal.returns-in-None-clause-lines
returns-in-None-clause-lines g c =
    let remaining = g.R.Read.remaining in
    let line = c.next_line.new.line.items in
    let is = c.event_on.ensures ∙ ap (event_on c.args.version) c.deref.ensures.0 in
    broken_by g.F.Follower.followed g.met.F.Follower.follows_on c.args.follower.now c.loop-version.follower c.loop-version.follower c.args.version c.args.first (remaining (device_of c.args.device.now)) (remaining (device_of c.loop-version.device)) (remaining (device_of c.next_line.new.device))
    c.args.pieces.now c.loop-version.pieces c.next_line.new.pieces c.loop-version.n line c.loop-version.invariant.so_far (rw c.in-Ok-Whole.field-0-is at c.in-Ok-Whole.ensures.line) (no_event_on c.args.version c.event_on.result line is c.in-None.is)

pub returns-in-Ok-TooLong-clause-lines : goal.returns-in-Ok-TooLong-clause-lines
returns-in-Ok-TooLong-clause-lines g c =
    let remaining = g.R.Read.remaining in
    let long = (rw c.in-Ok-TooLong.field-0-is at c.in-Ok-TooLong.ensures.line) in
    broken_by g.F.Follower.followed g.met.F.Follower.follows_on c.args.follower.now c.loop-version.follower c.loop-version.follower c.args.version c.args.first (remaining (device_of c.args.device.now)) (remaining (device_of c.loop-version.device)) (remaining (device_of c.next_line.new.device))
    c.args.pieces.now c.loop-version.pieces c.next_line.new.pieces c.loop-version.n long.0 c.loop-version.invariant.so_far long.1 (too_long c.args.version long.0 long.2)

pub returns-in-Ok-Torn-clause-lines : goal.returns-in-Ok-Torn-clause-lines
returns-in-Ok-Torn-clause-lines g c =
    let remaining = g.R.Read.remaining in
    ended_by g.F.Follower.followed g.met.F.Follower.follows_on c.args.follower.now c.loop-version.follower c.loop-version.follower c.args.version c.args.first (remaining (device_of c.args.device.now)) (remaining (device_of c.loop-version.device)) (remaining (device_of c.next_line.new.device))
    c.args.pieces.now c.loop-version.pieces c.next_line.new.pieces c.loop-version.n c.taken-whole.result c.taken-whole.ensures c.loop-version.invariant.so_far (rw c.in-Ok-Torn.field-0-is at c.in-Ok-Torn.ensures.line)

pub returns-in-Err-clause-lines : goal.returns-in-Err-clause-lines
returns-in-Err-clause-lines g c =
    let remaining = g.R.Read.remaining in
    stopped_by g.F.Follower.followed g.met.F.Follower.follows_on c.args.follower.now c.loop-version.follower c.loop-version.follower c.args.version c.args.first (remaining (device_of c.args.device.now)) (remaining (device_of c.loop-version.device)) (remaining (device_of c.next_line.new.device))
    c.args.pieces.now c.loop-version.pieces c.next_line.new.pieces c.loop-version.n _ c.loop-version.invariant.so_far c.in-Err.ensures.line

pub loop-version-preserved : goal.loop-version-preserved
loop-version-preserved g c =
    let remaining = g.R.Read.remaining in
    let line = c.next_line.new.line.items in
    let is = c.event_on.ensures ∙ ap (event_on c.args.version) c.deref.ensures.0 in
    let next = (rw c.in-Ok-Whole.field-0-is at c.in-Ok-Whole.ensures.line) in
    record {
      so_far = event_more g.F.Follower.followed g.met.F.Follower.follows_on c.args.follower.now c.loop-version.follower c.follow.new.self c.args.version c.args.first (remaining (device_of c.args.device.now)) (remaining (device_of c.loop-version.device)) (remaining (device_of c.next_line.new.device))
          c.args.pieces.now c.loop-version.pieces c.next_line.new.pieces c.loop-version.n line c.event_on.result c.in-Some.event c.loop-version.invariant.so_far next is c.in-Some.is c.follow.ensures;
      early = omega (arith, c.loop-version.invariant.early, next.takes.count, length-append line (10 ∷ []));
      unfaulted = c.in-Ok-Whole.ensures.unfaulted ∙ c.loop-version.invariant.unfaulted;
    }
