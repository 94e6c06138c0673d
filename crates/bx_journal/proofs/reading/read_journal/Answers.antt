use Rattle.std.proofs.Common.{ap}
use Rattle.std.proofs.lemmas.Result.{err_from_is_err_and}
use Rattle.bx_devices.specs.Watching.{device_of, is_faulted}
use Rattle.bx_journal.specs.Held.{Held}
use Rattle.bx_journal.proofs.JournalRead.{head_failed, events_done}
use Rattle.bx_journal.proofs.reading.read_journal.Goals as goal

pub returns-in_err-version-clause-read : goal.returns-in_err-version-clause-read
returns-in_err-version-clause-read g c =
    let p = err_from_is_err_and c.from_residual.result c.from_residual.ensures.1 in
    let remaining = g.R.Read.remaining in
    let old = c.new-pieces.result in
    rw (p.1, p.2)
    (head_failed g.F.Follower.followed c.args.follower.now c.args.follower.now c.args.wanted.now (remaining (device_of c.args.device.now)) (remaining (device_of c.read_head.new.device)) old c.read_head.new.pieces
    (ap (λ (h : Held). h.octets) c.new-pieces.ensures) (ap (λ (h : Held). h.taken) c.new-pieces.ensures) (is_faulted c.read_head.new.device) c.in_err-version.field-0.0 c.in_err-version.ensures.head (g.met.F.Follower.follows_none c.args.follower.now))

pub returns-clause-read : goal.returns-clause-read
returns-clause-read g c =
    let remaining = g.R.Read.remaining in
    let old = c.new-pieces.result in
    events_done g.F.Follower.followed c.args.follower.now c.read_events.new.follower c.args.wanted.now (remaining (device_of c.args.device.now)) (remaining (device_of c.read_events.new.device)) old c.read_events.new.pieces
    (ap (λ (h : Held). h.octets) c.new-pieces.ensures) (ap (λ (h : Held). h.taken) c.new-pieces.ensures) (remaining (device_of c.read_head.new.device)) c.read_head.new.pieces c.in_ok-version.version c.in_ok-version.ensures.head
    (is_faulted c.read_events.new.device) c.read_events.result (rw c.head_size-first.ensures.lines at c.read_events.ensures.lines)
