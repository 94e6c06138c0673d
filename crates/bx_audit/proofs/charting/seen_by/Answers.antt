use Rattle.std.proofs.Common.{Err}
use Rattle.std.proofs.lemmas.Result.{err_from_is_err_and}
use Rattle.bx_day_openings.proofs.Replays.{bad_sale, followed_as, stopped}
use Rattle.bx_day_openings.proofs.ToldJournals.{followed_whole, not_followed}
use Rattle.bx_devices.specs.Watching.{device_of, is_faulted}
use Rattle.bx_audit.specs.Chartings.{HasFollowed}
use Rattle.bx_audit.specs.declared.charting.Charting.{Charting}
use Rattle.bx_audit.proofs.SeenDays.{SeenGoes, goes_seen, not_seen, seen_through}
use Rattle.bx_audit.proofs.charting.seen_by.Goals as goal

pub returns-in_err-exchange-clause-refused : goal.returns-in_err-exchange-clause-refused
returns-in_err-exchange-clause-refused g c =
    let read = c.read_journal-whole in
    let fresh = c.in_ok-selling in
    let a : Charting = record { selling = fresh.selling; noting = c.new-2.result } in
    let b = read.new.follower in
    let before = g.R.Read.remaining (device_of c.args.journal.now) in
    let after = g.R.Read.remaining (device_of read.new.device) in
    let fault = c.in_err-exchange.field-0.0 in
    let p = err_from_is_err_and c.from_residual-in_err-exchange.result c.from_residual-in_err-exchange.ensures.1 in
    rw (p.1, p.2)
    (bad_sale HasFollowed (is_faulted read.new.device) before after c.args.wanted.now a b c.args.channels c.args.exchange b.selling.exchange fault
    (λ events h. stopped c.args.channels c.args.exchange fresh.selling b.selling fresh.ensures.channels fresh.ensures.exchange fresh.ensures.fault events h.0 fault c.in_err-exchange.ensures.stopped) read.result read.ensures.read)

pub returns-in_err-journal_read-clause-refused : goal.returns-in_err-journal_read-clause-refused
returns-in_err-journal_read-clause-refused g c =
    let read = c.read_journal-whole in
    let a : Charting = record { selling = c.in_ok-selling.selling; noting = c.new-2.result } in
    let before = g.R.Read.remaining (device_of c.args.journal.now) in
    let after = g.R.Read.remaining (device_of read.new.device) in
    let fault = c.in_err-journal_read.field-0.0 in
    let p = err_from_is_err_and c.from_residual-in_err-journal_read.result c.from_residual-in_err-journal_read.ensures.1 in
    rw (p.1, p.2)
    (not_seen c.args.name.now c.args.wanted.now c.args.channels c.args.exchange before after (is_faulted read.new.device) fault
    (not_followed HasFollowed (is_faulted read.new.device) before after c.args.wanted.now a read.new.follower c.args.name read.result (Err fault) c.in_err-journal_read.ensures read.ensures.read))

pub returns-clause-through : goal.returns-clause-through
returns-clause-through g c =
    let read = c.read_journal-whole in
    let fresh = c.in_ok-selling in
    let channels = c.args.channels in
    let wanted = c.args.wanted.now in
    let a : Charting = record { selling = fresh.selling; noting = c.new-2.result } in
    let b = read.new.follower in
    let before = g.R.Read.remaining (device_of c.args.journal.now) in
    let after = g.R.Read.remaining (device_of read.new.device) in
    let followed = followed_as HasFollowed (SeenGoes channels) (λ (x : Charting). x) (is_faulted read.new.device) before after wanted a b (λ events h. goes_seen channels a b fresh.ensures.channels fresh.ensures.fault c.in_ok-exchange.ensures.whole.0 events h) read.result read.ensures.read in
    let whole = followed_whole (SeenGoes channels) (is_faulted read.new.device) before after wanted a b c.args.name read.result c.journal_read.result c.journal_read.ensures followed in
    seen_through channels wanted before c.args.exchange c.in_ok-exchange.exchange a b c.in_ok-outages.outages.spans.items c.journal_read.result c.in_ok-journal_read.field-0 c.in_ok-journal_read.was
    fresh.ensures.exchange c.new-2.ensures c.in_ok-exchange.ensures.whole.1 c.in_ok-outages.ensures.0 c.in_ok-outages.ensures.1 whole
