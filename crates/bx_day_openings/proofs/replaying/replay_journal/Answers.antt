use Rattle.std.proofs.Common.{◌≡◌, Err, refl}
use Rattle.std.proofs.lemmas.Result.{err_from_is_err_and}
use Rattle.bx_devices.specs.Watching.{device_of, is_faulted}
use Rattle.bx_day_openings.specs.Selling.{day_goes, tags_go, IsAfter}
use Rattle.bx_day_openings.specs.declared.selling.Selling.{Selling}
use Rattle.bx_day_openings.proofs.ToldJournals.{not_followed, followed_whole}
use Rattle.bx_day_openings.proofs.Replays.{followed_as, bad_sale, went, stopped, goes_on, noted_through, no_replay}
use Rattle.bx_day_openings.proofs.replaying.replay_journal.Goals as goal

pub returns-in_err-sold-clause-refused : goal.returns-in_err-sold-clause-refused
returns-in_err-sold-clause-refused g c =
    let read = c.read_journal-whole in
    let fresh = c.in_ok-selling in
    let fault = c.in_err-sold.field-0.0 in
    let p = err_from_is_err_and c.from_residual-in_err-sold.result c.from_residual-in_err-sold.ensures.1 in
    rw (p.1, p.2)
    (bad_sale IsAfter (is_faulted read.new.device) (g.R.Read.remaining (device_of c.args.journal.now)) (g.R.Read.remaining (device_of read.new.device)) c.args.wanted.now fresh.selling read.new.follower c.args.channels c.args.exchange read.new.follower.exchange fault
    (λ events h. stopped c.args.channels c.args.exchange fresh.selling read.new.follower fresh.ensures.channels fresh.ensures.exchange fresh.ensures.fault events h fault c.in_err-sold.ensures.stopped) read.result read.ensures.read)

pub returns-in_err-journal_read-clause-refused : goal.returns-in_err-journal_read-clause-refused
returns-in_err-journal_read-clause-refused g c =
    let read = c.read_journal-whole in
    let before = g.R.Read.remaining (device_of c.args.journal.now) in
    let after = g.R.Read.remaining (device_of read.new.device) in
    let p = err_from_is_err_and c.from_residual-in_err-journal_read.result c.from_residual-in_err-journal_read.ensures.1 in
    rw (p.1, p.2)
    (no_replay c.args.name.now c.args.wanted.now c.args.channels c.args.exchange before after (is_faulted read.new.device) c.in_err-journal_read.field-0.0
    (not_followed IsAfter (is_faulted read.new.device) before after c.args.wanted.now c.in_ok-selling.selling read.new.follower c.args.name read.result (Err c.in_err-journal_read.field-0.0) c.in_err-journal_read.ensures read.ensures.read))

pub returns-clause-through : goal.returns-clause-through
returns-clause-through g c =
    let read = c.read_journal-whole in
    let fresh = c.in_ok-selling in
    let before = g.R.Read.remaining (device_of c.args.journal.now) in
    let after = g.R.Read.remaining (device_of read.new.device) in
    let day = read.new.follower.exchange in
    let followed = followed_as IsAfter (day_goes c.args.channels) (λ (s : Selling). s.exchange) (is_faulted read.new.device) before after c.args.wanted.now fresh.selling read.new.follower
    (λ events h. went c.args.channels fresh.selling.exchange fresh.selling read.new.follower fresh.ensures.channels refl fresh.ensures.fault events h c.in_ok-sold.ensures.whole.0) read.result read.ensures.read in
    rw (← fresh.ensures.exchange)
    (goes_on c.args.channels c.args.wanted.now before fresh.selling.exchange day c.in_ok-sold.sold.exchange c.journal_read.result c.in_ok-journal_read.field-0 c.in_ok-journal_read.was c.in_ok-sold.ensures.whole.1
    (followed_whole (day_goes c.args.channels) (is_faulted read.new.device) before after c.args.wanted.now fresh.selling.exchange day c.args.name read.result c.journal_read.result c.journal_read.ensures followed))

pub returns-clause-tagged : goal.returns-clause-tagged
returns-clause-tagged g c =
    let read = c.read_journal-whole in
    let fresh = c.in_ok-selling in
    let before = g.R.Read.remaining (device_of c.args.journal.now) in
    let after = g.R.Read.remaining (device_of read.new.device) in
    let followed = followed_as IsAfter tags_go (λ (s : Selling). s.tags.items) (is_faulted read.new.device) before after c.args.wanted.now fresh.selling read.new.follower
    (λ events h. h.2 c.in_ok-sold.ensures.whole.0) read.result read.ensures.read in
    rw (← fresh.ensures.tags, c.in_ok-sold.ensures.whole.2) followed

pub returns-clause-noted : goal.returns-clause-noted
returns-clause-noted g c =
    let read = c.read_journal-whole in
    let fresh = c.in_ok-selling in
    let before = g.R.Read.remaining (device_of c.args.journal.now) in
    let after = g.R.Read.remaining (device_of read.new.device) in
    let sold = c.in_ok-sold in
    let list : sold.sold.given_up.items ≡ read.new.follower.given_up.items = let e = sold.ensures.given_up in cc in
    noted_through c.args.channels c.args.wanted.now before c.args.exchange sold.sold.exchange sold.sold.given_up.items fresh.selling read.new.follower c.journal_read.result c.in_ok-journal_read.field-0 c.in_ok-journal_read.was
    fresh.ensures.channels fresh.ensures.exchange fresh.ensures.fault fresh.ensures.given_up sold.ensures.whole.0 sold.ensures.whole.1 list
    (followed_whole IsAfter (is_faulted read.new.device) before after c.args.wanted.now fresh.selling read.new.follower c.args.name read.result c.journal_read.result c.journal_read.ensures read.ensures.read)
