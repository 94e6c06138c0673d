use Rattle.bx_devices.specs.Watching.{device_of, is_faulted}
use Rattle.bx_recovery.proofs.KnownText.{day_known, followed_day, prefix_day}
use Rattle.bx_recovery.proofs.recovering.recover_day.Goals as goal

pub returns-clause-day : goal.returns-clause-day
returns-clause-day g c = λ text is.
    let read = c.read_journal-whole in
    let before = g.R.Read.remaining (device_of c.args.device.now) in
    let after = g.R.Read.remaining (device_of read.new.device) in
    day_known c.args.wanted.now text before after c.args.exchange read.new.follower.exchange (is_faulted read.new.device) read.result is
    (followed_day _ (λ f. f.exchange) (λ f h events p. p) (is_faulted read.new.device) before after c.args.wanted.now _ read.new.follower read.result read.ensures.read)

pub returns-clause-prefix : goal.returns-clause-prefix
returns-clause-prefix g c = λ head text before more wants is left.
    prefix_day c.args.wanted.now head text c.args.exchange c.read_journal-whole.new.follower.exchange c.read_journal-whole.result before more wants (returns-clause-day g c text is) left
