use Rattle.std.proofs.Common.{refl, subst}
use Rattle.std.proofs.lemmas.Result.{err_from_is_err_and}
use Rattle.bx_devices.specs.Watching.{device_of, is_faulted}
use Rattle.bx_day_openings.specs.Replays.{HasNoReplay}
use Rattle.bx_day_openings.proofs.Replays.{of_file}
use Rattle.bx_journal.specs.declared.head.Wanted.{Wanted}
use Rattle.bx_journal_files.specs.Resuming.{IsFollowedBy}
use Rattle.bx_journal_files.proofs.ReadyJournals.{followed_by}
use Rattle.bx_journal_files.proofs.resuming.resume_on.Goals as goal

pub returns-in-Ok-clause-kept : goal.returns-in-Ok-clause-kept
returns-in-Ok-clause-kept g c =
    let o = c.args.opening in
    let read = c.replay_journal in
    record {
      whole = c.in_ok-replayed.replayed.whole;
      followed = subst (λ f. IsFollowedBy c.args.head.now o.channels (g.F.Read.remaining f) o.exchange c.in_ok-replayed.replayed.exchange c.in_ok-replayed.replayed.whole) c.new-journal.ensures.device
          (followed_by c.args.head.now o.channels c.wanted-wanted.result (is_faulted read.new.journal) (g.F.Read.remaining (device_of c.new-journal.result)) (g.F.Read.remaining (device_of read.new.journal)) o.exchange c.in_ok-replayed.replayed.exchange c.in_ok-replayed.replayed.whole c.wanted-wanted.ensures c.in_ok-replayed.ensures.followed);
      left = c.new-disk.result;
      disk = c.make_ready.new.disk;
      is = refl;
      ready = c.in-Ok.ensures;
    }

pub returns-in_err-replayed-clause-refused : goal.returns-in_err-replayed-clause-refused
returns-in_err-replayed-clause-refused g c =
    let o = c.args.opening in
    let fault = c.in_err-replayed.field-0.0 in
    let p = err_from_is_err_and c.from_residual.result c.from_residual.ensures.1 in
    rw (p.1, p.2)
    (subst (λ (w : Wanted). HasNoReplay c.args.name.now w o.channels o.exchange fault) c.wanted-wanted.ensures
    (of_file c.args.name.now c.wanted-wanted.result o.channels o.exchange _ _ _ fault c.in_err-replayed.ensures.refused))
