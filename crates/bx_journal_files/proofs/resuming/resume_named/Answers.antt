use Rattle.bx_journal_files.proofs.ReadyJournals.{kept_by}
use Rattle.bx_journal_files.proofs.Results.{if_ok}
use Rattle.bx_journal_files.proofs.resuming.resume_named.Goals as goal

pub returns-clause-kept : goal.returns-clause-kept
returns-clause-kept g c =
    if_ok c.resume_on.result _ _ (λ resumed k. kept_by c.args.head.now c.args.opening.channels _ c.args.opening.exchange resumed.exchange resumed.log c.args.name c.in-Some.name c.in-Some.is k) c.resume_on.ensures.kept
