use Rattle.bx_rehearsal_commands.proofs.RehearsedWith.{ran_both}
use Rattle.bx_journal_files.proofs.Results.{if_ok}
use Rattle.bx_rehearsal_commands.proofs.rehearsal_files.rehearse_both.Goals as goal

pub returns-clause-ran : goal.returns-clause-ran
returns-clause-ran g c =
    if_ok c.rehearse_named.result _ _ (λ rehearsed ran. ran_both g.H.File.Write.contents c.args.far c.args.opened c.args.view.file c.args.view.first rehearsed _ _ _ _ c.new-both.ensures ran) c.rehearse_named.ensures.ran
