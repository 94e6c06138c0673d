use Rattle.std.proofs.Common.{inr, sym, subst}
use Rattle.bx_request.specs.declared.request.Peer.{Peer}
use Rattle.bx_rehearsal_commands.specs.RehearsedDays.{RehearsalWith}
use Rattle.bx_rehearsal_commands.specs.RehearsalRefusals.{StopsAtPeer}
use Rattle.bx_journal_files.proofs.Results.{if_ok, if_err}
use Rattle.bx_rehearsal_commands.proofs.rehearsal_files.rehearse_with_peer.Goals as goal

pub returns-in-Script-clause-ran : goal.returns-in-Script-clause-ran
returns-in-Script-clause-ran g c =
    if_ok c.rehearse_script.result _ _ (λ run p begins opens. subst (λ (peer : Peer). RehearsalWith g.H.File.Write.contents peer c.args.request run.rehearsed) (sym c.in-Script.is) (p begins opens)) c.rehearse_script.ensures.ran

pub returns-in-Script-clause-stopped : goal.returns-in-Script-clause-stopped
returns-in-Script-clause-stopped g c =
    if_err c.rehearse_script.result _ _ (λ fault p clock. subst (λ (peer : Peer). StopsAtPeer g.H.File.Write.contents peer c.args.request fault) (sym c.in-Script.is) (p clock)) c.rehearse_script.ensures.stopped

pub returns-in-At-clause-ran : goal.returns-in-At-clause-ran
returns-in-At-clause-ran g c =
    if_ok c.rehearse_at.result _ _ (λ run p begins opens. subst (λ (peer : Peer). RehearsalWith g.H.File.Write.contents peer c.args.request run.rehearsed) (sym c.in-At.is) (p begins opens)) c.rehearse_at.ensures.ran

pub returns-in-At-clause-stopped : goal.returns-in-At-clause-stopped
returns-in-At-clause-stopped g c =
    if_err c.rehearse_at.result _ _ (λ fault p clock. subst (λ (peer : Peer). StopsAtPeer g.H.File.Write.contents peer c.args.request fault) (sym c.in-At.is) (inr (tt, p clock))) c.rehearse_at.ensures.stopped
