use Rattle.std.proofs.Common.{sym, subst}
use Rattle.bx_request.specs.declared.request.Peer.TheVariants.{At}
use Rattle.bx_request.specs.declared.request.Place.{Place}
use Rattle.bx_rehearsal_commands.specs.RehearsedDays.{RanWith}
use Rattle.bx_journal_files.proofs.Results.{if_ok}
use Rattle.bx_rehearsal_commands.proofs.rehearsal_files.rehearse_first.Goals as goal

pub returns-in_ok-peer-in-Port-clause-ran : goal.returns-in_ok-peer-in-Port-clause-ran
returns-in_ok-peer-in-Port-clause-ran g c =
    if_ok c.rehearse_named.result _ _ (λ rehearsed ran. subst (λ (place : Place). RanWith g.H.File.Write.contents (At place) c.args.opened c.args.view.file c.args.view.first rehearsed) (sym c.in-Port.is) (_, _, (_, ran))) c.rehearse_named.ensures.ran

pub returns-in_ok-peer-in-Socket-clause-ran : goal.returns-in_ok-peer-in-Socket-clause-ran
returns-in_ok-peer-in-Socket-clause-ran g c =
    if_ok c.rehearse_named-in-Socket.result _ _ (λ rehearsed ran. subst (λ (place : Place). RanWith g.H.File.Write.contents (At place) c.args.opened c.args.view.file c.args.view.first rehearsed) (sym c.in-Socket.is) (_, _, (_, ran))) c.rehearse_named-in-Socket.ensures.ran
