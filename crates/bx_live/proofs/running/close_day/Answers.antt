use Rattle.std.proofs.Common.{true, false, refl}
use Rattle.std.proofs.lemmas.Result.{err_from_is_err_and}
use Rattle.bx_live.specs.Acts.{Synced, EndedDay}
use Rattle.bx_live.specs.Runs.{Between, Closing, Ending}
use Rattle.bx_live.proofs.Steps.{one_done, then_done}
use Rattle.bx_live.proofs.running.close_day.Goals as goal

pub returns-in_err-sync-clause-at_last : goal.returns-in_err-sync-clause-at_last
returns-in_err-sync-clause-at_last g c d =
    let p = err_from_is_err_and c.from_residual.result c.from_residual.ensures.1 in
    rw p.1 (one_done (Between d) (Synced false) refl c.in_err-sync.ensures tt)

pub returns-in_err-sync-clause-at_ended : goal.returns-in_err-sync-clause-at_ended
returns-in_err-sync-clause-at_ended g c d =
    let p = err_from_is_err_and c.from_residual.result c.from_residual.ensures.1 in
    rw p.1 (one_done (Closing d) (Synced false) refl c.in_err-sync.ensures tt)

pub returns-clause-at_last : goal.returns-clause-at_last
returns-clause-at_last g c d = then_done g.met.W.World.did_more (one_done (Between d) (Synced true) refl c.in_ok-sync.ensures tt) (one_done (Ending d) EndedDay refl c.end_day.ensures tt)

pub returns-clause-at_ended : goal.returns-clause-at_ended
returns-clause-at_ended g c d = then_done g.met.W.World.did_more (one_done (Closing d) (Synced true) refl c.in_ok-sync.ensures tt) (one_done (Ending d) EndedDay refl c.end_day.ensures tt)
