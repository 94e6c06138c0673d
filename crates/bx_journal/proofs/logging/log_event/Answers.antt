use Rattle.std.proofs.Common.{◌∷◌, []}
use Rattle.bx_events.specs.Told.{live_event_of}
use Rattle.bx_journal.specs.Logging.{IsPrefix}
use Rattle.bx_journal.proofs.Prefixes.{leaves_then}
use Rattle.bx_journal.proofs.Logged.{pending, ok_then}
use Rattle.bx_journal.proofs.logging.log_event.Goals as goal

pub returns-in_err-write_event-clause-any_moment : goal.returns-in_err-write_event-clause-any_moment
returns-in_err-write_event-clause-any_moment g c = λ head events s. c.write_event.ensures.any_moment head events [] (pending g.D.Disk.holds g.D.Disk.may_leave c.args.disk.now head events s)

pub returns-clause-logged : goal.returns-clause-logged
returns-clause-logged g c = ok_then c.commit.result c.commit.ensures.committed (λ committed head events s.
    committed head events (live_event_of c.args.event ∷ []) (c.in_ok-write_event.ensures.written head events [] (pending g.D.Disk.holds g.D.Disk.may_leave c.args.disk.now head events s)))

pub returns-clause-any_moment : goal.returns-clause-any_moment
returns-clause-any_moment g c = λ head events s.
    let p = pending g.D.Disk.holds g.D.Disk.may_leave c.args.disk.now head events s in
    let P = IsPrefix head events (live_event_of c.args.event ∷ []) in
    leaves_then g.D.Disk.moment g.D.Disk.left_since c.args.disk.now c.write_event.new.disk c.commit.new.disk P P (c.write_event.ensures.any_moment head events [] p)
    (c.commit.ensures.any_moment head events (live_event_of c.args.event ∷ []) (c.in_ok-write_event.ensures.written head events [] p)) (λ f q. q)

pub returns-clause-step : goal.returns-clause-step
returns-clause-step g c = ok_then c.commit.result c.commit.ensures.committed (λ committed. record {
  logged = λ head events s.
      committed head events (live_event_of c.args.event ∷ []) (c.in_ok-write_event.ensures.written head events [] (pending g.D.Disk.holds g.D.Disk.may_leave c.args.disk.now head events s));
  any_moment = λ head events s. returns-clause-any_moment g c head events s;
})
