use Rattle.std.proofs.Common.{◌≡◌, ◌+◌, ◌++◌, ◌∷◌, [], ℕ, List, Ok, map, take, get_or, refl, ap, sym, ◌∙◌, subst, arith}
use Rattle.std.proofs.lemmas.List.{take_all, length-map, length-take, take-take}
use Rattle.bx_events.specs.Events.{LiveEvent}
use Rattle.bx_events.specs.declared.event.LiveEvent.TheVariants as rust
use Rattle.bx_events.specs.declared.event.Event.TheVariants as plain
use Rattle.bx_events.specs.Told.{live_event_of}
use Rattle.bx_journal.specs.declared.head.Head.{Head}
use Rattle.bx_journal.specs.Logging.{IsSettled, IsPending, IsPrefix}
use Rattle.bx_journal.proofs.Moments.{started}
use Rattle.bx_journal.proofs.Logged.{pending, ok_then}
use Rattle.bx_journal.proofs.Prefixes.{leaves_then, more_of}
use Rattle.bx_journal.proofs.logging.log_events.Goals as goal

-- a prefix of a prefix
within : (head : Head) (before all : List LiveEvent) (i : ℕ) (c : List ℕ) → IsPrefix head before (take i all) c → IsPrefix head before all c
within head before all i c f =
    (f.0, omega (arith, f.1, length-take i all), f.2 ∙ ap (λ (l : List LiveEvent). Ok (before ++ l)) (take-take f.0 i all (omega (arith, f.1, length-take i all))))

pub loop-event-init : goal.loop-event-init
loop-event-init g c = record {
  written = λ head before s. pending g.D.Disk.holds g.D.Disk.may_leave c.args.disk.now head before s;
  left = λ head before s.
      let all = map live_event_of c.args.events.now in
      let p = pending g.D.Disk.holds g.D.Disk.may_leave c.args.disk.now head before s in
      started g.D.Disk.moment g.D.Disk.left_since c.args.disk.now (IsPrefix head before all) (λ f left. within head before all 0 f (p.left f (g.met.D.Disk.only_now c.args.disk.now f left)));
  unfailed = refl;
}

pub returns-in_err-write_event-clause-any_moment : goal.returns-in_err-write_event-clause-any_moment
returns-in_err-write_event-clause-any_moment g c = λ head before s.
    let i = c.loop-event.event-index in
    let all = map live_event_of c.args.events.now in
    let e = live_event_of (get_or c.args.events.now i (rust.OnLink plain.Tick)) in
    let next = more_of c.args.events.now i c.loop-event-test.true in
    leaves_then g.D.Disk.moment g.D.Disk.left_since c.args.disk.now c.loop-event.disk c.write_event.new.disk (IsPrefix head before all) (IsPrefix head before (take i all ++ e ∷ []))
    (c.loop-event.invariant.left head before s) (c.write_event.ensures.any_moment head before (take i all) (c.loop-event.invariant.written head before s))
    (λ f q. within head before all (i + 1) f (subst (λ (l : List LiveEvent). IsPrefix head before l f) (sym next) q))

pub loop-event-preserved : goal.loop-event-preserved
loop-event-preserved g c =
    let i = c.loop-event.event-index in
    let all = map live_event_of c.args.events.now in
    let e = live_event_of (get_or c.args.events.now i (rust.OnLink plain.Tick)) in
    let next = more_of c.args.events.now i c.loop-event-test.true in
    record {
      written = λ head before s.
          subst (IsPending g.D.Disk.holds g.D.Disk.may_leave c.write_event.new.disk head before) (sym next) (c.in_ok-write_event.ensures.written head before (take i all) (c.loop-event.invariant.written head before s));
      left = λ head before s.
          leaves_then g.D.Disk.moment g.D.Disk.left_since c.args.disk.now c.loop-event.disk c.write_event.new.disk (IsPrefix head before all) (IsPrefix head before (take i all ++ e ∷ []))
          (c.loop-event.invariant.left head before s) (c.write_event.ensures.any_moment head before (take i all) (c.loop-event.invariant.written head before s))
          (λ f q. within head before all (i + 1) f (subst (λ (l : List LiveEvent). IsPrefix head before l f) (sym next) q));
      unfailed = c.in_ok-write_event.ensures.unfailed ∙ c.loop-event.invariant.unfailed;
    }

pub returns-clause-logged : goal.returns-clause-logged
returns-clause-logged g c = ok_then c.commit.result c.commit.ensures.committed (λ committed head before s.
    let all = map live_event_of c.args.events.now in
    let whole : take c.loop-event.event-index all ≡ all = take_all c.loop-event.event-index all (omega (arith, length-map c.args.events.now live_event_of, c.loop-event-test.false)) in
    subst (λ (l : List LiveEvent). IsSettled g.D.Disk.holds g.D.Disk.may_leave c.commit.new.disk head (before ++ l)) whole (committed head before (take c.loop-event.event-index all) (c.loop-event.invariant.written head before s)))

pub returns-clause-any_moment : goal.returns-clause-any_moment
returns-clause-any_moment g c = λ head before s.
    let i = c.loop-event.event-index in
    let all = map live_event_of c.args.events.now in
    leaves_then g.D.Disk.moment g.D.Disk.left_since c.args.disk.now c.loop-event.disk c.commit.new.disk (IsPrefix head before all) (IsPrefix head before (take i all))
    (c.loop-event.invariant.left head before s) (c.commit.ensures.any_moment head before (take i all) (c.loop-event.invariant.written head before s)) (λ f q. within head before all i f q)
