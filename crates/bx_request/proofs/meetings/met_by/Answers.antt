use Rattle.std.proofs.Common.{Some, None, refl}
use Rattle.bx_request.proofs.LeftFiles.{all_rest, any_here, any_rest}
use Rattle.bx_request.proofs.meetings.met_by.Goals as goal
use Rattle.bx_request.proofs.meetings.met_by.Goals.{in-Some+else-meets, in_default}

pub loop-file-preserved : goal.loop-file-preserved
loop-file-preserved g c = elim c.match-file.branch [
  | in-Some+else-meets w ↦ (
    λ all. c.loop-file.invariant.0 (all_rest (g.H.Locates.tells c.args.rt.now) c.args.name.now c.args.is_written c.args.files.now c.loop-file.file-index (Some w.in-Some.file) c.loop-file-test.true w.in-Some.is (w.meets.ensures.apart w.if-meets.false) all),
    λ met m. c.loop-file.invariant.1 met (any_rest (g.H.Locates.tells c.args.rt.now) c.args.name.now c.args.is_written c.args.files.now c.loop-file.file-index (Some w.in-Some.file) c.loop-file-test.true w.in-Some.is met m),
  )
  | in_default w ↦ (
    λ all. c.loop-file.invariant.0 (all_rest (g.H.Locates.tells c.args.rt.now) c.args.name.now c.args.is_written c.args.files.now c.loop-file.file-index None c.loop-file-test.true w.in_default.is tt all),
    λ met m. c.loop-file.invariant.1 met (any_rest (g.H.Locates.tells c.args.rt.now) c.args.name.now c.args.is_written c.args.files.now c.loop-file.file-index None c.loop-file-test.true w.in_default.is met m),
  )
]

pub returns-then-meets-clause-met : goal.returns-then-meets-clause-met
returns-then-meets-clause-met g c = c.loop-file.invariant.1 c.in-Some.file.name.now
    (any_here (g.H.Locates.tells c.args.rt.now) c.args.name.now c.args.is_written c.args.files.now c.loop-file.file-index (Some c.in-Some.file) c.loop-file-test.true c.in-Some.is c.in-Some.file refl (c.meets.ensures.meets c.if-meets.true))

pub returns-then-meets-clause-apart : goal.returns-then-meets-clause-apart
returns-then-meets-clause-apart g c = λ none. absurd cc

pub returns-clause-met : goal.returns-clause-met
returns-clause-met g c = tt
