use Rattle.std.proofs.Common.{◌≡◌, ℕ, ap, subst, sym, ◌∙◌, arith, [], ◌++◌, refl}
use Rattle.bx_day.specs.Day.{Day}
use Rattle.bx_calls.specs.Sending.{Sent, spelled}
use Rattle.bx_day.specs.Ticks.{tick}
use Rattle.bx_day.specs.QuietSeconds.{later_by, IsQuietTick}
use Rattle.bx_frames.specs.Frames.{frames_of, turn_frame}
use Rattle.bx_day.proofs.end.ExchangeEnd.skip_quiet_second.Goals as goal

now_is : (d : Day) → later_by 0 d ≡ d
now_is d = ap (λ (m : ℕ). record d { moment = m }) (omega arith)

-- what a quiet tick has written
quiet_text : (d : Day) → tick d ≡ record { day = later_by 1 d; sent = [] } → turn_frame (later_by 1 d).moment ≡ frames_of (spelled (tick d).sent) ++ turn_frame (tick d).day.moment
quiet_text d q = rw q refl

pub returns-clause-sent : goal.returns-clause-sent
returns-clause-sent c = λ _.
    let d = c.args.self.now in
    let quiet = subst IsQuietTick (now_is d) (c.quiet.ensures.each 0 (omega (arith, c.if-quiet-eq0.false))) in
    sym (ap (λ (s : Sent Day). spelled s.sent) quiet)

pub returns-clause-text : goal.returns-clause-text
returns-clause-text c = λ _.
    let d = c.args.self.now in
    let quiet = subst IsQuietTick (now_is d) (c.quiet.ensures.each 0 (omega (arith, c.if-quiet-eq0.false))) in
    ap (λ (x : Day). turn_frame x.moment) c.skip.ensures.moment ∙ quiet_text d quiet
