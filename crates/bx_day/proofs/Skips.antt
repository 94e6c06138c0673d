-- Quiet ticks one after another.
use Rattle.std.proofs.Common.{◌≡◌, ℕ, zero, suc, replicate, ◌+◌, arith, sym, subst, ap, ◌∙◌}
use Rattle.bx_day.specs.declared.entry.Link.TheVariants.{Up}
use Rattle.bx_day.specs.Day.{Day}
use Rattle.bx_calls.specs.Sending.{Sent}
use Rattle.bx_day.specs.QuietSeconds.{later_by, IsQuietTick, IsQuietFor}
use Rattle.bx_day.specs.Reading.{IsExchange}
use Rattle.bx_events.specs.Events.{Tick}
use Rattle.bx_day.specs.Run.{day_after}
use Rattle.bx_day.proofs.Passing.{tick_is, passed_stays}
use Rattle.bx_day.proofs.Dues.{quiet_early}

pub later_none : (d : Day) → later_by 0 d ≡ d
later_none d = ap (λ t. record d { moment = t }) (let same : d.moment + 0 ≡ d.moment = omega arith in same)

pub later_more : (n : ℕ) (d : Day) → later_by n (later_by 1 d) ≡ later_by (suc n) d
later_more n d = ap (λ t. record d { moment = t }) (let same : d.moment + 1 + n ≡ d.moment + suc n = omega arith in same)

first_quiet : (n : ℕ) (d : Day) → IsQuietFor (suc n) d → IsQuietTick d
first_quiet n d h = subst IsQuietTick (later_none d) (h 0 (omega arith))

rest_quiet : (n : ℕ) (d : Day) → IsQuietFor (suc n) d → IsQuietFor n (later_by 1 d)
rest_quiet n d h k lt = subst IsQuietTick (sym (later_more k d)) (h (suc k) (omega (arith, lt)))

pub skipped : (n : ℕ) (d : Day) → IsQuietFor n d → later_by n d ≡ day_after (replicate n Tick) d
skipped zero d h = later_none d
skipped (suc n) d h =
    sym (later_more n d) ∙ skipped n (later_by 1 d) (rest_quiet n d h)
    ∙ sym (ap (λ (s : Sent Day). day_after (replicate n Tick) s.day) (first_quiet n d h))

pub skip_stays : (n : ℕ) (d : Day) → IsExchange d → IsQuietFor n d → IsExchange (later_by n d)
skip_stays zero d h quiet = subst IsExchange (sym (later_none d)) h
skip_stays (suc n) d h quiet =
    let early = quiet_early d (first_quiet n d quiet) in
    let next : IsExchange (later_by 1 d) = subst (λ (s : Sent Day). IsExchange s.day) (sym (tick_is d early) ∙ first_quiet n d quiet) (passed_stays Up d early h) in
    subst IsExchange (later_more n d) (skip_stays n (later_by 1 d) next (rest_quiet n d quiet))
