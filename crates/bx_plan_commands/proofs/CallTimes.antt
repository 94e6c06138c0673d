-- Why a call has no times, where its day is named and where it is not.
use Rattle.std.proofs.Common.{ℕ, ◌≤◌, List, Option, Some, None, refl, inl, inr}
use Rattle.std.specs.Prelude.{MatchOption}
use Rattle.bx_calendar.specs.NamedDays.{IsDayOf}
use Rattle.bx_book.specs.Rows.{Span, IsMomentOf, IsTimeFault, span_of}
use Rattle.bx_calendar.specs.declared.day.Day.{Day}
use Rattle.bx_book.specs.declared.fault.BookFault.{BookFault}
use Rattle.bx_book.specs.declared.fault.BookFault.TheVariants.{EndNotAfterStart}
use Rattle.bx_plan_commands.specs.Calls.{IsSecondOf, IsSecondFault, AreBoth, IsFirstOfBoth, AreNoTimes}
use Rattle.bx_request.specs.declared.request.Call.{Call}

pub no_times : (span : Span) (call : Call) (fault : BookFault) → IsFirstOfBoth (IsMomentOf span) (IsTimeFault span 1) call fault → AreNoTimes (IsMomentOf span) (IsTimeFault span 1) call fault
no_times span call (EndNotAfterStart row) (inl p) = absurd p
no_times span call (EndNotAfterStart row) (inr (start, starts, p)) = absurd p
no_times span call fault p = p

pub turned : {A : Type 0} (o : Option A) (date zone : A → List ℕ) (call : Call) (start end : ℕ)
    → MatchOption o (AreBoth IsSecondOf call start end) (λ words. (day : Day) × IsDayOf (date words) (zone words) day × AreBoth (IsMomentOf (span_of day)) call start end) → end ≤ start
    → MatchOption o (AreNoTimes IsSecondOf IsSecondFault call (EndNotAfterStart 1)) (λ words. (day : Day) × IsDayOf (date words) (zone words) day × AreNoTimes (IsMomentOf (span_of day)) (IsTimeFault (span_of day) 1) call (EndNotAfterStart 1))
turned None date zone call start end times le = (refl, record { start = start; end = end; times = times; turned = le })
turned (Some words) date zone call start end (day, named, times) le = (day, named, (refl, record { start = start; end = end; times = times; turned = le }))
