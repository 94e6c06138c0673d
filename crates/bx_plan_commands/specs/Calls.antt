-- The call that words name, and why they name none.
use Rattle.std.specs.Prelude.{◌≡◌, ◌<◌, ◌≤◌, ◌⊎◌, ℕ, true, false, List, MatchOption}
use Rattle.bx_base.specs.Bookings.{Row}
use Rattle.bx_calendar.specs.NamedDays.{IsDayOf, IsDayFault}
use Rattle.bx_book.specs.Rows.{IsMomentOf, IsTimeFault, span_of}
use Rattle.bx_calendar.specs.declared.day.Day.{Day}
use Rattle.bx_book.specs.declared.fault.BookFault.{BookFault}
use Rattle.bx_book.specs.declared.fault.BookFault.TheVariants.{NotATime, OutsideDay, EndNotAfterStart}
use Rattle.bx_planfile.specs.Forms.{is_decimal}
use Rattle.bx_text.specs.Digits.{decimal_value}
use Rattle.bx_plan_commands.specs.declared.fault.FileFault.{FileFault}
use Rattle.bx_plan_commands.specs.declared.fault.FileFault.TheVariants as files
use Rattle.bx_request.specs.declared.request.Call.{Call}
use Rattle.bx_base.specs.declared.booking.TheConstants.{MAX_MOMENT}

-- ---- seconds that are counted

-- the word is the decimal of a second of a day
pub record IsSecondOf (word : List ℕ) (second : ℕ) : Type 0 where
  pub decimal : is_decimal word ≡ true
  pub value : second ≡ decimal_value word
  pub within : second ≤ MAX_MOMENT

-- it is no decimal, or its value lies after each day
abbrev pub IsSecondFault : List ℕ → BookFault → Type 0
IsSecondFault word (NotATime row) = (row ≡ 1) × (is_decimal word ≡ false)
IsSecondFault word (OutsideDay row) = (row ≡ 1) × (is_decimal word ≡ true) × (MAX_MOMENT < decimal_value word)
IsSecondFault word _ = ⊥

-- ---- two of them, or two times

-- the words start and end a call at these seconds, as one of the two forms has it
pub record AreBoth (IsOne : List ℕ → ℕ → Type 0) (call : Call) (start end : ℕ) : Type 0 where
  pub starts : IsOne call.start.now start
  pub ends : IsOne call.end.now end

-- they do, and the end is not after the start
pub record AreTurned (IsOne : List ℕ → ℕ → Type 0) (call : Call) : Type 0 where
  pub start : ℕ
  pub end : ℕ
  pub times : AreBoth IsOne call start end
  pub turned : end ≤ start

-- the first fault of the two words, of which the first is looked at first
abbrev pub IsFirstOfBoth : (List ℕ → ℕ → Type 0) → (List ℕ → BookFault → Type 0) → Call → BookFault → Type 0
IsFirstOfBoth IsOne IsFault call fault = IsFault call.start.now fault ⊎ ((start : ℕ) × IsOne call.start.now start × IsFault call.end.now fault)

-- why they name no call: the first and only row is it
abbrev pub AreNoTimes : (List ℕ → ℕ → Type 0) → (List ℕ → BookFault → Type 0) → Call → BookFault → Type 0
AreNoTimes IsOne IsFault call (EndNotAfterStart row) = (row ≡ 1) × AreTurned IsOne call
AreNoTimes IsOne IsFault call fault = IsFirstOfBoth IsOne IsFault call fault

-- ---- the call

-- the call starts and ends at these seconds: of the day that is named, or as they are counted
abbrev pub AreTimesOf : Call → ℕ → ℕ → Type 0
AreTimesOf call start end = MatchOption call.day (AreBoth IsSecondOf call start end)
    (λ words. (day : Day) × IsDayOf words.0.now words.1.now day × AreBoth (IsMomentOf (span_of day)) call start end)

-- the booking is of the call
pub record IsCallOf (call : Call) (booking : Row) : Type 0 where
  pub times : AreTimesOf call booking.start booking.end
  pub direction : booking.inward ≡ call.inward

-- the words of the call name no day, or its times are none
abbrev pub IsNoCall : Call → FileFault → Type 0
IsNoCall call (files.Day fault) = MatchOption call.day ⊥ (λ words. IsDayFault words.0.now words.1.now fault)
IsNoCall call (files.Book fault) = MatchOption call.day (AreNoTimes IsSecondOf IsSecondFault call fault)
    (λ words. (day : Day) × IsDayOf words.0.now words.1.now day × AreNoTimes (IsMomentOf (span_of day)) (IsTimeFault (span_of day) 1) call fault)
IsNoCall call _ = ⊥
