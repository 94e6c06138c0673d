-- Private: what its functions promise one another.
use Rattle.std.specs.Borrow.{Bor}
use Rattle.std.specs.Prelude.{◌≡◌, ◌⊎◌, ℕ, Bool, List, Option}
use Rattle.std.specs.Io.KnownBytes.{Appends}
use Rattle.bx_base.specs.Bookings.{Row}
use Rattle.bx_base.specs.Channels.{count_of}
use Rattle.bx_base.specs.PlanParts.{Parts}
use Rattle.bx_devices.specs.Devices.{Reading, Writing, writing_of}
use Rattle.bx_devices.specs.declared.watched.Watched.{Watched}
use Rattle.bx_calendar.specs.declared.clock.Clock.{Clock}
use Rattle.bx_calendar.specs.declared.day.Day.{Day}
use Rattle.bx_chart.specs.Charts.{IsDrawn, IsChartRefusal}
use Rattle.bx_check_commands.specs.Inputs.{IsReadOf}
use Rattle.bx_check_commands.specs.PlanFiles.{IsUnopened}
use Rattle.bx_check_commands.specs.Proved.{IsProvedFor, IsProvedAgainst, proved_line}
use Rattle.bx_check_commands.specs.Refusals.{IsRefusalAgainst}
use Rattle.bx_planner.specs.Amending.{amended}
use Rattle.bx_planner.specs.Earnings.{IsEarning}
use Rattle.bx_planner.specs.declared.earnings.Earning.TheVariants.{Most}
use Rattle.bx_plan_commands.specs.Amending.{IsAmended, IsAmendRefusal}
use Rattle.bx_plan_commands.specs.FilePlans.{AreBookingsOf}
use Rattle.bx_plan_commands.specs.FileRefusals.{IsFileFault, HasNoBookings, IsAmendmentTold}
use Rattle.bx_plan_commands.specs.Notes.{IsNoteWritten}
use Rattle.bx_plan_commands.specs.declared.amending.AmendFault.{AmendFault}
use Rattle.bx_book.specs.declared.stream.StreamFault.TheVariants as stream
use Rattle.bx_check_commands.specs.declared.fault.CommandFault.TheVariants.{CannotRead, CannotWrite, Memory}
use Rattle.bx_plan_commands.specs.declared.fault.FileFault.{FileFault}
use Rattle.bx_plan_commands.specs.declared.fault.FileFault.TheVariants as files
use Rattle.bx_plan_commands.specs.declared.earning.CapacityFault.{CapacityFault}
use Rattle.bx_plan_commands.specs.declared.earning.CapacityFault.TheVariants as capacity

-- why what each count of channels would earn was not written, of an input of this name
abbrev pub capacity_told_of : Bor (List ℕ) → CapacityFault → FileFault
capacity_told_of name (capacity.Unread (stream.Book fault)) = files.Book fault
capacity_told_of name (capacity.Unread stream.Memory) = files.Command Memory
capacity_told_of name (capacity.Unread _) = files.Command (CannotRead name)
capacity_told_of name capacity.WriteFailed = files.Command CannotWrite
capacity_told_of name capacity.Memory = files.Command Memory

-- what an input of this name gave is a plan that is proved for just these bookings and channels, and the line of its total was written
pub record IsCheckedFor (gives : List ℕ → Option (List ℕ) → Type 0) (rows : List Row) (channels : List Bool) (plan : List ℕ) (output : Writing) : Type 0 where
  pub input : Reading
  pub of_name : IsReadOf gives plan input
  pub total : ℕ
  pub proved : IsProvedAgainst rows channels input.before total
  pub written : Appends output.before output.after (proved_line total)

-- it was opened, and the check of what it gives refused
pub record IsUncheckedFor (gives : List ℕ → Option (List ℕ) → Type 0) (rows : List Row) (channels : List Bool) (plan : List ℕ) (output : Writing) (fault : FileFault) : Type 0 where
  pub input : Reading
  pub of_name : IsReadOf gives plan input
  pub refused : IsFileFault (IsRefusalAgainst rows channels plan input output) fault

-- it was not opened, or so it is
abbrev pub IsNotCheckedFor : {W : Type 0} → (List ℕ → Option (List ℕ) → Type 0) → List Row → List Bool → List ℕ → (W → Option (List ℕ)) → Watched W → Watched W → FileFault → Type 0
IsNotCheckedFor gives rows channels plan contents old new fault =
    (IsFileFault (IsUnopened plan) fault × (new ≡ old)) ⊎ IsUncheckedFor gives rows channels plan (writing_of contents old new) fault

-- more bookings of the day were read, and the text of a best plan was written that holds all that the earlier plan accepts; what was written on
-- standard error is the note of that plan
pub record IsHeldWith (gives : List ℕ → Option (List ℕ) → Type 0) (day : Day) (earlier : Parts) (bookings : List ℕ) (output errors : Writing) : Type 0 where
  pub more : List Row
  pub more_of : AreBookingsOf gives bookings day more
  pub longer : Parts
  pub planned : IsAmended (amended earlier.rows earlier.assigned more) earlier.channels output longer
  pub noted : IsNoteWritten longer errors

-- they were read, and nothing was amended
pub record IsUnamendedWith (gives : List ℕ → Option (List ℕ) → Type 0) (day : Day) (earlier : Parts) (bookings : List ℕ) (output : Writing) (fault : AmendFault) : Type 0 where
  pub more : List Row
  pub more_of : AreBookingsOf gives bookings day more
  pub refused : IsAmendRefusal (amended earlier.rows earlier.assigned more) earlier.channels output fault
  pub told : IsAmendmentTold earlier more fault

-- so it is, or they were not read
abbrev pub IsNotAmendedWith : {W : Type 0} → (List ℕ → Option (List ℕ) → Type 0) → Day → Parts → List ℕ → (W → Option (List ℕ)) → Watched W → Watched W → FileFault → Type 0
IsNotAmendedWith gives day earlier bookings contents old new (files.Amend fault) = IsUnamendedWith gives day earlier bookings (writing_of contents old new) fault
IsNotAmendedWith gives day earlier bookings contents old new fault = HasNoBookings gives bookings day fault × (new ≡ old)

-- a plan is proved for its own bookings and channels
abbrev pub IsProvedAlone : Parts → Type 0
IsProvedAlone plan = (total : ℕ) × IsProvedFor plan.rows plan.channels plan total

-- a picture of this plan was written, with what one more channel would add to its total, and the hours of this clock
abbrev pub IsDrawnWith : Parts → Option Clock → Writing → Type 0
IsDrawnWith plan clock output = (gain : ℕ) × IsEarning plan.rows (count_of plan.channels) (Most plan.total gain) × IsDrawn plan gain clock output

-- it was not, or memory ran out before that gain was known
abbrev pub IsNotDrawnWith : {W : Type 0} → Parts → Option Clock → (W → Option (List ℕ)) → Watched W → Watched W → FileFault → Type 0
IsNotDrawnWith plan clock contents old new (files.Chart fault) =
    (gain : ℕ) × IsEarning plan.rows (count_of plan.channels) (Most plan.total gain) × IsChartRefusal plan gain clock (writing_of contents old new) fault
IsNotDrawnWith plan clock contents old new (files.Command Memory) = new ≡ old
IsNotDrawnWith plan clock contents old new _ = ⊥
