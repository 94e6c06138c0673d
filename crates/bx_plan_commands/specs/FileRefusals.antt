-- Why a command on files is refused, and what it did to its output then.
use Rattle.std.specs.Prelude.{◌≡◌, ◌↔◌, ◌<◌, ◌≤◌, ◌+◌, ℕ, Bool, List, Option, length, ◌⊎◌}
use Rattle.bx_base.specs.Bookings.{Row}
use Rattle.bx_base.specs.Channels.{AreChannels}
use Rattle.bx_base.specs.ChannelFaults.{IsFirstChannelFault}
use Rattle.bx_devices.specs.Devices.{Reading, Writing, writing_of}
use Rattle.bx_base.specs.PlanParts.{Parts}
use Rattle.bx_devices.specs.declared.watched.Watched.{Watched}
use Rattle.bx_calendar.specs.NamedDays.{IsDayOf, IsDayFault}
use Rattle.bx_book.specs.Rows.{Span, span_of}
use Rattle.bx_book.specs.Streams.{IsStreamFault}
use Rattle.bx_calendar.specs.declared.day.Day.{Day}
use Rattle.bx_book.specs.declared.stream.StreamFault.TheVariants as stream
use Rattle.bx_plan_commands.specs.FilePlans.{AreTerms, AreBookingsOf, AreRowsFor, IsEarlierPlan, IsInputFor}
use Rattle.bx_plan_commands.specs.declared.fault.FileFault.{FileFault}
use Rattle.bx_plan_commands.specs.declared.fault.FileFault.TheVariants as files
use Rattle.bx_plan_commands.specs.Amending.{IsAmendRefusal}
use Rattle.bx_plan_commands.specs.Planning.{IsRunRefusal}
use Rattle.bx_check_commands.specs.Inputs.{IsReadOf, IsNoPlanOf}
use Rattle.bx_check_commands.specs.PlanFiles.{IsUnopened}
use Rattle.bx_check_commands.specs.Refusals.{IsRefusalAgainst}
use Rattle.bx_plan_commands.specs.declared.amending.AmendFault.{AmendFault}
use Rattle.bx_plan_commands.specs.declared.amending.AmendFault.TheVariants as amend
use Rattle.bx_check_commands.specs.declared.fault.CommandFault.{CommandFault}
use Rattle.bx_check_commands.specs.declared.fault.CommandFault.TheVariants.{CannotRead, Memory}
use Rattle.bx_plan_commands.specs.declared.planning.RunFault.{RunFault}
use Rattle.bx_planner.specs.Amending.{amended}
use Rattle.bx_planner.specs.Musts.{IsTooManyMust}
use Rattle.bx_planner.specs.declared.amending.NoAmendment.TheVariants.{TooMany, TooManyMust}
use Rattle.bx_request.specs.declared.request.Terms.{Terms}
use Rattle.bx_base.specs.declared.bookings.TheConstants.{MAX_BOOKINGS}

-- ---- before anything is written

-- this date and this zone name no day
abbrev pub IsNoDay : List ℕ → List ℕ → FileFault → Type 0
IsNoDay date zone (files.Day fault) = IsDayFault date zone fault
IsNoDay date zone _ = ⊥

-- the words name no channels, or they do and name no day, with the first fault of their own
abbrev pub AreNoTerms : Terms → FileFault → Type 0
AreNoTerms terms (files.Channels fault) = IsFirstChannelFault terms.channels.items fault
AreNoTerms terms (files.Day fault) = AreChannels terms.channels.items × IsDayFault terms.date.now terms.zone.now fault
AreNoTerms terms _ = ⊥

-- an input is not opened, or not read as it has to be, for such a reason
abbrev pub IsFileFault : (CommandFault → Type 0) → FileFault → Type 0
IsFileFault why (files.Command fault) = why fault
IsFileFault why _ = ⊥

-- what was read are no bookings of the day, with the first fault of the text; or it was not read to its end; or memory ran out
abbrev pub AreNoBookings : List ℕ → Reading → Span → FileFault → Type 0
AreNoBookings name input span (files.Command (CannotRead n)) = (n.now ≡ name) × (IsStreamFault input span stream.ReadFailed ⊎ IsStreamFault input span stream.TooLong)
AreNoBookings name input span (files.Command Memory) = IsStreamFault input span stream.Memory
AreNoBookings name input span (files.Book fault) = IsStreamFault input span (stream.Book fault)
AreNoBookings name input span _ = ⊥

-- an input of this name is not opened, or there are no bookings of it
abbrev pub HasNoBookings : (List ℕ → Option (List ℕ) → Type 0) → List ℕ → Day → FileFault → Type 0
HasNoBookings gives name day fault = IsFileFault (IsUnopened name) fault ⊎ ((input : Reading) × IsReadOf gives name input × AreNoBookings name input (span_of day) fault)

-- ---- plans

-- an input of bookings was opened, and a run over it refused
abbrev pub IsUnplanned : (List ℕ → Option (List ℕ) → Type 0) → Terms → List ℕ → Writing → RunFault → Type 0
IsUnplanned gives terms bookings output fault = (given : IsInputFor gives terms bookings) × IsRunRefusal given.input output (span_of given.day) given.channels fault

-- the words name channels and a day
abbrev pub AreSomeTerms : Terms → Type 0
AreSomeTerms terms = (channels : List Bool) × (day : Day) × AreTerms terms channels day

abbrev pub IsPlanRefusal : {W : Type 0} → (List ℕ → Option (List ℕ) → Type 0) → Terms → List ℕ → (W → Option (List ℕ)) → Watched W → Watched W → FileFault → Type 0
IsPlanRefusal gives terms bookings contents old new (files.Run fault) = IsUnplanned gives terms bookings (writing_of contents old new) fault
IsPlanRefusal gives terms bookings contents old new fault = (AreNoTerms terms fault ⊎ (AreSomeTerms terms × IsFileFault (IsUnopened bookings) fault)) × (new ≡ old)

-- ---- checks

-- there are no bookings
abbrev pub IsWithoutBookings : (List ℕ → Option (List ℕ) → Type 0) → Terms → List ℕ → FileFault → Type 0
IsWithoutBookings gives terms bookings fault = (channels : List Bool) × (day : Day) × AreTerms terms channels day × HasNoBookings gives bookings day fault

-- there are, and no input of the plan
abbrev pub IsWithoutPlan : (List ℕ → Option (List ℕ) → Type 0) → Terms → List ℕ → List ℕ → FileFault → Type 0
IsWithoutPlan gives terms bookings plan fault = AreRowsFor gives terms bookings × IsFileFault (IsUnopened plan) fault

-- it was opened, and the check of what it gives refused
pub record IsUnchecked (gives : List ℕ → Option (List ℕ) → Type 0) (terms : Terms) (bookings plan : List ℕ) (output : Writing) (fault : FileFault) : Type 0 where
  pub given : AreRowsFor gives terms bookings
  pub input : Reading
  pub of_name : IsReadOf gives plan input
  pub refused : IsFileFault (IsRefusalAgainst given.rows given.channels plan input output) fault

abbrev pub IsCheckRefusal : {W : Type 0} → (List ℕ → Option (List ℕ) → Type 0) → Terms → List ℕ → List ℕ → (W → Option (List ℕ)) → Watched W → Watched W → FileFault → Type 0
IsCheckRefusal gives terms bookings plan contents old new fault =
    ((AreNoTerms terms fault ⊎ IsWithoutBookings gives terms bookings fault ⊎ IsWithoutPlan gives terms bookings plan fault) × (new ≡ old))
    ⊎ IsUnchecked gives terms bookings plan (writing_of contents old new) fault

-- ---- amendments

-- each fault of an amendment that can be seen is told, and no other in its place
pub record IsAmendmentTold (earlier : Parts) (more : List Row) (fault : AmendFault) : Type 0 where
  pub full : (fault ≡ amend.Amend TooMany) ↔ (MAX_BOOKINGS < length earlier.rows + length more)
  pub musts : (t : ℕ) → (fault ≡ amend.Amend (TooManyMust t)) ↔ ((length earlier.rows + length more ≤ MAX_BOOKINGS) × IsTooManyMust (amended earlier.rows earlier.assigned more) earlier.channels t)

-- nothing was amended
pub record IsUnamended (gives : List ℕ → Option (List ℕ) → Type 0) (date zone plan bookings : List ℕ) (output : Writing) (fault : AmendFault) : Type 0 where
  pub given : IsEarlierPlan gives date zone plan
  pub more : List Row
  pub more_of : AreBookingsOf gives bookings given.day more
  pub refused : IsAmendRefusal (amended given.earlier.rows given.earlier.assigned more) given.earlier.channels output fault
  pub told : IsAmendmentTold given.earlier more fault

-- the words name a day
abbrev pub IsSomeDay : List ℕ → List ℕ → Type 0
IsSomeDay date zone = (day : Day) × IsDayOf date zone day

-- the earlier plan was read, and no more bookings
abbrev pub IsWithoutMore : (List ℕ → Option (List ℕ) → Type 0) → List ℕ → List ℕ → List ℕ → List ℕ → FileFault → Type 0
IsWithoutMore gives date zone plan bookings fault = (given : IsEarlierPlan gives date zone plan) × HasNoBookings gives bookings given.day fault

abbrev pub IsNotAmended : {W : Type 0} → (List ℕ → Option (List ℕ) → Type 0) → List ℕ → List ℕ → List ℕ → List ℕ → (W → Option (List ℕ)) → Watched W → Watched W → FileFault → Type 0
IsNotAmended gives date zone plan bookings contents old new (files.Amend fault) = IsUnamended gives date zone plan bookings (writing_of contents old new) fault
IsNotAmended gives date zone plan bookings contents old new fault =
    (IsNoDay date zone fault ⊎ (IsSomeDay date zone × IsFileFault (IsNoPlanOf gives plan) fault) ⊎ IsWithoutMore gives date zone plan bookings fault) × (new ≡ old)
