-- What the commands on bookings write.
use Rattle.std.specs.Prelude.{ℕ, Bool, List, Option}
use Rattle.std.specs.Io.KnownBytes.{Appends}
use Rattle.bx_base.specs.Bookings.{Row}
use Rattle.bx_base.specs.Channels.{AreChannels, HasJust}
use Rattle.bx_devices.specs.Devices.{Reading, Writing}
use Rattle.bx_base.specs.PlanParts.{Parts}
use Rattle.bx_calendar.specs.NamedDays.{IsDayOf}
use Rattle.bx_book.specs.Rows.{span_of}
use Rattle.bx_book.specs.Streams.{IsBookRead}
use Rattle.bx_calendar.specs.declared.day.Day.{Day}
use Rattle.bx_plan_commands.specs.Amending.{IsAmended}
use Rattle.bx_plan_commands.specs.Notes.{IsNoteWritten}
use Rattle.bx_plan_commands.specs.Planning.{IsPlanRun}
use Rattle.bx_check_commands.specs.Inputs.{IsReadOf, IsPlanOf}
use Rattle.bx_check_commands.specs.Proved.{IsProvedAgainst, proved_line}
use Rattle.bx_planner.specs.Amending.{amended}
use Rattle.bx_request.specs.declared.request.Terms.{Terms}

-- the words name this day, and just these channels
pub record AreTerms (terms : Terms) (channels : List Bool) (day : Day) : Type 0 where
  pub day_of : IsDayOf terms.date.now terms.zone.now day
  pub numbers : AreChannels terms.channels.items
  pub just : HasJust channels terms.channels.items

-- what an input of this name gave to its end are these bookings of the day
pub record AreBookingsOf (gives : List ℕ → Option (List ℕ) → Type 0) (name : List ℕ) (day : Day) (rows : List Row) : Type 0 where
  pub input : Reading
  pub of_name : IsReadOf gives name input
  pub read : IsBookRead input (span_of day) rows

-- the words name channels and a day, and an input of bookings was read from its beginning
pub record IsInputFor (gives : List ℕ → Option (List ℕ) → Type 0) (terms : Terms) (bookings : List ℕ) : Type 0 where
  pub channels : List Bool
  pub day : Day
  pub named : AreTerms terms channels day
  pub input : Reading
  pub of_name : IsReadOf gives bookings input

-- the bookings were read, and the text of a best plan of them on just the channels that the words name was written
pub record IsPlanned (gives : List ℕ → Option (List ℕ) → Type 0) (terms : Terms) (bookings : List ℕ) (output : Writing) : Type 0 where
  pub given : IsInputFor gives terms bookings
  pub plan : Parts
  pub run : IsPlanRun given.input output (span_of given.day) given.channels plan

-- what such an input gave to its end are bookings of that day
pub record AreRowsFor (gives : List ℕ → Option (List ℕ) → Type 0) (terms : Terms) (bookings : List ℕ) : Type 0 where
  pub channels : List Bool
  pub day : Day
  pub named : AreTerms terms channels day
  pub rows : List Row
  pub rows_of : AreBookingsOf gives bookings day rows

-- the bookings and a plan were read, the plan is proved for just these bookings and the channels that the words name, and the
-- line of its total was written
pub record IsChecked (gives : List ℕ → Option (List ℕ) → Type 0) (terms : Terms) (bookings plan : List ℕ) (output : Writing) : Type 0 where
  pub given : AreRowsFor gives terms bookings
  pub input : Reading
  pub of_name : IsReadOf gives plan input
  pub total : ℕ
  pub proved : IsProvedAgainst given.rows given.channels input.before total
  pub written : Appends output.before output.after (proved_line total)

-- the words name a day, and an input gave an earlier plan
pub record IsEarlierPlan (gives : List ℕ → Option (List ℕ) → Type 0) (date zone plan : List ℕ) : Type 0 where
  pub day : Day
  pub day_of : IsDayOf date zone day
  pub earlier : Parts
  pub earlier_of : IsPlanOf gives plan earlier

-- a plan and more bookings were read, and the text of a best plan was written that holds all that it accepts, for its bookings
-- and for these
pub record IsHeld (gives : List ℕ → Option (List ℕ) → Type 0) (date zone plan bookings : List ℕ) (output : Writing) : Type 0 where
  pub given : IsEarlierPlan gives date zone plan
  pub more : List Row
  pub more_of : AreBookingsOf gives bookings given.day more
  pub longer : Parts
  pub planned : IsAmended (amended given.earlier.rows given.earlier.assigned more) given.earlier.channels output longer

-- and what was written on standard error is the note on bookings of the same plan that no day carries, where there are some
pub record IsPlanNoted (gives : List ℕ → Option (List ℕ) → Type 0) (terms : Terms) (bookings : List ℕ) (output errors : Writing) : Type 0 where
  pub planned : IsPlanned gives terms bookings output
  pub noted : IsNoteWritten planned.plan errors

pub record IsHeldNoted (gives : List ℕ → Option (List ℕ) → Type 0) (date zone plan bookings : List ℕ) (output errors : Writing) : Type 0 where
  pub held : IsHeld gives date zone plan bookings output
  pub noted : IsNoteWritten held.longer errors
