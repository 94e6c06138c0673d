-- A day that was run by the clock, over a data link, with a booking office beside it.
use Rattle.std.specs.Prelude.{◌≡◌, ◌⊎◌, ℕ, ◌≤◌, Bool, true, false, List, Option, Some, None}
use Rattle.bx_day.specs.Day.{Day}
use Rattle.bx_day.specs.declared.outcome.GivenUp.{GivenUp}
use Rattle.bx_line_world.specs.Laws.{BeginsApart}
use Rattle.bx_line_world.specs.Posts.{post_from}
use Rattle.bx_line_world.specs.Wires.{WireAct}
use Rattle.bx_line_world.specs.declared.line_world.LineWorld.{LineWorld}
use Rattle.bx_live.specs.Held.{IsHeldOut}
use Rattle.bx_live.specs.declared.log.Log.{Log}
use Rattle.bx_live.specs.declared.schedule.Schedule.{Schedule}
use Rattle.bx_market.specs.Deals.{Deal, acts_of}
use Rattle.bx_market.specs.SaleRuns.{IsWholeSaleRun, IsBrokenRun}
use Rattle.bx_calendar.specs.declared.day.Day.{Day as CalendarDay}
use Rattle.bx_office_door.specs.Attending.{DidBeside}
use Rattle.bx_office_door.specs.Lending.{Lending}
use Rattle.bx_office_door.specs.SharedDoors.{lent_on}
use Rattle.bx_office_door.specs.declared.shared.SharedDoor.{SharedDoor}
use Rattle.bx_office_world.specs.Counters.{AtCounter}
use Rattle.bx_office_world.specs.GivingUp.{NotesGivenUp}
use Rattle.bx_office_world.specs.declared.desk.Opened.{Opened}
use Rattle.bx_office_world.specs.declared.serving.Pending.{Pending}
use Rattle.bx_live_commands.specs.declared.by_office.Premises.{Premises}
use Rattle.bx_office_door.specs.declared.wire.OfficeWire.{OfficeWire}
use Rattle.bx_live_commands.specs.LiveRuns.{deals_by_line, EndsWithNoEvent, RunsByLine, StopsByLine}

-- what the wire inside did, whose waits are cut into slices, and how the door beside it was attended meanwhile
abbrev pub did_at_door : {W S : Type 0} → (W → List WireAct → W → Type 0) → (S → Lending → S → Type 0) → OfficeWire W S → List WireAct → OfficeWire W S → Type 0
did_at_door did lent old acts new = DidBeside did lent old acts new

-- a world over such a data link has gone through the acts among some deals
abbrev pub deals_at_door : {W D S : Type 0} → (W → List WireAct → W → Type 0) → (S → Lending → S → Type 0) → (D → List ℕ → Type 0) → (D → List ℕ → Type 0) → (D → ℕ) → (D → ℕ → List ℕ → Type 0) → (D → Bool) → LineWorld (OfficeWire W S) D → List Deal → LineWorld (OfficeWire W S) D → Type 0
deals_at_door did lent holds may_leave moment left_since has_failed old deals new = deals_by_line (did_at_door did lent) holds may_leave moment left_since has_failed old deals new

-- an office is opened with these premises, on a day that is run to this turn; the clock of its records aside
pub record IsOpenedWith {S : Type 0} (premises : Premises S) (turns : ℕ) (opened : Opened) : Type 0 where
  pub channels : opened.channels ≡ premises.channels
  pub day : opened.day ≡ premises.day
  pub rate : opened.rate ≡ premises.rate
  pub last : opened.last ≡ turns

-- Such an office was asked and has told just what stands in these deals, at its door: whoever waited there was served of the day that was shown, and
-- whoever is told of a sale or a change is the one who asked for it
pub record IsToldAtDoor {S : Type 0} (lent : S → Lending → S → Type 0) (premises : Premises S) (turns : ℕ) (deals : List Deal) : Type 0 where
  pub opened : Opened
  pub opened_with : IsOpenedWith premises turns opened
  pub door : S
  pub waits : Option Pending
  pub told : AtCounter lent opened deals premises.door None door waits

-- A world with the network's end of a data link over this wire, with this schedule and this journal, and with a booking office beside it, has gone
-- through the deals of a run of a day from here to its end: the day went through just the logged events and amendments. It has come to its last second,
-- whatever the line did and whoever asked, and has gone on after it only while a call was up: no call is up at its end, or there are no more seconds.
-- How bookings were given up is as it was before, as noted by just what was logged.
pub record SellsByLine {W D S : Type 0} (did : W → List WireAct → W → Type 0) (lent : S → Lending → S → Type 0) (holds may_leave : D → List ℕ → Type 0) (moment : D → ℕ) (left_since : D → ℕ → List ℕ → Type 0) (has_failed : D → Bool) (wire : W) (schedule : Schedule) (kept : Log D) (premises : Premises S) (turns : ℕ) (from to : Day) (before after : List (Option GivenUp)) : Type 0 where
  pub old : LineWorld (OfficeWire W S) D
  pub new : LineWorld (OfficeWire W S) D
  pub over : old.line.wire.wire ≡ wire
  pub beside : old.line.wire.door ≡ premises.beside
  pub unshown : old.line.wire.shown ≡ 0
  pub unheard : old.line.wire.heard ≡ None
  pub scheduled : old.schedule ≡ schedule
  pub kept_by : old.log ≡ kept
  pub side : old.line.end.network ≡ true
  pub told_before : old.line.post ≡ post_from from.moment
  pub sells : IsWholeSaleRun (deals_at_door did lent holds may_leave moment left_since has_failed) premises.channels old new from to turns
  pub told : IsToldAtDoor lent premises turns sells.run.deals
  pub noted : NotesGivenUp (acts_of sells.run.deals) before after
  pub out : IsHeldOut turns to
  -- a day that goes on begins its first second without a link
  pub apart : 1 ≤ from.moment → BeginsApart (acts_of sells.run.deals)

-- Such a world has gone through the deals of a run that is over before its end, and why: the disk of its journal has failed, or what came is no event
-- of a journal. Nothing is logged after that, and nobody is told that something is sold.
pub record StopsSelling {W D S : Type 0} (did : W → List WireAct → W → Type 0) (lent : S → Lending → S → Type 0) (holds may_leave : D → List ℕ → Type 0) (moment : D → ℕ) (left_since : D → ℕ → List ℕ → Type 0) (has_failed : D → Bool) (wire : W) (schedule : Schedule) (kept : Log D) (premises : Premises S) (turns : ℕ) (from : Day) : Type 0 where
  pub old : LineWorld (OfficeWire W S) D
  pub new : LineWorld (OfficeWire W S) D
  pub over : old.line.wire.wire ≡ wire
  pub beside : old.line.wire.door ≡ premises.beside
  pub unshown : old.line.wire.shown ≡ 0
  pub unheard : old.line.wire.heard ≡ None
  pub scheduled : old.schedule ≡ schedule
  pub kept_by : old.log ≡ kept
  pub stops : IsBrokenRun (deals_at_door did lent holds may_leave moment left_since has_failed) premises.channels old new from turns
  pub told : IsToldAtDoor lent premises turns stops.run.deals
  pub disk : D
  pub disk_is : new.log.disk ≡ Some disk
  pub cause : (has_failed disk ≡ true) ⊎ EndsWithNoEvent (acts_of stops.run.deals)

-- the premises of an office that sells on these channels, on this day, at this rate
abbrev pub AreOf : List Bool → CalendarDay → ℕ → Premises SharedDoor → Type 0
AreOf channels day rate premises = (premises.channels ≡ channels) × (premises.day ≡ day) × (premises.rate ≡ rate)

-- the rest of a day, where there is an office and where there is none
abbrev pub RunsOn : {W D : Type 0} → Bool → (W → List WireAct → W → Type 0) → (D → List ℕ → Type 0) → (D → List ℕ → Type 0) → (D → ℕ) → (D → ℕ → List ℕ → Type 0) → (D → Bool) → W → Schedule → Log D → List Bool → CalendarDay → ℕ → ℕ → Day → Day → List (Option GivenUp) → List (Option GivenUp) → Type 0
RunsOn false did holds may_leave moment left_since has_failed wire schedule kept channels day rate turns from to before after = RunsByLine did holds may_leave moment left_since has_failed wire schedule kept channels turns from to before after
RunsOn true did holds may_leave moment left_since has_failed wire schedule kept channels day rate turns from to before after =
    (premises : Premises SharedDoor) × AreOf channels day rate premises × SellsByLine did lent_on holds may_leave moment left_since has_failed wire schedule kept premises turns from to before after

abbrev pub StopsOn : {W D : Type 0} → Bool → (W → List WireAct → W → Type 0) → (D → List ℕ → Type 0) → (D → List ℕ → Type 0) → (D → ℕ) → (D → ℕ → List ℕ → Type 0) → (D → Bool) → W → Schedule → Log D → List Bool → CalendarDay → ℕ → ℕ → Day → Type 0
StopsOn false did holds may_leave moment left_since has_failed wire schedule kept channels day rate turns from = StopsByLine did holds may_leave moment left_since has_failed wire schedule kept channels turns from
StopsOn true did holds may_leave moment left_since has_failed wire schedule kept channels day rate turns from =
    (premises : Premises SharedDoor) × AreOf channels day rate premises × StopsSelling did lent_on holds may_leave moment left_since has_failed wire schedule kept premises turns from
