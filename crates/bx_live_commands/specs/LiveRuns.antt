-- A day that was run by the clock, over a data link.
use Rattle.std.specs.Prelude.{◌≡◌, ◌⊎◌, ℕ, ◌≤◌, Bool, true, false, List, [], ◌∷◌, Option, Some}
use Rattle.bx_day.specs.Day.{Day}
use Rattle.bx_day.specs.declared.outcome.GivenUp.{GivenUp}
use Rattle.bx_journal.specs.Events.{IsLoggable}
use Rattle.bx_line_world.specs.Days.{GoesByLine}
use Rattle.bx_line_world.specs.Laws.{BeginsApart}
use Rattle.bx_line_world.specs.Posts.{post_from}
use Rattle.bx_line_world.specs.Wires.{WireAct}
use Rattle.bx_line_world.specs.declared.line_world.LineWorld.{LineWorld}
use Rattle.bx_live.specs.Acts.{Act, Logged}
use Rattle.bx_live.specs.Held.{IsHeldOut}
use Rattle.bx_live.specs.Chains.{Chain}
use Rattle.bx_live.specs.declared.log.Log.{Log}
use Rattle.bx_live.specs.declared.schedule.Schedule.{Schedule}
use Rattle.bx_market.specs.Deals.{Deal, acts_of}
use Rattle.bx_market.specs.SaleRuns.{IsWholeSaleRun, IsBrokenRun}
use Rattle.bx_office_world.specs.GivingUp.{NotesGivenUp}
use Rattle.bx_live_commands.specs.Unasked.{AskNothing}

-- a world over this data link has gone through the acts among some deals
abbrev pub deals_by_line : {W D : Type 0} → (W → List WireAct → W → Type 0) → (D → List ℕ → Type 0) → (D → List ℕ → Type 0) → (D → ℕ) → (D → ℕ → List ℕ → Type 0) → (D → Bool) → LineWorld W D → List Deal → LineWorld W D → Type 0
deals_by_line did holds may_leave moment left_since has_failed old deals new = Chain (GoesByLine did holds may_leave moment left_since has_failed) old (acts_of deals) new

-- A world with the network's end of a data link over this wire, with this schedule and this journal, has gone through the deals of a run of a day from
-- here to its end, in which nobody asked for anything: the day went through just the logged events and amendments, by which what waits on a channel of
-- these that is lost has left it. It has come to its last second, whatever the line did, and has gone on after it only while a call was up: no call is
-- up at its end, or there are no more seconds. How bookings were given up is as it was before, as noted by just what was logged.
pub record RunsByLine {W D : Type 0} (did : W → List WireAct → W → Type 0) (holds may_leave : D → List ℕ → Type 0) (moment : D → ℕ) (left_since : D → ℕ → List ℕ → Type 0) (has_failed : D → Bool) (wire : W) (schedule : Schedule) (kept : Log D) (channels : List Bool) (turns : ℕ) (from to : Day) (before after : List (Option GivenUp)) : Type 0 where
  pub old : LineWorld W D
  pub new : LineWorld W D
  pub over : old.line.wire ≡ wire
  pub scheduled : old.schedule ≡ schedule
  pub kept_by : old.log ≡ kept
  pub side : old.line.end.network ≡ true
  pub told_before : old.line.post ≡ post_from from.moment
  pub leaves : IsWholeSaleRun (deals_by_line did holds may_leave moment left_since has_failed) channels old new from to turns
  pub unasked : AskNothing leaves.run.deals
  pub noted : NotesGivenUp (acts_of leaves.run.deals) before after
  pub out : IsHeldOut turns to
  -- a day that goes on begins its first second without a link
  pub apart : 1 ≤ from.moment → BeginsApart (acts_of leaves.run.deals)

-- the last act is that an event was not taken which no journal has, as octets that are longer than a message
abbrev pub EndsWithNoEvent : List Act → Type 0
EndsWithNoEvent [] = ⊥
EndsWithNoEvent (Logged event false ∷ []) = IsLoggable event → ⊥
EndsWithNoEvent (act ∷ acts) = EndsWithNoEvent acts

-- Such a world has gone through the deals of a run that is over before its end, and why: the disk of its journal has failed, or what came is no event
-- of a journal. Nothing is logged after that.
pub record StopsByLine {W D : Type 0} (did : W → List WireAct → W → Type 0) (holds may_leave : D → List ℕ → Type 0) (moment : D → ℕ) (left_since : D → ℕ → List ℕ → Type 0) (has_failed : D → Bool) (wire : W) (schedule : Schedule) (kept : Log D) (channels : List Bool) (turns : ℕ) (from : Day) : Type 0 where
  pub old : LineWorld W D
  pub new : LineWorld W D
  pub over : old.line.wire ≡ wire
  pub scheduled : old.schedule ≡ schedule
  pub kept_by : old.log ≡ kept
  pub stops : IsBrokenRun (deals_by_line did holds may_leave moment left_since has_failed) channels old new from turns
  pub unasked : AskNothing stops.run.deals
  pub disk : D
  pub disk_is : new.log.disk ≡ Some disk
  pub cause : (has_failed disk ≡ true) ⊎ EndsWithNoEvent (acts_of stops.run.deals)
