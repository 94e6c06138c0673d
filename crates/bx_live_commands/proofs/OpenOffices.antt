-- Whether an office is open, and what the rest of a day is then.
use Rattle.std.proofs.Common.{◌≡◌, ◌⊎◌, inl, inr, ℕ, Bool, true, false, List, Option, Some, None, is_some, unwrap_or, sym, subst}
use Rattle.bx_calendar.specs.declared.day.Day.{Day as CalendarDay}
use Rattle.bx_day.specs.Day.{Day}
use Rattle.bx_day.specs.declared.outcome.GivenUp.{GivenUp}
use Rattle.bx_day_openings.specs.Hours.{AreHours}
use Rattle.bx_day_openings.specs.TiedDays.{IsTiedOpening}
use Rattle.bx_day_openings.specs.declared.hours.Hours.{Hours}
use Rattle.bx_day_openings.specs.declared.plan_opening.DayOpening.{DayOpening}
use Rattle.bx_events.specs.declared.moment.TheConstants.{LAST_MOMENT}
use Rattle.bx_live.specs.Held.{has_call, IsHeldOut}
use Rattle.bx_request.specs.declared.request.LiveRequest.{LiveRequest}
use Rattle.bx_live_commands.specs.LiveDays.{IsAtHand, IsLiveDay, has_office}
use Rattle.bx_line_world.specs.Wires.{WireAct}
use Rattle.bx_live.specs.declared.log.Log.{Log}
use Rattle.bx_live.specs.declared.schedule.Schedule.{Schedule}
use Rattle.bx_live_commands.specs.LiveInside.{IsOpenAt, RunsWith, StopsWith}
use Rattle.bx_live_commands.specs.OfficeRuns.{RunsOn, StopsOn}
use Rattle.bx_office_door.specs.SharedDoors.{lent_on}
use Rattle.bx_office_door.specs.declared.shared.SharedDoor.{SharedDoor}
use Rattle.bx_live_commands.specs.declared.by_office.Premises.{Premises}

pub is_open_at : {S : Type 0} (is_open : Bool) (channels : List Bool) (day : CalendarDay) (rate : Option ℕ) (premises : Option (Premises S)) → IsOpenAt is_open channels day rate premises → is_some premises ≡ is_open
is_open_at is_open channels day rate None closed = sym closed
is_open_at is_open channels day rate (Some premises) (wanted, same) = sym wanted

module _ {W D : Type 0} (did : W → List WireAct → W → Type 0) (holds may_leave : D → List ℕ → Type 0) (moment : D → ℕ) (left_since : D → ℕ → List ℕ → Type 0) (has_failed : D → Bool) (wire : W) (schedule : Schedule) (kept : Log D) (turns : ℕ) (from : Day) where
  pub runs_on : (is_open : Bool) (channels : List Bool) (day : CalendarDay) (rate : Option ℕ) (premises : Option (Premises SharedDoor)) (to : Day) (before after : List (Option GivenUp)) → IsOpenAt is_open channels day rate premises → RunsWith premises did lent_on holds may_leave moment left_since has_failed wire schedule kept channels turns from to before after
      → RunsOn is_open did holds may_leave moment left_since has_failed wire schedule kept channels day (unwrap_or rate 0) turns from to before after
  runs_on is_open channels day rate None to before after closed ran = subst (λ (b : Bool). RunsOn b did holds may_leave moment left_since has_failed wire schedule kept channels day (unwrap_or rate 0) turns from to before after) (sym closed) ran
  runs_on is_open channels day rate (Some premises) to before after (wanted, same) ran =
      subst (λ (b : Bool). RunsOn b did holds may_leave moment left_since has_failed wire schedule kept channels day (unwrap_or rate 0) turns from to before after) (sym wanted) (premises, same, ran)

  pub stops_on : (is_open : Bool) (channels : List Bool) (day : CalendarDay) (rate : Option ℕ) (premises : Option (Premises SharedDoor)) → IsOpenAt is_open channels day rate premises → StopsWith premises did lent_on holds may_leave moment left_since has_failed wire schedule kept channels turns from
      → StopsOn is_open did holds may_leave moment left_since has_failed wire schedule kept channels day (unwrap_or rate 0) turns from
  stops_on is_open channels day rate None closed stops = subst (λ (b : Bool). StopsOn b did holds may_leave moment left_since has_failed wire schedule kept channels day (unwrap_or rate 0) turns from) (sym closed) stops
  stops_on is_open channels day rate (Some premises) (wanted, same) stops =
      subst (λ (b : Bool). StopsOn b did holds may_leave moment left_since has_failed wire schedule kept channels day (unwrap_or rate 0) turns from) (sym wanted) (premises, same, stops)

  pub held_out : (is_open : Bool) (channels : List Bool) (day : CalendarDay) (rate : ℕ) (to : Day) (before after : List (Option GivenUp)) → RunsOn is_open did holds may_leave moment left_since has_failed wire schedule kept channels day rate turns from to before after → IsHeldOut turns to
  held_out false channels day rate to before after ran = ran.out
  held_out true channels day rate to before after (premises, same, ran) = ran.out

-- what a live day goes on from
abbrev pub at_hand_of : (request : LiveRequest) (hours : Hours) (opening : DayOpening) → AreHours request.hours hours → IsTiedOpening opening.exchange opening.channels opening.digest → IsAtHand request
at_hand_of request hours opening are_hours opens = record { hours = hours; are_hours = are_hours; opened = opening.exchange; channels = opening.channels; digest = opening.digest; opens = opens }

-- a day that is over while a call is up has no more seconds
no_more : (turns : ℕ) (d : Day) → IsHeldOut turns d → has_call d ≡ true → d.moment ≡ LAST_MOMENT
no_more turns d out up = by_clear out.clear where
  by_clear : (has_call d ≡ false) ⊎ (d.moment ≡ LAST_MOMENT) → d.moment ≡ LAST_MOMENT
  by_clear (inl none) = absurd cc
  by_clear (inr last) = last

pub last_of : {F : Type 0} (H : Type 0) (files : F → Option (List ℕ)) (request : LiveRequest) (day : Day) (told : List (Option GivenUp)) → IsLiveDay H files request day told → has_call day ≡ true → day.moment ≡ LAST_MOMENT
last_of H files request day told live up = no_more live.turns day (held_out _ _ _ _ _ _ live.wire live.going.at_hand.hours.schedule live.going.kept live.turns live.going.resumed (has_office request) live.going.at_hand.channels live.going.at_hand.hours.day (unwrap_or request.rate 0) day live.going.given_up told live.ran) up
