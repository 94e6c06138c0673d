-- Private: how a journal was followed.
use Rattle.std.specs.Prelude.{◌≡◌, ℕ, Bool, List, Option, None}
use Rattle.bx_capture.specs.Captures.{Keeps}
use Rattle.bx_day.specs.Day.{Day}
use Rattle.bx_day.specs.declared.outcome.GivenUp.{GivenUp}
use Rattle.bx_day.specs.Outages.{live_day_after}
use Rattle.bx_devices.specs.declared.watched.Watched.{Watched}
use Rattle.bx_events.specs.Events.{LiveEvent}
use Rattle.bx_day_openings.specs.Going.{GoesFrom}
use Rattle.bx_day_openings.specs.Selling.{notes_go}
use Rattle.bx_day_openings.specs.declared.amending.AmendmentFault.{AmendmentFault}
use Rattle.bx_audit.specs.LiveCaptures.{live_packets, CapturesThrough}
use Rattle.bx_capture.specs.declared.captured.Captured.{Captured}
use Rattle.bx_audit.specs.declared.following.Recaptured.{Recaptured}

-- the day went on by these events, and the file took the packets of each, which count from the same first second
pub record IsLiveCaptured {W : Type 0} (contents : W → Option (List ℕ)) (first first' : ℕ) (file file' : Option (Watched W)) (d d' : Day) (events : List LiveEvent) : Type 0 where
  pub day : d' ≡ live_day_after events d
  pub stays : first' ≡ first
  pub kept : Keeps contents file file' (live_packets first events d)

-- a day, the file of its capture, and the first second of that
pub record Taken (W : Type 0) : Type 0 where
  pub day : Day
  pub file : Option (Watched W)
  pub first : ℕ

abbrev pub taken_of : {W : Type 0} → Day → Option (Watched W) → ℕ → Taken W
taken_of day file first = record { day = day; file = file; first = first }

-- the day went through these events and what amends its plan, and the file took the packets of each
pub record IsTaken {W : Type 0} (contents : W → Option (List ℕ)) (channels : List Bool) (old : Taken W) (events : List LiveEvent) (new : Taken W) : Type 0 where
  pub stays : new.first ≡ old.first
  pub octets : List ℕ
  pub through : CapturesThrough channels old.first events old.day new.day octets
  pub kept : Keeps contents old.file new.file octets

-- and how bookings were given up was noted of the same events
abbrev pub IsTakenNoted : {W : Type 0} → (W → Option (List ℕ)) → List Bool → (Taken W × List (Option GivenUp)) → List LiveEvent → (Taken W × List (Option GivenUp)) → Type 0
IsTakenNoted contents channels old events new = IsTaken contents channels old.0 events new.0 × notes_go old.1 events new.1

-- up to the first line that amends the plan and is none of its day
abbrev pub IsRecaptured : {W : Type 0} → (W → Option (List ℕ)) → List Bool → List Bool → Option AmendmentFault → Option AmendmentFault → Taken W → List LiveEvent → Taken W → Type 0
IsRecaptured contents channels channels' fault fault' old events new = (channels' ≡ channels) × GoesFrom (IsTaken contents channels) (λ t. t.day) channels fault old events new fault'

-- ---- the same of an exchange with its capture, and of what follows a journal

abbrev pub IsCapturedLive : {W : Type 0} → (W → Option (List ℕ)) → Captured Day W → List LiveEvent → Captured Day W → Type 0
IsCapturedLive contents old events new = IsLiveCaptured contents old.first new.first old.file new.file old.end new.end events

abbrev pub taken_from : {W : Type 0} → Recaptured W → Taken W
taken_from r = taken_of r.captured.end r.captured.file r.captured.first

abbrev pub HasRecaptured : {W : Type 0} → (W → Option (List ℕ)) → Recaptured W → List LiveEvent → Recaptured W → Type 0
HasRecaptured contents old events new =
    IsRecaptured contents old.channels new.channels old.fault new.fault (taken_from old) events (taken_from new)
    × (new.fault ≡ None → notes_go old.given_up.items events new.given_up.items)
