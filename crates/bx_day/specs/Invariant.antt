-- What stays true of a day of a carried plan.
use Rattle.std.specs.Prelude.{◌≡◌, ◌≢◌, ℕ, ◌+◌, ◌≤◌, ◌<◌, Bool, true, false, not, List, [], ◌∷◌}
use Rattle.std.specs.List.{AllByRecursion}
use Rattle.bx_calls.specs.PlainCalls.{PlainNetCall}
use Rattle.bx_calls.specs.declared.net_state.NetOrigin.{NetOrigin}
use Rattle.bx_calls.specs.declared.net_state.NetOrigin.TheVariants.{Outward, Inward}
use Rattle.bx_calls.specs.declared.net_state.NetState.{NetState}
use Rattle.bx_calls.specs.declared.net_state.NetState.TheVariants.{OutgoingCallProceeding, CallPresent, IncomingCallProceeding, CallReceived, Active, Enquiring, DisconnectIndication, ReleaseRequest}
use Rattle.bx_base.specs.Bookings.{Row, is_running}
use Rattle.bx_day.specs.Day.{Day, is_live}
use Rattle.bx_day.specs.declared.entry.Entry.{Entry}
use Rattle.bx_day.specs.declared.entry.Standing.{Standing}
use Rattle.bx_day.specs.declared.entry.Activity.{Activity}
use Rattle.bx_day.specs.declared.entry.Standing.TheVariants.{Refused, Unoffered, OnCall, Carried, Unanswered, Missed}
use Rattle.bx_day.specs.declared.entry.Activity.TheVariants.{Never, Since, Was}

-- ringing, talking or clearing
pub data Phase : Type 0 where
  Ringing : Phase
  Talking : Phase
  Clearing : Phase

abbrev pub phase_of : NetState → Phase
phase_of OutgoingCallProceeding = Ringing
phase_of (CallPresent again due) = Ringing
phase_of (IncomingCallProceeding due) = Ringing
phase_of (CallReceived due) = Ringing
phase_of Active = Talking
phase_of (Enquiring asked due) = Talking
phase_of (DisconnectIndication cause due) = Clearing
phase_of (ReleaseRequest again cause due) = Clearing

-- a call is set up and talks while its booking runs
abbrev pub PhaseFits : ℕ → Row → Phase → Type 0
PhaseFits t b Ringing = (b.start ≤ t) × (t < b.end)
PhaseFits t b Talking = (b.start ≤ t) × (t < b.end)
PhaseFits t b Clearing = Unit {0}

-- a timer is not due yet, and is due within its time
abbrev pub DueFits : ℕ → NetState → Type 0
DueFits t OutgoingCallProceeding = Unit {0}
DueFits t (CallPresent again due) = (t < due) × (due ≤ t + 4)
DueFits t (IncomingCallProceeding due) = (t < due) × (due ≤ t + 10)
DueFits t (CallReceived due) = (t < due) × (due ≤ t + 180)
DueFits t Active = Unit {0}
DueFits t (Enquiring asked due) = (t < due) × (due ≤ t + 4)
DueFits t (DisconnectIndication cause due) = (t < due) × (due ≤ t + 30)
DueFits t (ReleaseRequest again cause due) = (t < due) × (due ≤ t + 4)

-- a call has been Active where it talks, and may have been where it is being cleared
abbrev pub ActivityFits : ℕ → Row → Phase → Activity → Type 0
ActivityFits t b Ringing Never = Unit {0}
ActivityFits t b Talking (Since from) = (b.start ≤ from) × (from ≤ t)
ActivityFits t b Clearing Never = Unit {0}
ActivityFits t b Clearing (Was from until) = (b.start ≤ from) × (from ≤ until) × (until ≤ t) × (until ≤ b.end)
ActivityFits t b _ _ = ⊥

-- a call that the exchange began has the reference of its booking
abbrev pub OriginFits : ℕ → Row → ℕ → NetOrigin → Type 0
OriginFits own b reference (Outward called) = (b.inward ≡ false) × (reference ≡ own)
OriginFits own b reference Inward = b.inward ≡ true

-- a live call of a booking
pub record CallFits (t : ℕ) (e : Entry) (c : PlainNetCall) (a : Activity) : Type 0 where
  pub channel : c.channel ≡ e.channel
  pub origin : OriginFits e.reference e.booking c.reference c.origin
  pub phase : PhaseFits t e.booking (phase_of c.state)
  pub due : DueFits t c.state
  pub activity : ActivityFits t e.booking (phase_of c.state) a

abbrev pub StandingFits : ℕ → Entry → Standing → Type 0
StandingFits t e Refused = Unit {0}
StandingFits t e Unoffered = t < e.booking.end
StandingFits t e (OnCall call activity) = CallFits t e call activity
StandingFits t e (Carried from until) = (e.booking.start ≤ from) × (from ≤ until) × (until ≤ e.booking.end)
StandingFits t e Unanswered = Unit {0}
StandingFits t e Missed = e.booking.end ≤ t

abbrev pub EntryFits : ℕ → Entry → Type 0
EntryFits t e = StandingFits t e e.standing

abbrev pub is_refused : Standing → Bool
is_refused Refused = true
is_refused _ = false

-- the plan accepts it
abbrev pub stands_accepted : Standing → Bool
stands_accepted standing = not (is_refused standing)

-- two bookings: they never run at once on one channel, and never hold one channel at once
pub record Apart (e f : Entry) : Type 0 where
  pub planned : is_refused e.standing ≡ false → is_refused f.standing ≡ false → e.channel ≡ f.channel → (t : ℕ) → is_running e.booking t ≡ true → is_running f.booking t ≡ true → ⊥
  pub live : is_live e.standing ≡ true → is_live f.standing ≡ true → e.channel ≢ f.channel

-- of each element and each later one
abbrev pub Pairs : (Entry → Entry → Type 0) → List Entry → Type 0
Pairs R [] = Unit {0}
Pairs R (e ∷ es) = AllByRecursion (R e) es × Pairs R es

pub record DayFits (d : Day) : Type 0 where
  pub each : AllByRecursion (EntryFits d.moment) d.entries
  pub pairs : Pairs Apart d.entries
