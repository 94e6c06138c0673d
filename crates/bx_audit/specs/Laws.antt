-- What the laws of a capture by a journal say.
use Rattle.std.specs.Prelude.{◌≡◌, ℕ, Bool, List, [], ◌∷◌, map}
use Rattle.bx_capture.specs.Captures.{packets_for}
use Rattle.bx_day.specs.Course.{exchange_next, exchange_sent}
use Rattle.bx_day.specs.Day.{Day}
use Rattle.bx_day.specs.Outages.{live_day_after}
use Rattle.bx_events.specs.Events.{Event, LiveEvent, OnLink, WithoutLink, Amended, HeardByRulesTwo}
use Rattle.bx_frames.specs.Courses.{told}
use Rattle.bx_day_openings.specs.Selling.{day_goes}
use Rattle.bx_audit.specs.LiveCaptures.{live_packets, CapturesThrough}

-- a day that goes through a journal with its capture goes through its events and what amends its plan
abbrev pub GoesAsCaptured : Type 0
GoesAsCaptured =
    (channels : List Bool) (first : ℕ) (events : List LiveEvent) (d d1 : Day) (octets : List ℕ) →
    CapturesThrough channels first events d d1 octets →
    day_goes channels d events d1

-- nothing among these amends the plan
abbrev pub HasNoAmendment : List LiveEvent → Type 0
HasNoAmendment [] = Unit {0}
HasNoAmendment (Amended kind line ∷ events) = ⊥
HasNoAmendment (OnLink event ∷ events) = HasNoAmendment events
HasNoAmendment (WithoutLink rules ∷ events) = HasNoAmendment events
HasNoAmendment (HeardByRulesTwo octets ∷ events) = HasNoAmendment events

-- where nothing amends the plan it is the day after just these events, and the capture has their packets
abbrev pub IsCapturedWhereUnamended : Type 0
IsCapturedWhereUnamended =
    (channels : List Bool) (first : ℕ) (events : List LiveEvent) (d d1 : Day) (octets : List ℕ) →
    HasNoAmendment events →
    CapturesThrough channels first events d d1 octets →
    (d1 ≡ live_day_after events d) × (octets ≡ live_packets first events d)

-- the packets of events on the link are those that a capture had of them on their day
abbrev pub HasPacketsOfItsDay : Type 0
HasPacketsOfItsDay =
    (first : ℕ) (events : List Event) (d : Day) →
    live_packets first (map (λ (e : Event). OnLink e) events) d ≡
    told exchange_next (packets_for exchange_next exchange_sent (λ (x : Day). x.moment) (λ (x : Day). x.moment) first) events d
