-- A day that was always on its link.
use Rattle.std.proofs.Common.{◌≡◌, ℕ, Bool, List, [], ◌∷◌, ◌++◌, map, refl, ap, ◌∙◌}
use Rattle.bx_events.specs.Events.{Event, LiveEvent, OnLink, WithoutLink, Amended, HeardByRulesTwo}
use Rattle.bx_capture.specs.Captures.{packets_for}
use Rattle.bx_day.specs.Day.{Day}
use Rattle.bx_day.specs.Course.{exchange_next, exchange_sent}
use Rattle.bx_day.specs.Outages.{live_happens, live_day_after}
use Rattle.bx_day.specs.Run.{happens, day_after}
use Rattle.bx_frames.specs.Courses.{told}
use Rattle.bx_audit.specs.Laws.{HasNoAmendment}
use Rattle.bx_audit.specs.LiveCaptures.{live_packets, live_packets_for, CapturesThrough}

abbrev on_link : List Event → List LiveEvent
on_link events = map (λ (e : Event). OnLink e) events

pub same_packets : (first : ℕ) (events : List Event) (d : Day) → live_packets first (on_link events) d ≡ told exchange_next (packets_for exchange_next exchange_sent (λ (x : Day). x.moment) (λ (x : Day). x.moment) first) events d
same_packets first [] d = refl
same_packets first (e ∷ es) d = ap (λ (l : List ℕ). live_packets_for first d (OnLink e) ++ l) (same_packets first es (happens d e).day)

pub same_day : (events : List Event) (d : Day) → live_day_after (on_link events) d ≡ day_after events d
same_day [] d = refl
same_day (e ∷ es) d = same_day es (happens d e).day

-- ---- a day whose plan nothing amends

more_packets : (xs ys more : List ℕ) → more ≡ ys → xs ++ more ≡ xs ++ ys
more_packets xs ys more e = ap (λ (l : List ℕ). xs ++ l) e

pub unamended_day : (channels : List Bool) (first : ℕ) (events : List LiveEvent) (d d1 : Day) (octets : List ℕ) → HasNoAmendment events → CapturesThrough channels first events d d1 octets → (d1 ≡ live_day_after events d) × (octets ≡ live_packets first events d)
unamended_day channels first [] d d1 octets none h = h
unamended_day channels first (Amended kind line ∷ events) d d1 octets none h = absurd none
unamended_day channels first (OnLink event ∷ events) d d1 octets none (more, are, rest) =
    let later = unamended_day channels first events (live_happens d (OnLink event)).day d1 more none rest in
    (later.0, are ∙ more_packets (live_packets_for first d (OnLink event)) (live_packets first events (live_happens d (OnLink event)).day) more later.1)
unamended_day channels first (HeardByRulesTwo came ∷ events) d d1 octets none (more, are, rest) =
    let later = unamended_day channels first events (live_happens d (HeardByRulesTwo came)).day d1 more none rest in
    (later.0, are ∙ more_packets (live_packets_for first d (HeardByRulesTwo came)) (live_packets first events (live_happens d (HeardByRulesTwo came)).day) more later.1)
unamended_day channels first (WithoutLink rules ∷ events) d d1 octets none rest = unamended_day channels first events (live_happens d (WithoutLink rules)).day d1 octets none rest
