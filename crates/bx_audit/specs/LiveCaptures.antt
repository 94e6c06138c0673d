-- What a capture has of the events of a live day.
use Rattle.std.specs.Prelude.{◌≡◌, ℕ, ◌+◌, Bool, List, [], ◌∷◌, ◌++◌}
use Rattle.std.specs.List.{flat_map}
use Rattle.bx_events.specs.Events.{LiveEvent, OnLink, WithoutLink, Amended, HeardByRulesTwo}
use Rattle.bx_capture.specs.Captures.{packet_sent, packets_for}
use Rattle.bx_capture.specs.Packets.{packet}
use Rattle.bx_capture.specs.declared.packet.Direction.TheVariants.{Received}
use Rattle.bx_calls.specs.Sending.{spelled}
use Rattle.bx_day.specs.Day.{Day}
use Rattle.bx_day.specs.Course.{exchange_next, exchange_sent}
use Rattle.bx_day.specs.Outages.{live_happens}
use Rattle.bx_planfile.specs.OneBooking.{row_on}
use Rattle.bx_sales.specs.Amending.{AmendsDay}

-- the packets of an event, where moments count from the first second: those of an event on the link are as a capture has them, so are
-- those of what came by the rules 2, and in a second without a link, or where the plan is amended, nothing is sent or heard
abbrev pub live_packets_for : ℕ → Day → LiveEvent → List ℕ
live_packets_for first d (OnLink event) = packets_for exchange_next exchange_sent (λ (d : Day). d.moment) (λ (d : Day). d.moment) first d event
live_packets_for first d (WithoutLink rules) = []
live_packets_for first d (Amended kind line) = []
live_packets_for first d (HeardByRulesTwo octets) =
    packet (first + d.moment) Received octets ++ flat_map (packet_sent (first + d.moment)) (spelled (live_happens d (HeardByRulesTwo octets)).sent)

-- of events one after another
abbrev pub live_packets : ℕ → List LiveEvent → Day → List ℕ
live_packets first [] d = []
live_packets first (e ∷ es) d = live_packets_for first d e ++ live_packets first es (live_happens d e).day

-- a day that goes through events and what amends its plan, with the packets of each
abbrev pub CapturesThrough : List Bool → ℕ → List LiveEvent → Day → Day → List ℕ → Type 0
CapturesThrough channels first [] old new octets = (new ≡ old) × (octets ≡ [])
CapturesThrough channels first (Amended kind line ∷ events) old new octets = (amended : Day) × AmendsDay channels row_on kind line old amended × CapturesThrough channels first events amended new octets
CapturesThrough channels first (OnLink event ∷ events) old new octets = (more : List ℕ) × (octets ≡ live_packets_for first old (OnLink event) ++ more) × CapturesThrough channels first events (live_happens old (OnLink event)).day new more
CapturesThrough channels first (WithoutLink rules ∷ events) old new octets = CapturesThrough channels first events (live_happens old (WithoutLink rules)).day new octets
CapturesThrough channels first (HeardByRulesTwo came ∷ events) old new octets = (more : List ℕ) × (octets ≡ live_packets_for first old (HeardByRulesTwo came) ++ more) × CapturesThrough channels first events (live_happens old (HeardByRulesTwo came)).day new more
