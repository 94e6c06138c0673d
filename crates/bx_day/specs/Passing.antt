-- Private: a second as a pass over some of the bookings.
use Rattle.std.specs.Prelude.{◌≡◌, ◌<◌, ◌==◌, ℕ, Bool, true, false, List, [], ◌∷◌, ◌||◌, length, map, Option, Some, None, slice_index_or, if◌then◌else◌}
use Rattle.bx_q931.specs.Outgoing.{Outgoing}
use Rattle.bx_calls.specs.Shared.{cons_some}
use Rattle.bx_channels.specs.Marks.{is_marked}
use Rattle.bx_day.specs.Day.{Day, is_back, is_held, entry_at}
use Rattle.bx_day.specs.Ticks.{second_in, after_in, breaks_in, said_in, maintained_in}
use Rattle.bx_day.specs.Moves.{stays}
use Rattle.bx_day.specs.Reading.{IsExchange}
use Rattle.bx_day.specs.Slots.{slot_at}
use Rattle.bx_day.specs.declared.entry.Entry.{Entry}
use Rattle.bx_day.specs.declared.entry.Link.{Link}

-- a day from its parts
abbrev pub day_of : ℕ → ℕ → List Entry → List Bool → Day
day_of moment unlinked entries maintenance = record { moment = moment; unlinked = unlinked; entries = entries; maintenance = maintenance }

-- the channels that are held or in maintenance
abbrev pub AreBlocked : Day → List Bool → Type 0
AreBlocked d blocked = (c : ℕ) → is_marked blocked c ≡ (is_held d.entries c || is_marked d.maintenance c)

-- what a second says on each channel
abbrev pub SaysOnEach : Link → Day → List (Option Outgoing) → Type 0
SaysOnEach link d said = (c : ℕ) → cons_some (slice_index_or said c None) [] ≡ said_in link d c d.entries

-- whether an index stands in a slot
abbrev pub is_slot : Option ℕ → ℕ → Bool
is_slot None i = false
is_slot (Some j) i = j == i

-- the bookings that were moved on, and with them those of slots of their channels
abbrev pub with_slots : Day → List (Option ℕ) → (ℕ → Bool) → ℕ → Bool
with_slots d slots done i = done i || is_slot (slot_at slots (entry_at d.entries i).channel) i

-- each slot has a booking of its channel, if it has one
abbrev pub AreOwn : Day → List (Option ℕ) → Type 0
AreOwn d slots = (c i : ℕ) → slot_at slots c ≡ Some i → (i < length d.entries) × ((entry_at d.entries i).channel ≡ c)

-- what holds where these bookings were moved on, and no other
pub record Passed (link : Link) (d : Day) (done : ℕ → Bool) (entries : List Entry) (maintenance : List Bool) (slots : List (Option Outgoing)) : Type 0 where
  pub size : length entries ≡ length d.entries
  pub rows : (i : ℕ) → i < length d.entries → entry_at entries i ≡ (if done i then after_in link d (entry_at d.entries i) else entry_at d.entries i)
  pub channels : length maintenance ≡ length d.maintenance
  pub kept : (c : ℕ) → is_marked d.maintenance c ≡ true → is_marked maintenance c ≡ true
  pub broken : (i : ℕ) → i < length d.entries → done i ≡ true → (entry_at d.entries i).channel < length d.maintenance → (second_in link d (entry_at d.entries i)).broken ≡ true → is_marked maintenance (entry_at d.entries i).channel ≡ true
  pub whole : (c : ℕ) → is_marked d.maintenance c ≡ false → ((i : ℕ) → i < length d.entries → breaks_in link d c (entry_at d.entries i) ≡ false) → is_marked maintenance c ≡ false
  pub sizes : length slots ≡ 32
  pub said : (c : ℕ) (o : Outgoing) → slice_index_or slots c None ≡ Some o → said_in link d c d.entries ≡ o ∷ []
  pub silent : (i : ℕ) → i < length d.entries → done i ≡ true → slice_index_or slots (entry_at d.entries i).channel None ≡ None → (second_in link d (entry_at d.entries i)).said ≡ None

-- bookings of slots, no booking twice, and a second does nothing to any other
pub record AreTouched (link : Link) (d : Day) (first second third : List (Option ℕ)) : Type 0 where
  pub firsts : AreOwn d first
  pub seconds : AreOwn d second
  pub thirds : AreOwn d third
  pub apart : (c i : ℕ) → slot_at second c ≡ Some i → slot_at first c ≡ Some i → ⊥
  pub third_apart : (c i : ℕ) → slot_at third c ≡ Some i → slot_at first c ≡ Some i → ⊥
  pub last_apart : (c i : ℕ) → slot_at third c ≡ Some i → slot_at second c ≡ Some i → ⊥
  pub others : (i : ℕ) → i < length d.entries → (slot_at first (entry_at d.entries i).channel ≡ Some i → ⊥) → (slot_at second (entry_at d.entries i).channel ≡ Some i → ⊥) → (slot_at third (entry_at d.entries i).channel ≡ Some i → ⊥) → second_in link d (entry_at d.entries i) ≡ stays (entry_at d.entries i).standing

-- what a second leaves, and what it says
pub record IsSecond (link : Link) (d : Day) (es : List Entry) (ms : List Bool) (slots : List (Option Outgoing)) : Type 0 where
  pub entries : es ≡ map (after_in link d) d.entries
  pub maintenance : ms ≡ maintained_in link d 0 d.maintenance
  pub said : SaysOnEach link d slots
  pub sizes : length slots ≡ 32

-- one more booking is moved on
abbrev pub MovesOne : (link : Link) (moment : ℕ) (back : Bool) (blocked : List Bool) (index : ℕ) (es : List Entry) (ms : List Bool) (slots : List (Option Outgoing)) (later_es : List Entry) (later_ms : List Bool) (later_slots : List (Option Outgoing)) → Type 0
MovesOne link moment back blocked index es ms slots later_es later_ms later_slots =
    (d : Day) (done : ℕ → Bool) → d.moment ≡ moment → is_back d ≡ back → IsExchange d → AreBlocked d blocked → done index ≡ false
    → Passed link d done es ms slots → Passed link d (λ i. (i == index) || done i) later_es later_ms later_slots

-- those of slots are moved on, none of which was before
abbrev pub MovesAll : (link : Link) (moment : ℕ) (back : Bool) (blocked : List Bool) (own : List (Option ℕ)) (es : List Entry) (ms : List Bool) (slots : List (Option Outgoing)) (later_es : List Entry) (later_ms : List Bool) (later_slots : List (Option Outgoing)) → Type 0
MovesAll link moment back blocked own es ms slots later_es later_ms later_slots =
    (d : Day) (done : ℕ → Bool) → d.moment ≡ moment → is_back d ≡ back → IsExchange d → AreBlocked d blocked → AreOwn d own
    → ((c i : ℕ) → slot_at own c ≡ Some i → done i ≡ false)
    → Passed link d done es ms slots → Passed link d (with_slots d own done) later_es later_ms later_slots

-- a day goes through a second
abbrev pub MovesOn : (link : Link) (moment : ℕ) (back : Bool) (blocked : List Bool) (first second third : List (Option ℕ)) (es : List Entry) (ms : List Bool) (later_es : List Entry) (later_ms : List Bool) (slots : List (Option Outgoing)) → Type 0
MovesOn link moment back blocked first second third es ms later_es later_ms slots =
    (unlinked : ℕ) (d : Day) → d ≡ day_of moment unlinked es ms → is_back d ≡ back → IsExchange d → AreBlocked d blocked → AreTouched link d first second third
    → IsSecond link d later_es later_ms slots
