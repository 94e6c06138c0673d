-- What may be logged.
use Rattle.std.specs.Prelude.{◌≡◌, ℕ, ◌≤◌, ◌<◌, ◌&&◌, nat_le, Bool, true, false, List, [], ◌∷◌, length, slice_index, slice_index_or}
use Rattle.std.specs.List.{list_all}
use Rattle.bx_events.specs.Events.{Tick, Receive, LiveEvent, OnLink, WithoutLink, Amended, HeardByRulesTwo}
use Rattle.bx_events.specs.declared.amendment.Amendment.{Amendment}
use Rattle.bx_events.specs.declared.amendment.Amendment.TheVariants.{Sold, Cancelled, Changed, SoldByRulesTwo, Delayed, Dropped, Out}
use Rattle.bx_events.specs.declared.rules.Rules.TheVariants.{Two, Three}
use Rattle.bx_events.specs.Told.{live_event_of}
use Rattle.bx_events.specs.declared.event.LiveEvent.TheVariants as rust
use Rattle.bx_events.specs.declared.event.Event.TheVariants as plain
use Rattle.bx_events.specs.declared.event.LiveEvent as rust_live
use Rattle.bx_q931.specs.declared.reading.TheConstants.{MAX_MESSAGE}
use Rattle.bx_journal.specs.declared.event.LoggedEvent.{LoggedEvent}
use Rattle.bx_journal.specs.declared.event.LoggedEvent.TheVariants as logged
use Rattle.bx_journal.specs.declared.version.Version.{Version}
use Rattle.bx_journal.specs.declared.version.Version.TheVariants.{Dated}
use Rattle.bx_journal.specs.Versions.{is_older}

-- printable ASCII
abbrev pub is_printable : ℕ → Bool
is_printable octet = nat_le 32 octet && nat_le octet 126

-- what amends the plan is printable, and no longer than its line may be
abbrev pub IsAmendedLine : List ℕ → Type 0
IsAmendedLine line = (length line ≤ 200) × (list_all is_printable line ≡ true)

-- what came is no longer than the longest message; an exchange of the older rules goes through nothing any more, and sells nothing
abbrev pub IsLoggable : LiveEvent → Type 0
IsLoggable (OnLink Tick) = Unit {0}
IsLoggable (OnLink (Receive octets)) = length octets ≤ MAX_MESSAGE
IsLoggable (WithoutLink Two) = ⊥
IsLoggable (WithoutLink Three) = Unit {0}
IsLoggable (Amended SoldByRulesTwo line) = ⊥
IsLoggable (Amended kind line) = IsAmendedLine line
IsLoggable (HeardByRulesTwo octets) = ⊥

abbrev pub AreOctets : List ℕ → Type 0
AreOctets octets = (i : ℕ) → slice_index octets i < 256

abbrev pub HasOctets : LiveEvent → Type 0
HasOctets (OnLink Tick) = Unit {0}
HasOctets (OnLink (Receive octets)) = AreOctets octets
HasOctets (WithoutLink rules) = Unit {0}
HasOctets (Amended kind line) = Unit {0}
HasOctets (HeardByRulesTwo octets) = AreOctets octets

-- a journal of this version has such amendments: by the older rules bookings were sold by these, and nothing else
abbrev pub HasAmendments : Version → Amendment → Type 0
HasAmendments version Sold = is_older version ≡ false
HasAmendments version Cancelled = is_older version ≡ false
HasAmendments version Changed = is_older version ≡ false
HasAmendments version SoldByRulesTwo = is_older version ≡ true
HasAmendments version Delayed = is_older version ≡ false
HasAmendments version Dropped = is_older version ≡ false
HasAmendments version Out = is_older version ≡ false

-- what a journal of this version may have: what came to an exchange of the older rules, its seconds without a link, and its sales, are
-- in one by these, and in no other
abbrev pub FitsVersion : Version → LiveEvent → Type 0
FitsVersion version (OnLink Tick) = Unit {0}
FitsVersion version (OnLink (Receive octets)) = (is_older version ≡ false) × (length octets ≤ MAX_MESSAGE)
FitsVersion version (WithoutLink Two) = is_older version ≡ true
FitsVersion version (WithoutLink Three) = is_older version ≡ false
FitsVersion version (Amended kind line) = HasAmendments version kind × IsAmendedLine line
FitsVersion version (HeardByRulesTwo octets) = (is_older version ≡ true) × (length octets ≤ MAX_MESSAGE)

-- an event that has a line in a journal of this version: what came are octets, and no more than a message has
abbrev pub IsEventIn : Version → LiveEvent → Type 0
IsEventIn version event = HasOctets event × FitsVersion version event

abbrev pub AreEventsIn : Version → List LiveEvent → Type 0
AreEventsIn version [] = Unit {0}
AreEventsIn version (event ∷ events) = IsEventIn version event × AreEventsIn version events

-- the same of the journals that are written
abbrev pub AreEvents : List LiveEvent → Type 0
AreEvents events = AreEventsIn Dated events

-- none of them is longer than the longest message
abbrev pub AreMessages : List rust_live.LiveEvent → Type 0
AreMessages events = (i : ℕ) → IsLoggable (live_event_of (slice_index_or events i (rust.OnLink plain.Tick)))

-- an event that was read
abbrev pub logged_event : LoggedEvent → LiveEvent
logged_event logged.Tick = OnLink Tick
logged_event (logged.Heard octets) = OnLink (Receive octets.items)
logged_event (logged.Down rules) = WithoutLink rules
logged_event (logged.Amended kind line) = Amended kind line.items
logged_event (logged.HeardByRulesTwo octets) = HeardByRulesTwo octets.items
