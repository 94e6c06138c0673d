-- Private: what is taken from a device that is read in pieces.
use Rattle.std.specs.Prelude.{◌≡◌, ◌⊎◌, ℕ, ◌+◌, ◌<◌, Bool, true, List, [], ◌∷◌, ◌++◌, length, map, Option, Some, None, Result, Ok, Err}
use Rattle.std.specs.List.{flat_map}
use Rattle.std.specs.Io.KnownBytes.{Consumes, IsAtEnd}
use Rattle.bx_events.specs.Events.{LiveEvent}
use Rattle.bx_journal.specs.declared.fault.JournalFault.{JournalFault}
use Rattle.bx_journal.specs.declared.fault.JournalFault.TheVariants.{BadLine, OtherPlan, OtherDay, OtherRules, NotBegun, ReadFailed}
use Rattle.bx_journal.specs.declared.head.Wanted.{Wanted}
use Rattle.bx_journal.specs.declared.pieces.CannotRead.{CannotRead}
use Rattle.bx_journal.specs.declared.line_reading.LineEnd.{LineEnd}
use Rattle.bx_journal.specs.declared.line_reading.LineEnd.TheVariants.{Whole, TooLong, Torn}
use Rattle.bx_journal.specs.Held.{Held}
use Rattle.bx_journal.specs.declared.version.Version.{Version}
use Rattle.bx_journal.specs.Versions.{head_size}
use Rattle.bx_journal.specs.Events.{AreEventsIn}
use Rattle.bx_journal.specs.Lines.{line_ended}
use Rattle.bx_journal.specs.Inside.{HasNoLf, HaveNoLf}
use Rattle.bx_journal.specs.Reading.{event_on, head_on}
use Rattle.bx_journal.specs.Text.{line_of}
use Rattle.bx_devices.specs.Watching.{device_of, is_faulted}
use Rattle.bx_devices.specs.declared.watched.Watched.{Watched}

-- These octets were taken: they stood first in what was held and in what was read after it.
pub record Takes (before after : Option (List ℕ)) (old new : Held) (prefix : List ℕ) : Type 0 where
  pub read : List ℕ
  pub consumed : Consumes before after read
  pub split : old.octets ++ read ≡ prefix ++ new.octets
  pub count : new.taken ≡ old.taken + length prefix

-- the same of octets without LF
pub record TakesPart (before after : Option (List ℕ)) (old new : Held) (part : List ℕ) : Type 0 where
  pub takes : Takes before after old new part
  pub no_lf : HasNoLf part

-- the same of a line and its LF
pub record TakesLine (before after : Option (List ℕ)) (old new : Held) (line : List ℕ) : Type 0 where
  pub takes : Takes before after old new (line_ended line)
  pub no_lf : HasNoLf line

-- nothing is left
pub record IsOver (after : Option (List ℕ)) (new : Held) : Type 0 where
  pub at_end : IsAtEnd after
  pub none : new.octets ≡ []

-- a read failed, or as many octets were taken as are counted
abbrev pub HasStopped : Bool → Held → Type 0
HasStopped faulted new = ((faulted ≡ true) × (new.octets ≡ [])) ⊎ (new.taken ≡ 18446744073709551615)

-- the end inside a line, and a stop there
pub record EndsInLine (before after : Option (List ℕ)) (old new : Held) : Type 0 where
  pub torn : List ℕ
  pub part : TakesPart before after old new torn
  pub over : IsOver after new

pub record Stops (faulted : Bool) (before after : Option (List ℕ)) (old new : Held) : Type 0 where
  pub torn : List ℕ
  pub part : TakesPart before after old new torn
  pub stopped : HasStopped faulted new

abbrev pub IsOctet : Bool → Option (List ℕ) → Option (List ℕ) → Held → Held → Result (Option ℕ) CannotRead → Type 0
IsOctet faulted before after old new (Ok (Some octet)) = Takes before after old new (octet ∷ [])
IsOctet faulted before after old new (Ok None) = Takes before after old new [] × IsOver after new
IsOctet faulted before after old new (Err fault) = Takes before after old new [] × (faulted ≡ true) × (new.octets ≡ [])

-- the rest of a line that is too long
abbrev pub IsSkipped : Bool → Option (List ℕ) → Option (List ℕ) → Held → Held → Result LineEnd CannotRead → Type 0
IsSkipped faulted before after old new (Ok Whole) = ⊥
IsSkipped faulted before after old new (Ok TooLong) = (line : List ℕ) × TakesLine before after old new line
IsSkipped faulted before after old new (Ok Torn) = EndsInLine before after old new
IsSkipped faulted before after old new (Err fault) = Stops faulted before after old new

abbrev pub IsLine : Bool → Option (List ℕ) → Option (List ℕ) → Held → Held → List ℕ → Result LineEnd CannotRead → Type 0
IsLine faulted before after old new line (Ok Whole) = TakesLine before after old new line
IsLine faulted before after old new line (Ok TooLong) = (long : List ℕ) × TakesLine before after old new long × (526 < length long)
IsLine faulted before after old new line (Ok Torn) = EndsInLine before after old new
IsLine faulted before after old new line (Err fault) = Stops faulted before after old new

-- a line of the head was taken, and this is what is said of it
pub record IsJudged {T : Type 0} (judge : List ℕ → Result T JournalFault) (before after : Option (List ℕ)) (old new : Held) (said : Result T JournalFault) : Type 0 where
  pub line : List ℕ
  pub takes : TakesLine before after old new line
  pub is : judge line ≡ said

-- none was taken
abbrev pub IsNoneTaken : {T : Type 0} → Bool → Option (List ℕ) → Option (List ℕ) → Held → Held → Result T JournalFault → Type 0
IsNoneTaken faulted before after old new (Err NotBegun) = EndsInLine before after old new
IsNoneTaken faulted before after old new (Err ReadFailed) = Stops faulted before after old new
IsNoneTaken faulted before after old new said = ⊥

abbrev pub IsHeadLine : {T : Type 0} → (List ℕ → Result T JournalFault) → Bool → Option (List ℕ) → Option (List ℕ) → Held → Held → Result T JournalFault → Type 0
IsHeadLine judge faulted before after old new said = IsJudged judge before after old new said ⊎ IsNoneTaken faulted before after old new said

-- lines of the head were taken
pub record TakesLines (before after : Option (List ℕ)) (old new : Held) (lines : List (List ℕ)) : Type 0 where
  pub takes : Takes before after old new (flat_map line_ended lines)
  pub no_lf : HaveNoLf lines

-- the same, and what stands after them without LF
pub record TakesTorn (before after : Option (List ℕ)) (old new : Held) (lines : List (List ℕ)) : Type 0 where
  pub torn : List ℕ
  pub takes : Takes before after old new (flat_map line_ended lines ++ torn)
  pub no_lf : HaveNoLf lines
  pub torn_no_lf : HasNoLf torn

-- the head was taken, of this version
pub record HeadTaken (wanted : Wanted) (before after : Option (List ℕ)) (old new : Held) (version : Version) : Type 0 where
  pub lines : List (List ℕ)
  pub taken : TakesLines before after old new lines
  pub count : length lines ≡ head_size version
  pub is : (rest : List (List ℕ)) → head_on wanted (lines ++ rest) ≡ Ok version

-- it has a fault
pub record HeadRefused (wanted : Wanted) (before after : Option (List ℕ)) (old new : Held) (fault : JournalFault) : Type 0 where
  pub lines : List (List ℕ)
  pub taken : TakesLines before after old new lines
  pub is : (rest : List (List ℕ)) → head_on wanted (lines ++ rest) ≡ Err fault

-- the text ends in it
pub record HeadEnds (wanted : Wanted) (before after : Option (List ℕ)) (old new : Held) : Type 0 where
  pub lines : List (List ℕ)
  pub taken : TakesTorn before after old new lines
  pub over : IsOver after new
  pub is : head_on wanted lines ≡ Err NotBegun

-- or what was read of it
pub record HeadStops (wanted : Wanted) (faulted : Bool) (before after : Option (List ℕ)) (old new : Held) : Type 0 where
  pub lines : List (List ℕ)
  pub taken : TakesTorn before after old new lines
  pub stopped : HasStopped faulted new
  pub is : head_on wanted lines ≡ Err NotBegun

abbrev pub IsHead : Wanted → Bool → Option (List ℕ) → Option (List ℕ) → Held → Held → Result Version JournalFault → Type 0
IsHead wanted faulted before after old new (Ok version) = HeadTaken wanted before after old new version
IsHead wanted faulted before after old new (Err (BadLine n)) = HeadRefused wanted before after old new (BadLine n)
IsHead wanted faulted before after old new (Err OtherPlan) = HeadRefused wanted before after old new OtherPlan
IsHead wanted faulted before after old new (Err OtherDay) = HeadRefused wanted before after old new OtherDay
IsHead wanted faulted before after old new (Err OtherRules) = HeadRefused wanted before after old new OtherRules
IsHead wanted faulted before after old new (Err NotBegun) = HeadEnds wanted before after old new
IsHead wanted faulted before after old new (Err ReadFailed) = HeadStops wanted faulted before after old new

-- the lines of events
abbrev pub lines_text : List LiveEvent → List ℕ
lines_text events = flat_map line_ended (map line_of events)

-- events were followed, and their lines taken, of which the next one is line n
pub record TakesEvents {F : Type 0} (followed : F → List LiveEvent → F → Type 0) (f g : F) (version : Version) (first n : ℕ) (before after : Option (List ℕ)) (old new : Held) : Type 0 where
  pub events : List LiveEvent
  pub are : AreEventsIn version events
  pub takes : Takes before after old new (lines_text events)
  pub followed_all : followed f events g
  pub number : n ≡ first + length events

-- the same, and what stands after these lines
pub record EventsEnd {F : Type 0} (followed : F → List LiveEvent → F → Type 0) (f g : F) (version : Version) (before after : Option (List ℕ)) (old new : Held) (whole : ℕ) : Type 0 where
  pub events : List LiveEvent
  pub are : AreEventsIn version events
  pub followed_all : followed f events g
  pub torn : List ℕ
  pub no_lf : HasNoLf torn
  pub takes : Takes before after old new (lines_text events ++ torn)
  pub over : IsOver after new
  pub whole_is : whole ≡ old.taken + length (lines_text events)

pub record EventsStop {F : Type 0} (followed : F → List LiveEvent → F → Type 0) (f g : F) (version : Version) (faulted : Bool) (before after : Option (List ℕ)) (old new : Held) : Type 0 where
  pub events : List LiveEvent
  pub are : AreEventsIn version events
  pub followed_all : followed f events g
  pub torn : List ℕ
  pub no_lf : HasNoLf torn
  pub takes : Takes before after old new (lines_text events ++ torn)
  pub stopped : HasStopped faulted new

pub record EventsBreak {F : Type 0} (followed : F → List LiveEvent → F → Type 0) (f g : F) (version : Version) (first n : ℕ) (before after : Option (List ℕ)) (old new : Held) : Type 0 where
  pub events : List LiveEvent
  pub are : AreEventsIn version events
  pub followed_all : followed f events g
  pub line : List ℕ
  pub no_lf : HasNoLf line
  pub takes : Takes before after old new (lines_text events ++ line_ended line)
  pub no_event : event_on version line ≡ None
  pub number : n ≡ first + length events

abbrev pub AreEventLines : {F : Type 0} → (F → List LiveEvent → F → Type 0) → F → F → Version → ℕ → Bool → Option (List ℕ) → Option (List ℕ) → Held → Held → Result ℕ JournalFault → Type 0
AreEventLines followed f g version first faulted before after old new (Ok whole) = EventsEnd followed f g version before after old new whole
AreEventLines followed f g version first faulted before after old new (Err (BadLine n)) = EventsBreak followed f g version first n before after old new
AreEventLines followed f g version first faulted before after old new (Err OtherPlan) = ⊥
AreEventLines followed f g version first faulted before after old new (Err OtherDay) = ⊥
AreEventLines followed f g version first faulted before after old new (Err OtherRules) = ⊥
AreEventLines followed f g version first faulted before after old new (Err NotBegun) = ⊥
AreEventLines followed f g version first faulted before after old new (Err ReadFailed) = EventsStop followed f g version faulted before after old new

-- ---- the same of what was read of a device

abbrev pub IsLineFrom : {R : Type 0} →
    (R → Option (List ℕ)) →
    Watched R → Watched R → Held → Held → List ℕ → Result LineEnd CannotRead → Type 0
IsLineFrom remaining device_old device_new =
    IsLine (is_faulted device_new) (remaining (device_of device_old)) (remaining (device_of device_new))

abbrev pub IsHeadLineFrom : {T R : Type 0} →
    (List ℕ → Result T JournalFault) →
    (R → Option (List ℕ)) →
    Watched R → Watched R → Held → Held → Result T JournalFault → Type 0
IsHeadLineFrom judge remaining device_old device_new =
    IsHeadLine judge (is_faulted device_new) (remaining (device_of device_old)) (remaining (device_of device_new))

abbrev pub IsHeadFrom : {R : Type 0} →
    (R → Option (List ℕ)) →
    Watched R → Watched R → Wanted → Held → Held → Result Version JournalFault → Type 0
IsHeadFrom remaining device_old device_new wanted =
    IsHead wanted (is_faulted device_new) (remaining (device_of device_old)) (remaining (device_of device_new))

abbrev pub AreEventLinesFrom : {F R : Type 0} →
    (F → List LiveEvent → F → Type 0) →
    (R → Option (List ℕ)) →
    Watched R → Watched R → F → F → Version → ℕ → Held → Held → Result ℕ JournalFault → Type 0
AreEventLinesFrom followed remaining device_old device_new f g version first =
    AreEventLines followed f g version first (is_faulted device_new) (remaining (device_of device_old)) (remaining (device_of device_new))
