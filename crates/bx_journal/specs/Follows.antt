-- What is read of a journal, and the events that were followed.
use Rattle.std.specs.Prelude.{◌≡◌, ◌⊎◌, ℕ, Bool, true, List, [], ◌++◌, length, Option, Result, Ok, Err}
use Rattle.std.specs.Io.KnownBytes.{Consumes, IsAtEnd}
use Rattle.bx_events.specs.Events.{LiveEvent}
use Rattle.bx_journal.specs.declared.fault.JournalFault.{JournalFault}
use Rattle.bx_journal.specs.declared.fault.JournalFault.TheVariants.{BadLine, OtherPlan, OtherDay, OtherRules, NotBegun, ReadFailed}
use Rattle.bx_journal.specs.declared.head.Wanted.{Wanted}
use Rattle.bx_journal.specs.Reading.{recovered, journal_in, events_before}
use Rattle.bx_devices.specs.Watching.{device_of, is_faulted}
use Rattle.bx_devices.specs.declared.watched.Watched.{Watched}

-- it was read to its end: this is its text, of which so many octets are whole lines
pub record WasRead {F : Type 0} (followed : F → List LiveEvent → F → Type 0) (before after : Option (List ℕ)) (wanted : Wanted) (old new : F) (whole : ℕ) : Type 0 where
  pub text : List ℕ
  pub consumed : Consumes before after text
  pub at_end : IsAtEnd after
  pub events : List LiveEvent
  pub is : journal_in wanted text ≡ Ok (record { events = events; whole = whole })
  pub followed_all : followed old events new

-- it was read up to its first fault, whatever stands after
pub record WasRefused {F : Type 0} (followed : F → List LiveEvent → F → Type 0) (before after : Option (List ℕ)) (wanted : Wanted) (old new : F) (fault : JournalFault) : Type 0 where
  pub read : List ℕ
  pub consumed : Consumes before after read
  pub is : (more : List ℕ) → recovered wanted (read ++ more) ≡ Err fault
  pub events : List LiveEvent
  pub are : (more : List ℕ) → events_before wanted (read ++ more) ≡ events
  pub followed_all : followed old events new

-- it was read to its end, inside of its head
pub record WasNotBegun {F : Type 0} (followed : F → List LiveEvent → F → Type 0) (before after : Option (List ℕ)) (wanted : Wanted) (old new : F) : Type 0 where
  pub text : List ℕ
  pub consumed : Consumes before after text
  pub at_end : IsAtEnd after
  pub is : recovered wanted text ≡ Err NotBegun
  pub followed_none : followed old [] new

-- A read failed, or as many octets were read as are counted. The events are those of the whole lines so far, and none of these is wrong.
pub record WasCutOff {F : Type 0} (followed : F → List LiveEvent → F → Type 0) (faulted : Bool) (before after : Option (List ℕ)) (wanted : Wanted) (old new : F) : Type 0 where
  pub read : List ℕ
  pub held : List ℕ
  pub consumed : Consumes before after (read ++ held)
  pub events : List LiveEvent
  pub is : (recovered wanted read ≡ Ok events) ⊎ ((recovered wanted read ≡ Err NotBegun) × (events ≡ []))
  pub followed_all : followed old events new
  pub cause : ((faulted ≡ true) × (held ≡ [])) ⊎ (length read ≡ 18446744073709551615)

abbrev pub IsFollowed : {F : Type 0} → (F → List LiveEvent → F → Type 0) → Bool → Option (List ℕ) → Option (List ℕ) → Wanted → F → F → Result ℕ JournalFault → Type 0
IsFollowed followed faulted before after wanted old new (Ok whole) = WasRead followed before after wanted old new whole
IsFollowed followed faulted before after wanted old new (Err (BadLine n)) = WasRefused followed before after wanted old new (BadLine n)
IsFollowed followed faulted before after wanted old new (Err OtherPlan) = WasRefused followed before after wanted old new OtherPlan
IsFollowed followed faulted before after wanted old new (Err OtherDay) = WasRefused followed before after wanted old new OtherDay
IsFollowed followed faulted before after wanted old new (Err OtherRules) = WasRefused followed before after wanted old new OtherRules
IsFollowed followed faulted before after wanted old new (Err NotBegun) = WasNotBegun followed before after wanted old new
IsFollowed followed faulted before after wanted old new (Err ReadFailed) = WasCutOff followed faulted before after wanted old new

-- the same of what was read of a device
abbrev pub IsFollowedFrom : {F R : Type 0} →
    (F → List LiveEvent → F → Type 0) →
    (R → Option (List ℕ)) →
    Watched R → Watched R → Wanted → F → F → Result ℕ JournalFault → Type 0
IsFollowedFrom followed remaining device_old device_new =
    IsFollowed followed (is_faulted device_new) (remaining (device_of device_old)) (remaining (device_of device_new))
