-- How a journal that was read is made ready to go on.
use Rattle.std.specs.Prelude.{◌≡◌, ℕ, List, [], Result, Ok, Err}
use Rattle.bx_events.specs.Events.{LiveEvent}
use Rattle.bx_journal.specs.Heads.{IsJournalDay, wanted_of}
use Rattle.bx_journal.specs.Reading.{journal_in}
use Rattle.bx_journal.specs.Logging.{IsSettled}
use Rattle.bx_journal.specs.declared.fault.JournalFault.{JournalFault}
use Rattle.bx_journal.specs.declared.head.Head.{Head}

-- A journal was read whole, of which so many octets are whole lines, or one that was not begun. From then on the disk has its events,
-- and each crash leaves them.
pub record IsReady {D : Type 0} (holds may_leave : D → List ℕ → Type 0) (head : Head) (whole : Result ℕ JournalFault) (old new : D) : Type 0 where
  pub resumed : (text : List ℕ) (events : List LiveEvent) (n : ℕ) → whole ≡ Ok n → journal_in (wanted_of head) text ≡ Ok (record { events = events; whole = n }) → holds old text → IsSettled holds may_leave new head events
  pub begun : (text : List ℕ) (fault : JournalFault) → whole ≡ Err fault → IsJournalDay head.day → holds old text → IsSettled holds may_leave new head []
