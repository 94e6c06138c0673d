-- What is logged in a journal that was read.
use Rattle.std.specs.Prelude.{◌≡◌, ◌⊎◌, ℕ, List, [], Option, Some, Ok, Err}
use Rattle.bx_events.specs.Events.{LiveEvent}
use Rattle.bx_journal.specs.declared.fault.JournalFault.TheVariants.{NotBegun}
use Rattle.bx_journal.specs.Reading.{recovered}
use Rattle.bx_journal.specs.declared.head.Wanted.{Wanted}

-- these events are logged in a text, of which a journal that was not begun has none
abbrev pub AreRecovered : Wanted → List ℕ → List LiveEvent → Type 0
AreRecovered wanted text events = (recovered wanted text ≡ Ok events) ⊎ ((recovered wanted text ≡ Err NotBegun) × (events ≡ []))

-- just these events are logged in the text that was read, which is what there was to read where the journal tells it
pub record IsJournal (wanted : Wanted) (before : Option (List ℕ)) (events : List LiveEvent) : Type 0 where
  pub text : List ℕ
  pub told : (known : List ℕ) → before ≡ Some known → text ≡ known
  pub are : AreRecovered wanted text events
