-- Private: what its functions promise one another.
use Rattle.std.specs.Prelude.{◌≡◌, ◌≤◌, ◌==◌, ℕ, false, List, [], ◌∷◌, take}
use Rattle.bx_events.specs.Events.{LiveEvent}
use Rattle.bx_journal.specs.declared.head.Head.{Head}
use Rattle.bx_journal.specs.declared.version.Version.TheVariants.{Dated}
use Rattle.bx_journal.specs.Events.{IsEventIn}
use Rattle.bx_journal.specs.Text.{lines_in}

-- a cut to len octets that a crash cuts short: a prefix of the text, with at least these
abbrev pub IsCutBack : ℕ → List ℕ → List ℕ → Type 0
IsCutBack len text left = (n : ℕ) × (len ≤ n) × (left ≡ take n text)

abbrev pub HasNoLf : List ℕ → Type 0
HasNoLf [] = Unit {0}
HasNoLf (octet ∷ octets) = (octet == 10 ≡ false) × HasNoLf octets

abbrev pub HaveNoLf : List (List ℕ) → Type 0
HaveNoLf [] = Unit {0}
HaveNoLf (line ∷ lines) = HasNoLf line × HaveNoLf lines

-- an event, and the lines, of the journals that are written
abbrev pub IsEvent : LiveEvent → Type 0
IsEvent event = IsEventIn Dated event

abbrev pub lines_of : Head → List LiveEvent → List (List ℕ)
lines_of head events = lines_in Dated head events
