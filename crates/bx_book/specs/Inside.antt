-- Private: what its functions promise one another.
use Rattle.std.specs.Prelude.{ℕ, List, Result, Ok, Err}
use Rattle.bx_base.specs.Bookings.{Row}
use Rattle.bx_book.specs.declared.fault.BookFault.{BookFault}
use Rattle.bx_book.specs.Rows.{Span, IsRowOf, IsRowFault}
use Rattle.bx_book.specs.Texts.{IsBook, IsBookFault}

-- the booking of a row, or its first fault
abbrev pub IsRowRead : Span → ℕ → ℕ → List (List ℕ) → Result Row BookFault → Type 0
IsRowRead span columns row fields (Ok booking) = IsRowOf span columns fields booking
IsRowRead span columns row fields (Err e) = IsRowFault span columns row fields e

-- what is said of a text
abbrev pub IsBookRead : List ℕ → Span → Result (List Row) BookFault → Type 0
IsBookRead text span (Ok bookings) = IsBook text span bookings
IsBookRead text span (Err e) = IsBookFault text span e
