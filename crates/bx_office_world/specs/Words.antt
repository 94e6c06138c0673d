-- The line that says why there is no answer, or why nothing is changed: as the commands print it.
use Rattle.std.specs.Prelude.{ℕ, ◌++◌, List, codes, decimal, Option, Some, None}
use Rattle.bx_book.specs.declared.fault.BookFault.{BookFault}
use Rattle.bx_book.specs.declared.fault.BookFault.TheVariants as book
use Rattle.bx_planner.specs.declared.answer.NoQuote.{NoQuote}
use Rattle.bx_planner.specs.declared.answer.NoQuote.TheVariants as quotes
use Rattle.bx_sales.specs.declared.changing.NoChange.{NoChange}
use Rattle.bx_sales.specs.declared.changing.NoChange.TheVariants as changes
use Rattle.bx_office_world.specs.declared.changes.BadChange.{BadChange}
use Rattle.bx_office_world.specs.declared.changes.BadChange.TheVariants as bad
use Rattle.bx_office_world.specs.declared.fault.NoAnswer.{NoAnswer}
use Rattle.bx_office_world.specs.declared.fault.NoAnswer.TheVariants as no

-- words, and a number behind them where there is one
abbrev pub with_number : List ℕ → Option ℕ → List ℕ
with_number text None = text ++ codes "\n"
with_number text (Some number) = text ++ codes " " ++ decimal number ++ codes "\n"

abbrev pub memory_line : List ℕ
memory_line = with_number (codes "Memory") None

abbrev pub book_line : BookFault → List ℕ
book_line book.BadHeader = with_number (codes "B1 BadHeader") None
book_line (book.WrongColumns row) = with_number (codes "B2 WrongColumns") (Some row)
book_line (book.NotATime row) = with_number (codes "B3 NotATime") (Some row)
book_line (book.NotWholeSeconds row) = with_number (codes "B4 NotWholeSeconds") (Some row)
book_line (book.OutsideDay row) = with_number (codes "B5 OutsideDay") (Some row)
book_line (book.EndNotAfterStart row) = with_number (codes "B6 EndNotAfterStart") (Some row)
book_line (book.BadNumber row) = with_number (codes "B7 BadNumber") (Some row)
book_line (book.BadPay row) = with_number (codes "B8 BadPay") (Some row)
book_line book.TooMany = with_number (codes "B9 TooMany") None
book_line (book.BadMust row) = with_number (codes "B10 BadMust") (Some row)
book_line (book.BadDirection row) = with_number (codes "B11 BadDirection") (Some row)
book_line book.Memory = memory_line

abbrev pub quote_line : NoQuote → List ℕ
quote_line quotes.TooMany = with_number (codes "K2 TooMany") None
quote_line (quotes.NoChannel moment) = with_number (codes "Q1 NoChannel") (Some moment)
quote_line quotes.NoSuchRow = with_number (codes "Q2 NoSuchRow") None
quote_line (quotes.Accepted row) = with_number (codes "Q3 Accepted") (Some row)
quote_line quotes.Memory = memory_line

abbrev pub answer_line : NoAnswer → List ℕ
answer_line no.OutOfRange = with_number (codes "A3 OutOfRange") None
answer_line (no.TooManyMust moment) = with_number (codes "K1 TooManyMust") (Some moment)
answer_line no.NoTimes = with_number (codes "no start or no end") None
answer_line no.NoLength = with_number (codes "no length of 1 to 200000 seconds") None
answer_line (no.Book fault) = book_line fault
answer_line (no.Quote why) = quote_line why
answer_line no.Memory = memory_line

abbrev pub bad_change_line : BadChange → List ℕ
bad_change_line (bad.Book fault) = book_line fault
bad_change_line bad.NotOne = with_number (codes "not one booking") None
bad_change_line bad.AfterTheDay = with_number (codes "AfterTheDay") None
bad_change_line bad.BelowRate = with_number (codes "BelowRate") None

abbrev pub no_change_line : NoChange → List ℕ
no_change_line changes.NoBooking = with_number (codes "NoBooking") None
no_change_line changes.Late = with_number (codes "Late") None
no_change_line changes.NoChannel = with_number (codes "NoChannel") None
no_change_line changes.Memory = memory_line

-- under a key something else was asked for
abbrev pub other_line : List ℕ
other_line = with_number (codes "under this key other bookings were asked for") None
