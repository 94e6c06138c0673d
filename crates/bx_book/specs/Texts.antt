-- The bookings of a booking text, and its first fault.
use Rattle.std.specs.Prelude.{ℕ, ◌==◌, ◌&&◌, if◌then◌else◌, Bool, List, length, codes, Option, Some, None}
use Rattle.std.specs.Str.{bytes_eq}
use Rattle.bx_base.specs.Bookings.{Row}
use Rattle.bx_text.specs.Forms.{Form}
use Rattle.bx_text.specs.Records.{field_of}
use Rattle.bx_text.specs.Rows.{HasRows, IsFirstFault}
use Rattle.bx_text.specs.declared.rows_fault.RowsFault.TheVariants as rows
use Rattle.bx_book.specs.Rows.{Span, IsRowOf, IsRowFault}
use Rattle.bx_book.specs.declared.fault.BookFault.{BookFault}
use Rattle.bx_book.specs.declared.fault.BookFault.TheVariants as f

abbrev pub has_base : List (List ℕ) → Bool
has_base fields = bytes_eq (field_of fields 0) (codes "start") && bytes_eq (field_of fields 1) (codes "end")
    && bytes_eq (field_of fields 2) (codes "number") && bytes_eq (field_of fields 3) (codes "pay")

abbrev pub has_must : List (List ℕ) → Bool
has_must fields = has_base fields && bytes_eq (field_of fields 4) (codes "must")

abbrev pub has_direction : List (List ℕ) → Bool
has_direction fields = has_must fields && bytes_eq (field_of fields 5) (codes "direction")

-- how many columns the rows have under this header, if it is one
abbrev pub header_columns : List (List ℕ) → Option ℕ
header_columns fields =
    if (length fields == 4) && has_base fields then Some 4
    else (if (length fields == 5) && has_must fields then Some 5 else (if (length fields == 6) && has_direction fields then Some 6 else None))

-- what the rows of a booking text are, on a day
abbrev pub book_form : Span → Form Row BookFault
book_form span = record { columns_under = header_columns; IsRow = IsRowOf span; IsRowFault = IsRowFault span }

-- the text has just these bookings
abbrev pub IsBook : List ℕ → Span → List Row → Type 0
IsBook text span bookings = HasRows (book_form span) text bookings

-- the first fault of a text: what stands before it is without one
abbrev pub IsBookFault : List ℕ → Span → BookFault → Type 0
IsBookFault text span f.BadHeader = IsFirstFault (book_form span) text rows.BadHeader
IsBookFault text span f.TooMany = IsFirstFault (book_form span) text rows.TooMany
IsBookFault text span f.Memory = IsFirstFault (book_form span) text rows.Memory
IsBookFault text span e = IsFirstFault (book_form span) text (rows.Row e)
