-- The faults of rows as those of a booking text.
use Rattle.bx_book.specs.declared.fault.BookFault.{BookFault}
use Rattle.bx_book.specs.declared.fault.BookFault.TheVariants as f
use Rattle.bx_text.specs.declared.rows_fault.RowsFault.{RowsFault}
use Rattle.bx_text.specs.declared.rows_fault.RowsFault.TheVariants as rows

-- one of them
abbrev pub told_as : RowsFault BookFault → BookFault
told_as rows.BadHeader = f.BadHeader
told_as (rows.Row e) = e
told_as rows.TooMany = f.TooMany
told_as rows.Memory = f.Memory
