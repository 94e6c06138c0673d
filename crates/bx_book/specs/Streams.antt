-- What is said of a reader that bookings were read from.
use Rattle.std.specs.Prelude.{◌≡◌, ◌⊎◌, ◌+◌, ◌≤◌, ℕ, true, false, List, Some, length}
use Rattle.csv.specs.Reading.{strip_bom}
use Rattle.bx_devices.specs.Devices.{Reading}
use Rattle.bx_devices.specs.Octets.{ReadsAll, ReadsPrefix, ReadsWithin, RunsOutOfReads}
use Rattle.bx_devices.specs.declared.octets.TheConstants.{MAX_OCTETS}
use Rattle.bx_base.specs.Bookings.{Row}
use Rattle.bx_book.specs.Rows.{Span}
use Rattle.bx_book.specs.Texts.{IsBook, IsBookFault}
use Rattle.bx_book.specs.declared.fault.BookFault.TheVariants as f
use Rattle.bx_book.specs.declared.stream.StreamFault.{StreamFault}
use Rattle.bx_book.specs.declared.stream.StreamFault.TheVariants as stream

-- a text of at most `MAX_OCTETS` octets was read to its end
pub record IsWhole (reading : Reading) (text : List ℕ) : Type 0 where
  pub all : ReadsAll reading.before reading.after text
  pub fits : length text ≤ MAX_OCTETS

-- what was read to its end, if it is known, is the text of these bookings
abbrev pub IsBookRead : Reading → Span → List Row → Type 0
IsBookRead reading span bookings = (reading.is_faulted ≡ false)
    × ((text : List ℕ) → reading.before ≡ Some text → IsWhole reading text × IsBook (strip_bom text) span bookings)

-- what each fault says of the reader, and of the text that was read to its end
abbrev pub IsStreamFault : Reading → Span → StreamFault → Type 0
IsStreamFault reading span stream.ReadFailed = (reading.is_faulted ≡ true) ⊎ RunsOutOfReads reading.before reading.after reading.reads_before
IsStreamFault reading span stream.TooLong = (reading.is_faulted ≡ false) × ReadsPrefix reading.before reading.after (MAX_OCTETS + 1)
IsStreamFault reading span (stream.Book f.Memory) = ⊥
IsStreamFault reading span (stream.Book e) = (reading.is_faulted ≡ false)
    × ((text : List ℕ) → reading.before ≡ Some text → IsWhole reading text × IsBookFault (strip_bom text) span e)
IsStreamFault reading span stream.Memory = (reading.is_faulted ≡ false) × ReadsWithin reading.before reading.after MAX_OCTETS
