-- Private: the faults of a text as those of a reader.
use Rattle.std.specs.Prelude.{◌≡◌, ◌⊎◌, ◌+◌, ◌≤◌, ℕ, Bool, true, false, List, Result, Err}
use Rattle.bx_book.specs.declared.fault.BookFault.{BookFault}
use Rattle.bx_book.specs.declared.fault.BookFault.TheVariants as f
use Rattle.bx_book.specs.declared.stream.StreamFault.{StreamFault}
use Rattle.bx_book.specs.declared.stream.StreamFault.TheVariants as stream
use Rattle.bx_base.specs.Bookings.{Row}
use Rattle.bx_devices.specs.Watching.{is_faulted, reads_of}
use Rattle.bx_devices.specs.declared.watched.Watched.{Watched}
use Rattle.bx_devices.specs.declared.octets.TheConstants.{MAX_OCTETS}
use Rattle.bx_devices.specs.declared.watched.TheConstants.{MAX_READS}
use Rattle.bx_book.specs.Passed.{is_spent}

-- why less than the whole was read, by what was counted
abbrev pub IsMeterFault : Bool → Bool → ℕ → ℕ → StreamFault → Type 0
IsMeterFault is_faulted has_ended octets reads stream.ReadFailed = (is_faulted ≡ true)
    ⊎ ((is_faulted ≡ false) × (has_ended ≡ false) × (octets ≤ MAX_OCTETS) × (reads ≡ MAX_READS))
IsMeterFault is_faulted has_ended octets reads stream.TooLong = (is_faulted ≡ false) × (octets ≡ MAX_OCTETS + 1)
IsMeterFault is_faulted has_ended octets reads (stream.Book e) = ⊥
IsMeterFault is_faulted has_ended octets reads stream.Memory = ⊥

-- a fault of a text as one of its reader
abbrev pub told_as : BookFault → StreamFault
told_as f.Memory = stream.Memory
told_as e = stream.Book e

-- memory ran out, or the reader was read until nothing more is
abbrev pub IsReadOut : {R : Type 0} → Result (List Row) BookFault → Bool → ℕ → Watched R → Type 0
IsReadOut bookings has_ended octets reader =
    (bookings ≡ Err f.Memory)
    ⊎ (is_spent has_ended (is_faulted reader) octets (reads_of reader) ≡ true)
