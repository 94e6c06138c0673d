use Rattle.bx_devices.specs.Watching.{device_of, reads_of}
use Rattle.bx_book.proofs.stream.read_bookings_from.Given as goal

-- the reader that is read
abbrev pub ghosts-read_metered : goal.ghosts-read_metered
ghosts-read_metered g a = record { name = a.reader.ghost_name; text = g.R.Read.remaining (device_of a.reader.now); reads = reads_of a.reader.now }
