use Rattle.std.proofs.Common.{◌≡◌, rules, ◌⊎◌, true, IfSome}
use Rattle.csv.specs.Reading.{strip_bom}
use Rattle.bx_devices.specs.Watching.{device_of, is_faulted, reads_of}
use Rattle.bx_book.specs.Rows.{span_of}
use Rattle.bx_book.specs.Passed.{is_spent}
use Rattle.bx_book.specs.Texts.{IsBook, IsBookFault}
use Rattle.bx_book.specs.declared.fault.BookFault.TheVariants as f
use Rattle.bx_book.proofs.Streams.{short, book, book_fault}
use Rattle.bx_book.proofs.stream.read_bookings_from.Goals as goal

pub returns-in-Some-clause-err : goal.returns-in-Some-clause-err
returns-in-Some-clause-err g c =
    let read = c.read_metered-reader in
    let said = short g.R.Read.remaining c.args.reader.now read.result.reader.now (span_of c.args.day.now) read.result.octets read.ensures.passed read.result.has_ended read.ensures.each c.in-Some.fault c.in-Some.ensures in
    search rules steps 1000000

pub returns-in-Ok-clause-ok : goal.returns-in-Ok-clause-ok
returns-in-Ok-clause-ok g c =
    let read = c.read_metered-reader in
    let spent : is_spent read.result.has_ended (is_faulted read.result.reader.now) read.result.octets (reads_of read.result.reader.now) ≡ true = search rules steps 1000000 in
    let found : IfSome (g.R.Read.remaining (device_of c.args.reader.now)) (λ text. IsBook (strip_bom text) (span_of c.args.day.now) c.in-Ok.bookings) = search rules steps 1000000 in
    let said = book g.R.Read.remaining c.args.reader.now read.result.reader.now (span_of c.args.day.now) read.result.octets read.ensures.passed read.result.has_ended read.ensures.ended c.in-None.ensures.0 c.in-None.ensures.1 c.in-None.ensures.2 c.in-Ok.bookings spent found in
    search rules steps 1000000

pub returns-in-Err : goal.returns-in-Err
returns-in-Err g c =
    let read = c.read_metered-reader in
    let spent : (c.in-Err.fault ≡ f.Memory) ⊎ (is_spent read.result.has_ended (is_faulted read.result.reader.now) read.result.octets (reads_of read.result.reader.now) ≡ true) = search rules steps 1000000 in
    let found : IfSome (g.R.Read.remaining (device_of c.args.reader.now)) (λ text. IsBookFault (strip_bom text) (span_of c.args.day.now) c.in-Err.fault) = search rules steps 1000000 in
    let said = book_fault g.R.Read.remaining c.args.reader.now read.result.reader.now (span_of c.args.day.now) read.result.octets read.ensures.passed read.result.has_ended read.ensures.ended c.in-None.ensures.0 c.in-None.ensures.1 c.in-None.ensures.2 c.in-Err.fault spent found in
    search rules steps 1000000
