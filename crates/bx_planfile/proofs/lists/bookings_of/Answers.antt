use Rattle.std.proofs.Common.{◌≡◌, ◌++◌, ◌∷◌, ◌+◌, [], length, vec_len, arith, ap, ◌∙◌}
use Rattle.std.proofs.lemmas.Result.{err_from_is_err_and}
use Rattle.std.proofs.lemmas.List.{length_push}
use Rattle.bx_planfile.specs.Reading.{read_line, read_booking, read_bookings}
use Rattle.bx_planfile.specs.Values.{file_entry_of}
use Rattle.bx_planfile.proofs.Loops.{no_entries, booking_follows, booking_line_fails, booking_fails, bookings_done, bookings_grow, fails_from}
use Rattle.bx_planfile.proofs.Refusals.{line_never, booking_never, not_memory}
use Rattle.bx_planfile.proofs.lists.bookings_of.Goals as goal

pub loop-i-init : goal.loop-i-init
loop-i-init c = record {
  rows = ap length c.new-bookings.ensures;
  assigned = c.new-assigned.ensures.len;
  so_far = λ m le. rw (c.new-bookings.ensures, c.new-assigned.ensures.items) (no_entries c.args.version c.args.n c.args.bytes.now m);
}

pub returns-in_err-fields-clause-value : goal.returns-in_err-fields-clause-value
returns-in_err-fields-clause-value c =
    let p = err_from_is_err_and c.from_residual.result c.from_residual.ensures.1 in
    let total = read_bookings c.args.version c.args.count c.args.n c.args.bytes.now in
    let line = rw c.from.ensures at c.in_err-fields.ensures in
    rw (p.1, p.2) (booking_line_fails c.args.version c.args.count c.loop-i.i c.args.n c.loop-i.rest.now c.loop-i.bookings c.loop-i.assigned.items total (c.loop-i.invariant.so_far c.args.count (omega arith)) c.in_err-fields.field-0.0 c.loop-i-test.true
    (fails_from c.in_err-fields.field-0.0 (read_line (c.args.n + c.loop-i.i) c.loop-i.rest.now) line))

pub returns-in_err-fields-clause-memory : goal.returns-in_err-fields-clause-memory
returns-in_err-fields-clause-memory c = λ m. not_memory (line_never _ _) c.in_err-fields.ensures m c.from_residual.ensures.1

pub returns-in_err-booking-clause-value : goal.returns-in_err-booking-clause-value
returns-in_err-booking-clause-value c =
    let p = err_from_is_err_and c.from_residual-in_err-booking.result c.from_residual-in_err-booking.ensures.1 in
    let total = read_bookings c.args.version c.args.count c.args.n c.args.bytes.now in
    let booking = rw c.from.ensures at c.in_err-booking.ensures in
    rw (p.1, p.2) (booking_fails c.args.version c.args.count c.loop-i.i c.args.n c.loop-i.rest.now c.loop-i.bookings c.loop-i.assigned.items total (c.loop-i.invariant.so_far c.args.count (omega arith))
    c.in_ok-fields.fields c.in_ok-fields.after.now c.in_err-booking.field-0.0 c.loop-i-test.true (rw c.from.ensures at c.in_ok-fields.ensures)
    (fails_from c.in_err-booking.field-0.0 (read_booking c.args.version (c.args.n + c.loop-i.i) c.in_ok-fields.fields) booking))

pub returns-in_err-booking-clause-memory : goal.returns-in_err-booking-clause-memory
returns-in_err-booking-clause-memory c = λ m. not_memory (booking_never _ _ _) c.in_err-booking.ensures m c.from_residual-in_err-booking.ensures.1

pub returns-in_err-add-clause-memory : goal.returns-in_err-add-clause-memory
returns-in_err-add-clause-memory c = λ m.
    bookings_grow c.args.version c.args.count c.loop-i.i c.args.n c.args.bytes.now c.loop-i.rest.now c.loop-i.bookings c.loop-i.assigned.items c.loop-i.invariant.so_far
    c.in_ok-fields.fields c.in_ok-fields.after.now (file_entry_of c.in_ok-booking.booking c.in_ok-booking.channel) c.loop-i-test.true (rw c.from.ensures at c.in_ok-fields.ensures) (rw c.from.ensures at c.in_ok-booking.ensures)

pub returns-then-is_err-clause-memory : goal.returns-then-is_err-clause-memory
returns-then-is_err-clause-memory c = λ m.
    bookings_grow c.args.version c.args.count c.loop-i.i c.args.n c.args.bytes.now c.loop-i.rest.now c.loop-i.bookings c.loop-i.assigned.items c.loop-i.invariant.so_far
    c.in_ok-fields.fields c.in_ok-fields.after.now (file_entry_of c.in_ok-booking.booking c.in_ok-booking.channel) c.loop-i-test.true (rw c.from.ensures at c.in_ok-fields.ensures) (rw c.from.ensures at c.in_ok-booking.ensures)

pub loop-i-preserved : goal.loop-i-preserved
loop-i-preserved c =
    let ok = c.if-is_err.ensures.negation in
    let items : c.push.new.self.items ≡ c.loop-i.assigned.items ++ c.in_ok-booking.channel ∷ [] = rw ok at c.push.ensures.items in
    let len : vec_len c.push.new.self ≡ vec_len c.loop-i.assigned + 1 = rw ok at c.push.ensures.len in
    let added : c.add.new.bookings ≡ c.loop-i.bookings ++ c.in_ok-booking.booking ∷ [] = c.in_ok-add.ensures.ok in
    record {
      rows = ap length added ∙ length_push c.loop-i.bookings c.in_ok-booking.booking ∙ ap (λ n. n + 1) c.loop-i.invariant.rows;
      assigned = len ∙ ap (λ n. n + 1) c.loop-i.invariant.assigned;
      so_far = λ m le. rw (items, added) (booking_follows c.args.version m c.loop-i.i c.args.n c.loop-i.rest.now c.loop-i.bookings c.loop-i.assigned.items
          (read_bookings c.args.version m c.args.n c.args.bytes.now) (c.loop-i.invariant.so_far m (omega arith))
          c.in_ok-fields.fields c.in_ok-fields.after.now (file_entry_of c.in_ok-booking.booking c.in_ok-booking.channel) (omega arith)
          (rw c.from.ensures at c.in_ok-fields.ensures) (rw c.from.ensures at c.in_ok-booking.ensures));
    }

pub returns-clause-value : goal.returns-clause-value
returns-clause-value c = bookings_done c.args.version c.args.count c.loop-i.i c.args.n c.loop-i.rest.now c.loop-i.bookings c.loop-i.assigned.items (read_bookings c.args.version c.args.count c.args.n c.args.bytes.now) (c.loop-i.invariant.so_far c.args.count (omega arith)) c.loop-i-test.false
