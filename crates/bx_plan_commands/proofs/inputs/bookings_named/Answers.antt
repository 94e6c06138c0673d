use Rattle.std.proofs.Common.{inr}
use Rattle.bx_devices.specs.Devices.{reading_of}
use Rattle.bx_plan_commands.proofs.Refusals.{same_fault}
use Rattle.bx_plan_commands.proofs.inputs.bookings_named.Goals as goal

pub returns-in-Err-Book-clause-none : goal.returns-in-Err-Book-clause-none
returns-in-Err-Book-clause-none g c =
    let input = reading_of g.I.Reader.Read.remaining c.in_ok-input.input c.read_bookings_from.new.reader in
    inr (input, record { given = c.in_ok-input.ensures.opened; unfaulted = c.in_ok-input.ensures.unfaulted; unread = c.in_ok-input.ensures.unread }, same_fault input _ _ _ c.in-Err-Book.field-0-is c.in-Err-Book.ensures.err)

pub returns-in-Err-Memory-clause-none : goal.returns-in-Err-Memory-clause-none
returns-in-Err-Memory-clause-none g c =
    let input = reading_of g.I.Reader.Read.remaining c.in_ok-input.input c.read_bookings_from.new.reader in
    inr (input, record { given = c.in_ok-input.ensures.opened; unfaulted = c.in_ok-input.ensures.unfaulted; unread = c.in_ok-input.ensures.unread }, same_fault input _ _ _ c.in-Err-Memory.field-0-is c.in-Err-Memory.ensures.err)

pub returns-in-Ok-clause-found : goal.returns-in-Ok-clause-found
returns-in-Ok-clause-found g c = record {
  input = reading_of g.I.Reader.Read.remaining c.in_ok-input.input c.read_bookings_from.new.reader;
  of_name = record { given = c.in_ok-input.ensures.opened; unfaulted = c.in_ok-input.ensures.unfaulted; unread = c.in_ok-input.ensures.unread };
  read = c.in-Ok.ensures.ok;
}
