use Rattle.bx_colour.specs.ChangedRows.{choices_of}
use Rattle.bx_colour.proofs.SweepingAmong.{IsSweptAmong}
use Rattle.bx_colour.proofs.beside.colour_beside.Given as goal

abbrev pub invariant-loop-row : goal.invariant-loop-row
invariant-loop-row l = IsSweptAmong l.bookings (choices_of l.own l.channels) l.row-items l.row-index l.assigned.items l.until
