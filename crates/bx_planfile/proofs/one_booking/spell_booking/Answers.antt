use Rattle.bx_planfile.proofs.OneBooking.{booking_told_again}
use Rattle.bx_planfile.proofs.one_booking.spell_booking.Goals as goal

pub returns-clause-again : goal.returns-clause-again
returns-clause-again c = booking_told_again c.args.booking c.start-start.ensures.booking
