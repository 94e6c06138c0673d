use Rattle.bx_office_world.proofs.Rooms.{free_fits, fits_free}
use Rattle.bx_office_world.proofs.laws.free_where_it_fits.Goals as goal

pub returns : goal.returns
returns c opened d wish row none room wished ends within = (free_fits opened d wish row none room ends, fits_free opened d wish row wished ends within)
