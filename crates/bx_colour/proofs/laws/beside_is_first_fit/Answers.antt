use Rattle.bx_colour.proofs.FirstFitBeside.{first_fit_beside}
use Rattle.bx_colour.proofs.laws.beside_is_first_fit.Goals as goal

pub returns : goal.returns
returns c t left own allowed allowed' rows accepted assigned rows' accepted' assigned' fit fit' h keeps later = first_fit_beside t left own allowed allowed' rows accepted assigned rows' accepted' assigned' fit fit' h keeps later
