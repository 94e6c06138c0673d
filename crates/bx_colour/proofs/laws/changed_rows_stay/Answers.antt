use Rattle.bx_colour.proofs.FirstFitChanged.{begun_stay}
use Rattle.bx_colour.proofs.laws.changed_rows_stay.Goals as goal

pub returns : goal.returns
returns c t allowed allowed' rows accepted assigned rows' accepted' assigned' fit fit' h i lt marked by = begun_stay t allowed allowed' rows accepted assigned rows' accepted' assigned' fit fit' h i lt marked by
