use Rattle.bx_colour.proofs.FirstFitStays.{extends}
use Rattle.bx_colour.proofs.laws.later_rows_extend.Goals as goal

pub returns : goal.returns
returns c m channels rows accepted assigned rows' accepted' assigned' first second longer same marks later =
    extends m rows rows' channels accepted accepted' assigned assigned' (record { first = first; second = second; longer = longer; same = same; marks = λ i lt early. marks i lt; later = later }) marks
