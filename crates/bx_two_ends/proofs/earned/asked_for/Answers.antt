use Rattle.bx_two_ends.proofs.Asking.{asked_in_vain, never_touched, reported_down, untouched_row}
use Rattle.bx_two_ends.proofs.earned.asked_for.Goals as goal

pub returns-clause-in_vain : goal.returns-clause-in_vain
returns-clause-in_vain c call t end h = asked_in_vain call t end h

pub returns-clause-reported : goal.returns-clause-reported
returns-clause-reported c call m t state asked kind read unfit = reported_down call m t state asked kind read unfit

pub returns-clause-unasked : goal.returns-clause-unasked
returns-clause-unasked c call m t h = untouched_row call m t h

pub returns-clause-never : goal.returns-clause-never
returns-clause-never c rows assigned events = never_touched rows assigned events
