-- What is planned is carried, where each call is answered in its own time.
use Rattle.bx_two_ends.proofs.RingDays.{rung_in, rung_unbroken, rung_punctual}
use Rattle.bx_two_ends.proofs.RingMessages.{connects_within}
use Rattle.bx_two_ends.proofs.RingNone.{within_none, none_within}
use Rattle.bx_two_ends.proofs.ringing.rung_is_carried.Goals as goal

pub returns-clause-carried : goal.returns-clause-carried
returns-clause-carried c rows channels assigned within seconds i cleared offered answered ended b h few ok s = rung_in rows channels assigned within seconds i cleared offered answered ended b h few ok s

pub returns-clause-unbroken : goal.returns-clause-unbroken
returns-clause-unbroken c rows channels assigned within turns i b h few ok k = rung_unbroken rows channels assigned within turns i b h few ok k

pub returns-clause-punctual : goal.returns-clause-punctual
returns-clause-punctual c rows channels assigned within turns i b h few ok k = rung_punctual rows channels assigned within turns i b h few ok k

pub returns-clause-at_once : goal.returns-clause-at_once
returns-clause-at_once c seconds d few = (within_none seconds d few, none_within seconds d few)

pub returns-clause-connected : goal.returns-clause-connected
returns-clause-connected c rows channels assigned within seconds b set h few ok patient connects = connects_within rows channels assigned within seconds b set h few ok connects patient
