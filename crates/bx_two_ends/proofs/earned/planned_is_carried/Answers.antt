-- What is planned is earned.
use Rattle.bx_two_ends.proofs.EarnedDays.{carried_in, called_in, talking_in, in_service, cleared_from, carried_unbroken, carried_punctual}
use Rattle.bx_two_ends.proofs.FromNow.{carried_from}
use Rattle.bx_two_ends.proofs.earned.planned_is_carried.Goals as goal

pub returns-clause-carried : goal.returns-clause-carried
returns-clause-carried c rows channels assigned seconds i cleared offered ended b h few ok s = carried_in rows channels assigned seconds i cleared offered ended b h few ok s

pub returns-clause-in_service : goal.returns-clause-in_service
returns-clause-in_service c rows channels assigned seconds channel b h few ok = in_service rows channels assigned seconds channel b h few ok

pub returns-clause-unbroken : goal.returns-clause-unbroken
returns-clause-unbroken c rows channels assigned turns i b h few ok k = carried_unbroken rows channels assigned turns i b h few ok k

pub returns-clause-punctual : goal.returns-clause-punctual
returns-clause-punctual c rows channels assigned turns i b h few ok k = carried_punctual rows channels assigned turns i b h few ok k

pub returns-clause-called : goal.returns-clause-called
returns-clause-called c rows channels assigned seconds i begun connected ended b h few ok s = called_in rows channels assigned seconds i begun connected ended b h few ok s

pub returns-clause-talking : goal.returns-clause-talking
returns-clause-talking c rows channels assigned seconds i begun ended b h few ok s = talking_in rows channels assigned seconds i begun ended b h few ok s

pub returns-clause-cleared : goal.returns-clause-cleared
returns-clause-cleared c seconds d h = cleared_from seconds d h

pub returns-clause-recovered : goal.returns-clause-recovered
returns-clause-recovered c rows channels assigned events seconds i cleared offered ended b h few s ok k = carried_from rows channels assigned events seconds i cleared offered ended b h s k few ok
