use Rattle.bx_audit.proofs.Audited.{through_of}
use Rattle.bx_audit.proofs.OnItsDay.{unamended_day}
use Rattle.bx_audit.proofs.laws.captured_through.Goals as goal

pub returns-clause-through : goal.returns-clause-through
returns-clause-through c channels first events d d1 octets h = through_of channels first events d d1 octets h

pub returns-clause-unamended : goal.returns-clause-unamended
returns-clause-unamended c channels first events d d1 octets none h = unamended_day channels first events d d1 octets none h
