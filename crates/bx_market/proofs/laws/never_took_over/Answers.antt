use Rattle.bx_market.proofs.PlanDays.{never_taken_over}
use Rattle.bx_market.proofs.laws.never_took_over.Goals as goal

pub returns : goal.returns
returns c channels rows marks events d before following answers to p run i lt told = never_taken_over channels rows marks events d before following answers to p run i lt told
