use Rattle.bx_lapd.proofs.Anew.{anew_holds, same_links}
use Rattle.bx_lapd.proofs.laws.in_order_anew.Goals as goal

pub returns-clause-order : goal.returns-clause-order
returns-clause-order c = anew_holds

pub returns-clause-links : goal.returns-clause-links
returns-clause-links c = same_links
