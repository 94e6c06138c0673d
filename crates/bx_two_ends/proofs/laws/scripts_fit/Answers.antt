-- Each field of a row was looked at.
use Rattle.bx_two_ends.proofs.ReadScripts as read
use Rattle.bx_two_ends.proofs.laws.scripts_fit.Goals as goal

pub returns : goal.returns
returns c = read.scripts_fit
