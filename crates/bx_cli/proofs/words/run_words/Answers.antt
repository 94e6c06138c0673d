use Rattle.std.proofs.Common.{inr, refl, Ok}
use Rattle.bx_cli.proofs.Standard.{live_at_three}
use Rattle.bx_cli.proofs.words.run_words.Goals as goal

pub returns-in-Some-clause-for_good : goal.returns-in-Some-clause-for_good
returns-in-Some-clause-for_good g c three = (Ok c.in-Ok.request, c.in-Ok.ensures, inr (live_at_three _ _ c.files_met.ensures three, (c.in-Some.name.now, c.in-Some.ensures.met, refl)))
