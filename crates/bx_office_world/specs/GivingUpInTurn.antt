-- Acts one after another note what all of them do.
use Rattle.std.specs.Prelude.{List, [], ◌++◌, Option}
use Rattle.std.proofs.Common.{refl, sym, ap, ◌∙◌}
use Rattle.bx_day.specs.declared.outcome.GivenUp.{GivenUp}
use Rattle.bx_live.specs.Acts.{Act, logged_by}
use Rattle.bx_live.proofs.Onward.{logged_on}
use Rattle.bx_sales.specs.GivenUps.{noted_by}
use Rattle.bx_sales.proofs.Noting.{noted_on}
use Rattle.bx_office_world.specs.GivingUp.{NotesGivenUp}

pub nothing_noted : (given_up : List (Option GivenUp)) → NotesGivenUp [] given_up given_up
nothing_noted given_up = refl

pub noted_in_turn : (xs ys : List Act) (a b c : List (Option GivenUp)) → NotesGivenUp xs a b → NotesGivenUp ys b c → NotesGivenUp (xs ++ ys) a c
noted_in_turn xs ys a b c p q = q ∙ (ap (λ g. noted_by g (logged_by ys)) p ∙ (sym (noted_on a (logged_by xs) (logged_by ys)) ∙ ap (noted_by a) (sym (logged_on xs ys))))
