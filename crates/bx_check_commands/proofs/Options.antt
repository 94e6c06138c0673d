-- What holds of what an option has.
use Rattle.std.proofs.Common.{◌≡◌, Option, Some, sym, subst}
use Rattle.std.specs.Prelude.{MatchOption}

pub at_some : {A : Type 0} (o : Option A) (x : A) (P : Type 0) (Q : A → Type 0) → o ≡ Some x → Q x → MatchOption o P Q
at_some {A = A} o x P Q e q = subst (λ (p : Option A). MatchOption p P Q) (sym e) q
