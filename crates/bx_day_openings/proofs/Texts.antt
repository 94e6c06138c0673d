-- The text that was read to its end.
use Rattle.std.proofs.Common.{◌≡◌, ◌∙◌, ℕ, List, ◌++◌, Option, Some, None, ap, sym, subst}
use Rattle.std.proofs.lemmas.List.{append-nil}
use Rattle.sha2.specs.Sha256.{sha256}
use Rattle.bx_base.specs.PlanParts.{Parts}
use Rattle.bx_check_commands.specs.Proved.{IsPlanRead, IsProvedFor}
use Rattle.bx_devices.specs.Octets.{ReadsAll}
use Rattle.bx_day_openings.specs.Tied.{IsTied}
use Rattle.bx_planfile.specs.Text.{IsTextOf}

pub text_told : (before after : Option (List ℕ)) (text : List ℕ) → ReadsAll before after text → (known : List ℕ) → before ≡ Some known → text ≡ known
text_told None after text all known is = absurd cc
text_told (Some xs) None text all known is = absurd all.0
text_told (Some xs) (Some ys) text all known is =
    let same : xs ≡ known = cc in
    sym (append-nil text) ∙ ap (λ (l : List ℕ). text ++ l) (sym all.1) ∙ sym all.0 ∙ same

-- a plan of this text, which is what was read
pub tied_by : (before seen : Option (List ℕ)) (text : List ℕ) (plan : Parts) (digest : List ℕ) → ((known : List ℕ) → before ≡ Some known → text ≡ known) → seen ≡ Some text → IsPlanRead seen plan → (total : ℕ) → IsProvedFor plan.rows plan.channels plan total
    → digest ≡ sha256 text → IsTied before plan digest
tied_by before seen text plan digest told is read total proved of = record {
  text = text;
  told = told;
  limits = read.limits;
  text_of = subst (λ (t : List ℕ). IsTextOf t plan) (read.told text is) read.text_of;
  total = total;
  proved = proved;
  digest_of = of;
}
