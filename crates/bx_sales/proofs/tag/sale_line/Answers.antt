use Rattle.std.proofs.Common.{◌≡◌, Option, sym, subst, rules}
use Rattle.bx_sales.specs.declared.tag.Tag.{Tag}
use Rattle.bx_sales.specs.Tags.{sale_text, IsReadBack}
use Rattle.bx_sales.proofs.Tags.{plain_back, tagged_back}
use Rattle.bx_sales.proofs.tag.sale_line.Goals.{in-Some, in-None}
use Rattle.bx_sales.proofs.tag.sale_line.Goals as goal

pub returns-clause-again : goal.returns-clause-again
returns-clause-again c plain =
    let b = c.args.booking.now in
    let text : c.put.new.line.items ≡ sale_text c.args.tag b = search rules in
    subst (IsReadBack c.args.tag b) (sym text)
    (elim c.match-tag.branch [
      | in-Some w ↦ subst (λ (t : Option Tag). IsReadBack t b (sale_text t b)) (sym w.in-Some.is) (tagged_back w.in-Some.tag w.tag_line-line.ensures.sized.0 w.tag_line-line.ensures.sized.1 b)
      | in-None w ↦ subst (λ (t : Option Tag). IsReadBack t b (sale_text t b)) (sym w.in-None.is) (plain_back b plain)
    ])
