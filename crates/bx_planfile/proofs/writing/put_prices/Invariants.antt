use Rattle.std.proofs.Common.{ℕ, ◌<◌, take, map}
use Rattle.std.specs.List.{flat_map}
use Rattle.bx_base.specs.Bound.{IsCharge, price_at}
use Rattle.bx_text.specs.Lines.{line_text}
use Rattle.bx_planfile.specs.Text.{price_fields}
use Rattle.bx_planfile.specs.declared.fault.PlanWriteFault.{PlanWriteFault}
use Rattle.bx_text.proofs.GatheringSteps.{done}
use Rattle.bx_text.specs.Gathering.{Gathers, held}
use Rattle.bx_planfile.proofs.writing.put_prices.Given as goal

abbrev pub invariant-loop-price : goal.invariant-loop-price
invariant-loop-price g l = record {
  text : Gathers g.W.Write.contents (held l.fn.w l.fn.block) (held l.w l.block) (done {E = PlanWriteFault}) (flat_map line_text (take l.price-index (map price_fields l.prices)));
  limits : (i : ℕ) → i < l.price-index → IsCharge (price_at l.prices i);
}
