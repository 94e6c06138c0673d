use Rattle.std.proofs.Common.{◌≡◌, ◌<◌, ◌≤◌, ℕ, length}
use Rattle.bx_base.specs.Bookings.{row_at}
use Rattle.bx_sales.specs.declared.selling.NoSale.TheVariants.{Late, Memory}
use Rattle.bx_market.specs.declared.market.Answer.TheVariants.{Refused}
use Rattle.bx_market.specs.Answers.{answer_at}
use Rattle.bx_market.proofs.offering.tell_of_memory.Given as goal

abbrev pub invariant-loop-index : goal.invariant-loop-index
invariant-loop-index g l = record {
  len : length l.answers.items ≡ l.index;
  late : (i : ℕ) → i < length l.answers.items → (row_at l.batch i).start ≤ l.moment → answer_at l.answers.items i ≡ Refused Late;
  memory : (i : ℕ) → i < length l.answers.items → l.moment < (row_at l.batch i).start → answer_at l.answers.items i ≡ Refused Memory;
}
