use Rattle.std.proofs.Common.{ℕ, ◌+◌, ◌≤◌, ◌≡◌, List, length, take, sym, arith}
use Rattle.std.proofs.lemmas.List.{take_all}
use Rattle.bx_journal.proofs.file.FileDiskDisk.cut.Goals as goal

all_of : (len : ℕ) (left : List ℕ) → (n : ℕ) × (len ≤ n) × (left ≡ take n left)
all_of len left = (len + length left, omega arith, sym (take_all (len + length left) left (omega arith)))

pub returns-then-is_err-clause-crash : goal.returns-then-is_err-clause-crash
returns-then-is_err-clause-crash g c = λ left any. (left, any, all_of c.args.len left)

pub returns-clause-crash : goal.returns-clause-crash
returns-clause-crash g c = λ left any. (left, any, all_of c.args.len left)
