-- A picture, piece after piece.
use Rattle.std.proofs.Common.{◌≡◌, ℕ, List, [], ◌++◌}
use Rattle.bx_day_chart.specs.Heads.{pair}

-- five pieces of an empty one
pub joined : (t0 t1 t2 t3 t4 t5 a b c d e : List ℕ) → t0 ≡ [] → t1 ≡ t0 ++ a → t2 ≡ t1 ++ b → t3 ≡ t2 ++ c → t4 ≡ t3 ++ d → t5 ≡ t4 ++ e → t5 ≡ a ++ b ++ c ++ d ++ e
joined t0 t1 t2 t3 t4 t5 a b c d e p0 p1 p2 p3 p4 p5 = cc

-- two counts, by what they are
pub same_pair : (words : List ℕ) (a a' : ℕ) (more : List ℕ) (b b' : ℕ) → a ≡ a' → b ≡ b' → pair words a more b ≡ pair words a' more b'
same_pair words a a' more b b' p q = cc
