-- A text after a place in it.
use Rattle.std.proofs.Common.{◌≡◌, sym, ℕ, ◌≤◌, List, drop, length, arith, ◌+◌, []}
use Rattle.std.proofs.lemmas.List.{drop_all}

pub drop_past : (n : ℕ) (xs : List ℕ) → length xs ≤ n → [] ≡ drop (n + 1) xs
drop_past n xs past = sym (drop_all (n + 1) xs (omega (arith, past)))
