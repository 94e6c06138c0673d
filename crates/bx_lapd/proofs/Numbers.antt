-- Numbers modulo 128 that are at most a window apart stand for the counts that they are of.
use Rattle.std.proofs.Common.{◌≡◌, ℕ, suc, ◌+◌, ◌-◌, ◌%◌, ◌≤◌, arith}
use Rattle.bx_lapd.specs.Links.{ahead}

pub ahead-is : (a n : ℕ) → a ≤ n → n ≤ a + 7 → ahead (a % 128) (n % 128) ≡ n - a
ahead-is a n h k = omega arith

pub same_number : (i r : ℕ) → r ≤ i + 7 → i ≤ r + 7 → i % 128 ≡ r % 128 → i ≡ r
same_number i r h k e = omega arith

pub next_number : (s : ℕ) → (s % 128 + 1) % 128 ≡ suc s % 128
next_number s = omega arith

pub further_number : (s k : ℕ) → (s % 128 + k) % 128 ≡ (s + k) % 128
further_number s k = omega arith
