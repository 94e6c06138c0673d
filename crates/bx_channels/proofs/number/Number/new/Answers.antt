use Rattle.std.proofs.Common.{◌≡◌, ℕ, ◌-◌, List, ◌++◌, length, take, drop, rules, replicate, ap, sym, ◌∙◌, subst}
use Rattle.std.proofs.lemmas.List.{drop-replicate}
use Rattle.std.proofs.Math.Seq.{take-append_seam}
use Rattle.bx_channels.specs.Numbers.{IsNumber, padded}
use Rattle.bx_channels.specs.NumberInside.{IsNumberInside}
use Rattle.bx_channels.proofs.number.Number.new.Goals as goal

-- the digits at the start of zeros
inside_of : (digits zeros : List ℕ) → IsNumber digits → zeros ≡ replicate (15 - length digits) 0 → IsNumberInside (record { digits = digits ++ zeros; count = length digits })
inside_of digits zeros h z =
    let e : take (length digits) (digits ++ zeros) ≡ digits = take-append_seam digits zeros in
    record { number = subst IsNumber (sym e) h; zeros = ap (λ ys. digits ++ ys) z ∙ sym (ap padded e); counted = ap length (sym e) }

zeros_left : (n : ℕ) → drop {A = ℕ} n (replicate 15 0) ≡ replicate (15 - n) 0
zeros_left n = drop-replicate n 15 0

pub invariant_of-result : goal.invariant_of-result
invariant_of-result c =
    let bytes = c.args.bytes.now in
    rw c.copy_from_slice.ensures.after (inside_of bytes (drop {A = ℕ} (length bytes) (replicate 15 0)) (search rules) (zeros_left (length bytes)))
