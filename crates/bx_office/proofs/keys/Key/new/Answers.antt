use Rattle.std.proofs.Common.{◌≡◌, ℕ, ◌-◌, List, ◌++◌, length, take, drop, rules, replicate, ap, sym, ◌∙◌, true}
use Rattle.std.proofs.lemmas.List.{drop-replicate}
use Rattle.std.proofs.Math.Seq.{take-append_seam}
use Rattle.bx_office.specs.Keys.{is_key, zero_filled}
use Rattle.bx_office.specs.KeyInside.{IsKeyInside}
use Rattle.bx_office.proofs.keys.Key.new.Goals as goal

-- the octets at the start of zeros
inside_of : (octets zeros : List ℕ) → is_key octets ≡ true → zeros ≡ replicate (64 - length octets) 0 → IsKeyInside (record { octets = octets ++ zeros; count = length octets })
inside_of octets zeros h z =
    let e : take (length octets) (octets ++ zeros) ≡ octets = take-append_seam octets zeros in
    record { key = ap is_key e ∙ h; zeros = ap (λ ys. octets ++ ys) z ∙ sym (ap zero_filled e); counted = ap length (sym e) }

zeros_left : (n : ℕ) → drop {A = ℕ} n (replicate 64 0) ≡ replicate (64 - n) 0
zeros_left n = drop-replicate n 64 0

pub invariant_of-result : goal.invariant_of-result
invariant_of-result c =
    let octets = c.args.octets.now in
    rw c.copy_from_slice.ensures.after (inside_of octets (drop {A = ℕ} (length octets) (replicate 64 0)) (search rules) (zeros_left (length octets)))
