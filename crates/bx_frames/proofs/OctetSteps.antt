-- One step of the loop that reads a given count of octets.
use Rattle.std.proofs.Common.{◌≡◌, ℕ, ◌+◌, ◌-◌, ◌≤◌, ◌<◌, List, ◌++◌, length, take, sym, ap, ◌∙◌, subst, arith, length-append, Option}
use Rattle.std.proofs.Math.Seq.{take-append-add}
use Rattle.std.proofs.lemmas.List.{length-take-le, take-append-le}
use Rattle.std.specs.Io.KnownBytes.{Consumes, Keeps}
use Rattle.std.proofs.KnownBytes.{Consumes-trans, Consumes-kept}
use borrow.Rule.Slice.PartMut.{put_mid, post_of}

module _ (buf part : List ℕ) (at n : ℕ) (within : at ≤ length buf) (bound : n ≤ length part) where
  -- the prefix of the buffer, after a read of n octets to the place
  take_read : take (at + n) (put_mid at (length buf - at) buf part) ≡ take at buf ++ take n part
  take_read =
      let post = post_of at (length buf - at) buf in
      ap (λ (k : ℕ). take (k + n) (take at buf ++ (part ++ post))) (sym (length-take-le at buf within))
      ∙ take-append-add (take at buf) (part ++ post) n ∙ ap (λ (l : List ℕ). take at buf ++ l) (take-append-le n part post bound)

  pub read_within : at + n ≤ length (put_mid at (length buf - at) buf part)
  read_within = omega (arith, length-append (take at buf) (part ++ post_of at (length buf - at) buf), length-append part (post_of at (length buf - at) buf), length-take-le at buf within, bound)

  pub Consumes-next : (a b c : Option (List ℕ)) → Consumes a b (take at buf) → Consumes b c (take n part) → Consumes a c (take (at + n) (put_mid at (length buf - at) buf part))
  Consumes-next a b c p q = subst (Consumes a c) (sym take_read) (Consumes-trans a b c (take at buf) (take n part) p q)

-- a read failed, after what was read before
module _ (buf part : List ℕ) (at : ℕ) (within : at < length buf) (same : length part ≡ length buf - at) (a b c : Option (List ℕ)) where
  pub part_read : Consumes a b (take at buf) → Keeps b c → (read : List ℕ) × (length read < length (put_mid at (length buf - at) buf part)) × Consumes a c read
  part_read p q = (
    take at buf,
    omega (arith, within, same, length-take-le at buf (omega (arith, within)), length-append (take at buf) (part ++ post_of at (length buf - at) buf), length-append part (post_of at (length buf - at) buf)),
    Consumes-kept a b c (take at buf) p q,
  )
