-- One step of a loop over a watched reader or writer.
use Rattle.std.proofs.Common.{◌≡◌, ◌≢◌, ℕ, ◌+◌, ◌-◌, ◌≤◌, ◌==◌, ◌||◌, ◌&&◌, Bool, false, nat_lt, List, ◌++◌, length, take, drop, sym, subst, arith, length-append, length-drop, Option, Some, None, ◌∙◌, append-nil}
use Rattle.std.proofs.Math.Seq.{take-add, take-append-add}
use Rattle.std.proofs.lemmas.List.{take_all, length-take-le, take-append-le}
use Rattle.std.proofs.lemmas.Bool.Decides.{nat_tests}
use Rattle.std.proofs.Math.Bool.{or-false}
use Rattle.std.specs.Io.KnownBytes.{Appends, Consumes}
use Rattle.std.proofs.KnownBytes.{Appends-trans, Consumes-trans}
use Rattle.bx_devices.specs.Octets.{AppendsPrefix, ReadsAll, ReadsPrefix}

-- what is left from a place on, as the code cuts it
pub from_place : (bytes : List ℕ) (at : ℕ) → take (length bytes - at) (drop at bytes) ≡ drop at bytes
from_place bytes at = take_all (length bytes - at) (drop at bytes) (omega (arith, length-drop at bytes))

pub length-from_place : (bytes : List ℕ) (at : ℕ) → length (take (length bytes - at) (drop at bytes)) ≡ length bytes - at
length-from_place bytes at = rw from_place (length-drop at bytes)

-- at octets were appended, and then the next n
pub Appends-next : (a b c : Option (List ℕ)) (bytes : List ℕ) (at n : ℕ) → Appends a b (take at bytes) → Appends b c (take n (take (length bytes - at) (drop at bytes))) → Appends a c (take (at + n) bytes)
Appends-next a b c bytes at n p q = subst (Appends a c) (sym (take-add at n bytes)) (Appends-trans a b c (take at bytes) (take n (drop at bytes)) p (subst (λ l. Appends b c (take n l)) (from_place bytes at) q))

-- a write that took some
pub takes_some : (n : ℕ) (bytes : List ℕ) (old : Bool) → n ≢ 0 → (old || ((n == 0) && nat_lt 0 (length bytes))) ≡ old
takes_some n bytes old h = let e : ((n == 0) && nat_lt 0 (length bytes)) ≡ false = grind (arith, nat_tests) in rw e (or-false old)

-- the read that brings one octet too many
pub ReadsPrefix-next : (a b c : Option (List ℕ)) (old buf : List ℕ) (n most : ℕ) → Consumes a b old → Consumes b c (take n buf) → n ≤ length buf → length old + n ≡ most → ReadsPrefix a c most
ReadsPrefix-next a b c old buf n most p q h e = (old ++ take n buf, omega (arith, length-append old (take n buf), length-take-le n buf h), Consumes-trans a b c old (take n buf) p q)

-- a prefix of what was to be written, before more of it
pub AppendsPrefix-more : (a b : Option (List ℕ)) (bs cs : List ℕ) → AppendsPrefix a b bs → AppendsPrefix a b (bs ++ cs)
AppendsPrefix-more a b bs cs p = (p.0, omega (arith, p.1, length-append bs cs), subst (Appends a b) (sym (take-append-le p.0 bs cs p.1)) p.2)

-- all of one text, and a prefix of the next
pub AppendsPrefix-after : (a b c : Option (List ℕ)) (bs cs : List ℕ) → Appends a b bs → AppendsPrefix b c cs → AppendsPrefix a c (bs ++ cs)
AppendsPrefix-after a b c bs cs p q = (length bs + q.0, omega (arith, q.1, length-append bs cs), subst (Appends a c) (sym (take-append-add bs cs q.0)) (Appends-trans a b c bs (take q.0 cs) p q.2))

-- what was read to the end is what was known to be left
pub ReadsAll-known : (old new : Option (List ℕ)) (bs text : List ℕ) → ReadsAll old new bs → old ≡ Some text → bs ≡ text
ReadsAll-known None new bs text r e = cc
ReadsAll-known (Some xs) None bs text r e = absurd r.0
ReadsAll-known (Some xs) (Some ys) bs text r e = let whole : bs ++ ys ≡ bs = rw r.1 (append-nil bs) in let same : xs ≡ text = cc in sym whole ∙ (sym r.0 ∙ same)
