-- One more read of a reader whose octets are counted.
use Rattle.std.proofs.Common.{◌≡◌, ◌+◌, ◌≤◌, ℕ, List, ◌++◌, Option, None, Some, length, take, drop, sym, ap, ◌∙◌, arith, length-append, length-drop}
use Rattle.std.proofs.Math.Seq.{drop-append_seam}
use Rattle.std.proofs.lemmas.List.{drop-drop, length-take-le}
use Rattle.std.specs.Io.KnownBytes.{Consumes, IsAtEnd}
use Rattle.bx_book.specs.Passed.{HasPassed, HasNoneLeft}

step : (xs part ys : List ℕ) (count n : ℕ) → n ≤ length part → count ≤ length xs → drop count xs ≡ take n part ++ ys
    → (count + n ≤ length xs) × (Some ys ≡ Some (drop (count + n) xs))
step xs part ys count n few within e =
    let size = length-take-le n part few in (
      omega (arith, ap length e, length-append (take n part) ys, size, length-drop count xs),
      ap Some (sym (drop-append_seam (take n part) ys) ∙ ap (λ k. drop k (take n part ++ ys)) size ∙ ap (drop n) (sym e) ∙ drop-drop n count xs),
    )

of_known : (old new : Option (List ℕ)) (xs part : List ℕ) (count n : ℕ) → n ≤ length part → count ≤ length xs → old ≡ Some (drop count xs) → Consumes old new (take n part)
    → (count + n ≤ length xs) × (new ≡ Some (drop (count + n) xs))
of_known old None xs part count n few within e took = absurd (rw e at took)
of_known old (Some ys) xs part count n few within e took = step xs part ys count n few within (rw e at took)

pub has_passed_more : (text old new : Option (List ℕ)) (part : List ℕ) (count n : ℕ) → n ≤ length part → Consumes old new (take n part) → HasPassed text count old → HasPassed text (count + n) new
has_passed_more text old new part count n few took passed = λ xs known. let before = passed xs known in of_known old new xs part count n few before.0 before.1 took

pub none_left : (left : Option (List ℕ)) → IsAtEnd left → HasNoneLeft left
none_left None h = λ xs e. absurd cc
none_left (Some ys) h = λ xs e. let same : ys ≡ xs = cc in sym same ∙ h
