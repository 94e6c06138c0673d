-- What is taken of a device, one part after another.
use Rattle.std.proofs.Common.{◌≡◌, inl, ℕ, ◌+◌, ◌≤◌, ◌==◌, Bool, true, false, List, [], ◌∷◌, ◌++◌, length, Option, Result, Ok, Err, OnOk, OnErr, is_ok, ap, sym, ◌∙◌, subst, append_assoc, length-append, arith}
use Rattle.std.proofs.lemmas.List.{append-nil}
use Rattle.std.proofs.KnownBytes.{Consumes-nil, Consumes-trans}
use Rattle.bx_journal.specs.Held.{Held}
use Rattle.bx_journal.specs.Lines.{line_ended}
use Rattle.bx_journal.specs.Inside.{HasNoLf}
use Rattle.bx_journal.specs.declared.pieces.CannotRead.{CannotRead}
use Rattle.bx_journal.specs.declared.line_reading.LineEnd.{LineEnd}
use Rattle.bx_journal.specs.declared.line_reading.LineEnd.TheVariants.{Whole, TooLong, Torn}
use Rattle.bx_journal.specs.Taking.{Takes, TakesPart, TakesLine, EndsInLine, Stops, IsOver, IsSkipped, IsLine}

pub no_lf_on : (xs ys : List ℕ) → HasNoLf xs → HasNoLf ys → HasNoLf (xs ++ ys)
no_lf_on [] ys x y = y
no_lf_on (b ∷ xs) ys x y = (x.0, no_lf_on xs ys x.1 y)

regroup : (o r s xs ys p n : List ℕ) → o ++ r ≡ xs ++ p → p ++ s ≡ ys ++ n → o ++ (r ++ s) ≡ (xs ++ ys) ++ n
regroup o r s xs ys p n a b =
    sym (append_assoc o r s) ∙ ap (λ (l : List ℕ). l ++ s) a ∙ append_assoc xs p s ∙ ap (λ (l : List ℕ). xs ++ l) b ∙ sym (append_assoc xs ys n)

module _ (before middle after : Option (List ℕ)) (old mid new : Held) where
  pub takes_then : (xs ys : List ℕ) → Takes before middle old mid xs → Takes middle after mid new ys → Takes before after old new (xs ++ ys)
  takes_then xs ys first second = record {
    read = first.read ++ second.read;
    consumed = Consumes-trans before middle after first.read second.read first.consumed second.consumed;
    split = regroup old.octets first.read second.read xs ys mid.octets new.octets first.split second.split;
    count = omega (arith, first.count, second.count, length-append xs ys);
  }

  pub part_then : (xs ys : List ℕ) → TakesPart before middle old mid xs → TakesPart middle after mid new ys → TakesPart before after old new (xs ++ ys)
  part_then xs ys first second = record { takes = takes_then xs ys first.takes second.takes; no_lf = no_lf_on xs ys first.no_lf second.no_lf }

  -- one octet more that is no LF
  pub octet_then : (xs : List ℕ) (octet : ℕ) → TakesPart before middle old mid xs → Takes middle after mid new (octet ∷ []) → octet == 10 ≡ false → TakesPart before after old new (xs ++ octet ∷ [])
  octet_then xs octet first next other = record { takes = takes_then xs (octet ∷ []) first.takes next; no_lf = no_lf_on xs (octet ∷ []) first.no_lf (other, tt) }

  -- the rest of a line, and its LF
  pub line_then : (xs ys : List ℕ) → TakesPart before middle old mid xs → TakesLine middle after mid new ys → TakesLine before after old new (xs ++ ys)
  line_then xs ys first second = record {
    takes = subst (Takes before after old new) (sym (append_assoc xs ys (10 ∷ []))) (takes_then xs (line_ended ys) first.takes second.takes);
    no_lf = no_lf_on xs ys first.no_lf second.no_lf;
  }

  pub ends_then : (xs : List ℕ) → TakesPart before middle old mid xs → EndsInLine middle after mid new → EndsInLine before after old new
  ends_then xs first second = record { torn = xs ++ second.torn; part = part_then xs second.torn first second.part; over = second.over }

  pub stops_then : (faulted : Bool) (xs : List ℕ) → TakesPart before middle old mid xs → Stops faulted middle after mid new → Stops faulted before after old new
  stops_then faulted xs first second = record { torn = xs ++ second.torn; part = part_then xs second.torn first second.part; stopped = second.stopped }

-- nothing was read or taken
pub takes_none : (now : Option (List ℕ)) (held : Held) → Takes now now held held []
takes_none now held = record { read = []; consumed = Consumes-nil now; split = append-nil held.octets; count = omega arith }

pub part_none : (now : Option (List ℕ)) (held : Held) → TakesPart now now held held []
part_none now held = record { takes = takes_none now held; no_lf = tt }

-- an octet that was held
pub takes_held : (now : Option (List ℕ)) (old new : Held) (octet : ℕ) → old.octets ≡ octet ∷ new.octets → new.taken ≡ old.taken + 1 → Takes now now old new (octet ∷ [])
takes_held now old new octet is count = record { read = []; consumed = Consumes-nil now; split = append-nil old.octets ∙ is; count = omega (arith, count) }

-- after a reader that held nothing, what was read is what was taken and what is held
pub all_read : (before after : Option (List ℕ)) (old new : Held) (xs : List ℕ) → old.octets ≡ [] → (t : Takes before after old new xs) → t.read ≡ xs ++ new.octets
all_read before after old new xs none t = ap (λ (l : List ℕ). l ++ t.read) (sym none) ∙ t.split

module _ (before middle after : Option (List ℕ)) (old mid new : Held) where
  -- the LF of a line
  pub line_done : (xs : List ℕ) (octet : ℕ) → TakesPart before middle old mid xs → Takes middle after mid new (octet ∷ []) → octet ≡ 10 → TakesLine before after old new xs
  line_done xs octet first next is = record {
    takes = takes_then before middle after old mid new xs (10 ∷ []) first.takes (subst (λ o. Takes middle after mid new (o ∷ [])) is next);
    no_lf = first.no_lf;
  }

  -- the end, and a failed read
  pub ends_here : (xs : List ℕ) → TakesPart before middle old mid xs → Takes middle after mid new [] × IsOver after new → EndsInLine before after old new
  ends_here xs first last = ends_then before middle after old mid new xs first (record { torn = []; part = record { takes = last.0; no_lf = tt }; over = last.1 })

  pub stops_here : (faulted : Bool) (xs : List ℕ) → TakesPart before middle old mid xs → Takes middle after mid new [] × (faulted ≡ true) × (new.octets ≡ []) → Stops faulted before after old new
  stops_here faulted xs first last = stops_then before middle after old mid new faulted xs first (record { torn = []; part = record { takes = last.0; no_lf = tt }; stopped = inl (last.1, last.2) })

  -- a line that is not kept whole
  pub skipped_line : (faulted : Bool) (xs kept : List ℕ) (octet : ℕ) (r : Result LineEnd CannotRead) → TakesPart before middle old mid (xs ++ octet ∷ []) → 526 ≤ length xs → IsSkipped faulted middle after mid new r → IsLine faulted before after old new kept r
  skipped_line faulted xs kept octet (Ok Whole) first few next = absurd next
  skipped_line faulted xs kept octet (Ok TooLong) first few next =
      ((xs ++ octet ∷ []) ++ next.0, line_then before middle after old mid new (xs ++ octet ∷ []) next.0 first next.1, omega (arith, few, length-append (xs ++ octet ∷ []) next.0, length-append xs (octet ∷ [])))
  skipped_line faulted xs kept octet (Ok Torn) first few next = ends_then before middle after old mid new (xs ++ octet ∷ []) first next
  skipped_line faulted xs kept octet (Err fault) first few next = stops_then before middle after old mid new faulted (xs ++ octet ∷ []) first next

pub at_err : {P T E : Type 0} (r : Result T E) → is_ok r ≡ false → OnErr r P → P
at_err (Ok x) e p = absurd cc
at_err (Err x) e p = p

pub at_ok : {P T E : Type 0} (r : Result T E) → is_ok r ≡ true → OnOk r P → P
at_ok (Ok x) e p = p
at_ok (Err x) e p = absurd cc
