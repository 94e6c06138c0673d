-- What one read after another finds.
use Rattle.std.proofs.Common.{◌≡◌, ℕ, ◌<◌, nat_lt, true, false, not, ◌&&◌, ◌==◌, Bool, subst, List, length, refl, sym, ap, ◌∙◌, arith, Option, Some, None, Result, Err, ◌⊎◌, inl, inr}
use Rattle.std.proofs.lemmas.Bool.Decides.{nat_tests}
use Rattle.std.specs.Io.KnownBytes.{Consumes}
use Rattle.bx_devices.specs.declared.watched.Watched.{Watched}
use Rattle.bx_devices.specs.Watching.{device_of, is_faulted}
use Rattle.bx_frames.specs.Frames.{Found, found, and_then, continue_by, octets_in, fits, is_message, contents_in, sized_in}
use Rattle.bx_frames.specs.declared.frame.FrameKind.{FrameKind}
use Rattle.bx_frames.specs.declared.frame.Frame.{Frame}
use Rattle.bx_frames.specs.Reading.{IsRead, IsFound, IsCut, Reads}
use Rattle.bx_frames.specs.declared.fault.LinkFault.{LinkFault}
use Rattle.bx_frames.specs.declared.fault.LinkFault.TheVariants.{ReadFailed, WriteFailed}
use Rattle.bx_frames.proofs.ReadAnswers.{gave, faulty, either_first, fails_after}
use Rattle.bx_frames.proofs.Locality.{IsLocal, octets_by, sized_by, cut_first, cut_later}

-- of known octets these were read
pub read_of : (old new : Option (List ℕ)) (read text : List ℕ) → Consumes old new read → old ≡ Some text → IsRead text read new
read_of None new read text c e = cc
read_of (Some xs) None read text c e = absurd c
read_of (Some xs) (Some ys) read text c e = let same : xs ≡ text = cc in record { rest = ys; splits = sym same ∙ c; is_left = refl }

pub was_found : {A : Type 0} (finds : List ℕ → Found A) (text : List ℕ) (x : A) (left : Option (List ℕ)) → IsFound (finds text) (gave x) left ⊎ ((gave x ≡ Err ReadFailed) × IsCut finds text left) → IsFound (finds text) (gave x) left
was_found finds text x left (inl p) = p
was_found finds text x left (inr (e, c)) = cc

pub not_faulted : {A : Type 0} (x : A) (P : Type 0) → P ⊎ (gave x ≡ Err ReadFailed) → P
not_faulted x P (inl p) = p
not_faulted x P (inr e) = cc

pub same_fault : {A B : Type 0} (fault other : LinkFault) → faulty {A = A} fault ≡ Err other → faulty {A = B} fault ≡ Err other
same_fault fault other e = let same : fault ≡ other = cc in ap (λ (f : LinkFault). faulty f) same

module _ {R A B : Type 0} (remaining : R → Option (List ℕ)) (first : List ℕ → Found A) (next : A → List ℕ → Found B) (a b : Watched R) where
  abbrev Both : List ℕ → Found B
  Both text = and_then (first text) next

  by_fault : (fault : LinkFault) (f : Found A) (left : Option (List ℕ)) → IsFound f (faulty fault) left → IsFound (and_then f next) (faulty fault) left
  by_fault fault f left p =
      let e : and_then f next ≡ found (Err fault) f.rest = ap (λ (x : Result A LinkFault). continue_by x f.rest next) (sym p.answer) in
      record { answer = sym (ap (λ (g : Found B). g.answer) e); rest = p.rest ∙ sym (ap (λ (g : Found B). Some g.rest) e) }

  -- the first has a fault
  pub reads_fault : (fault : LinkFault) → Reads remaining a b (faulty fault) first → Reads remaining a b (faulty fault) Both
  reads_fault fault p = record {
    found = λ text known. each text (p.found text known);
    failed = λ e. p.failed (same_fault fault ReadFailed e);
    counted = p.counted;
    unfaulted = either p.unfaulted;
    reads = λ e. p.reads (same_fault fault WriteFailed e);
  } where
    each : (text : List ℕ) → IsFound (first text) (faulty fault) (remaining (device_of b)) ⊎ ((faulty {A = A} fault ≡ Err ReadFailed) × IsCut first text (remaining (device_of b)))
        → IsFound (Both text) (faulty fault) (remaining (device_of b)) ⊎ ((faulty {A = B} fault ≡ Err ReadFailed) × IsCut Both text (remaining (device_of b)))
    each text (inl f) = inl (by_fault fault (first text) (remaining (device_of b)) f)
    each text (inr (e, c)) = inr (same_fault fault ReadFailed e, cut_first first next text (remaining (device_of b)) c)

    either : (is_faulted b ≡ is_faulted a) ⊎ (faulty {A = A} fault ≡ Err ReadFailed) → (is_faulted b ≡ is_faulted a) ⊎ (faulty {A = B} fault ≡ Err ReadFailed)
    either (inl p) = inl p
    either (inr e) = inr (same_fault fault ReadFailed e)

  -- or the next is read
  pub reads_then : (c : Watched R) (x : A) (result : Result B LinkFault) → IsLocal first → Reads remaining a b (gave x) first → Reads remaining b c result (next x) → Reads remaining a c result Both
  reads_then c x result is_local p q = record {
    found = λ text known.
        let f = was_found first text x (remaining (device_of b)) (p.found text known) in
        each text f (q.found (first text).rest f.rest);
    failed = λ e. fails_after a b c p.counted (q.failed e);
    counted = omega (arith, p.counted, q.counted);
    unfaulted = either_first (λ e. e ∙ not_faulted x (is_faulted b ≡ is_faulted a) p.unfaulted) q.unfaulted;
    reads = q.reads;
  } where
    each : (text : List ℕ) → IsFound (first text) (gave x) (remaining (device_of b)) → IsFound (next x (first text).rest) result (remaining (device_of c)) ⊎ ((result ≡ Err ReadFailed) × IsCut (next x) (first text).rest (remaining (device_of c)))
        → IsFound (Both text) result (remaining (device_of c)) ⊎ ((result ≡ Err ReadFailed) × IsCut Both text (remaining (device_of c)))
    each text f (inl g) =
        let e : Both text ≡ next x (first text).rest = ap (λ (y : Result A LinkFault). continue_by y (first text).rest next) (sym f.answer) in
        inl (record { answer = g.answer ∙ sym (ap (λ (h : Found B). h.answer) e); rest = g.rest ∙ sym (ap (λ (h : Found B). Some h.rest) e) })
    each text f (inr (e, g)) = inr (e, cut_later first next text x (first text).rest (remaining (device_of c)) (is_local text x f.answer) g)

-- so few octets are not enough
pub octets_cut : (n : ℕ) (text read : List ℕ) (left : Option (List ℕ)) → length read < n → IsRead text read left → IsCut (octets_in n) text left
octets_cut n text read left few is_read = let short : nat_lt (length read) n ≡ true = grind (arith, nat_tests) in record { read = read; is_read = is_read; cut = ap (λ (b : Bool). octets_by b n read) short }

-- the length fits, and there is room
pub reads_sized : {R : Type 0} (remaining : R → Option (List ℕ)) (a b : Watched R) (kind : FrameKind) (room n : ℕ) (result : Result Frame LinkFault) → not (fits kind n) ≡ false → (is_message kind && (room == 0)) ≡ false
    → Reads remaining a b result (contents_in kind n) → Reads remaining a b result (sized_in kind room n)
reads_sized remaining a b kind room n result e f p =
    subst (λ (x : Bool). Reads remaining a b result (sized_by x (is_message kind && (room == 0)) kind n)) (sym e) (subst (λ (x : Bool). Reads remaining a b result (sized_by false x kind n)) (sym f) p)
