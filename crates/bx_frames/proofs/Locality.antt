-- What is found at the start of a text depends on what is read alone: whatever comes after it is left.
use Rattle.std.proofs.Common.{◌≡◌, ℕ, ◌≤◌, nat_lt, Bool, true, false, not, ◌&&◌, ◌==◌, if◌then◌else◌, List, [], ◌∷◌, ◌++◌, length, take, drop, refl, sym, ap, ◌∙◌, append_assoc, length-append, arith, Option, Some, None, Result, Ok, Err}
use Rattle.std.proofs.lemmas.Bool.Decides.{nat_tests}
use Rattle.std.proofs.lemmas.List.{take-append-drop, length-take-le}
use Rattle.std.proofs.Math.Seq.{take-append_seam, drop-append_seam}
use Rattle.std.specs.Int.{w16, from_be_bytes}
use Rattle.arrayvec.specs.ArrayVec.{ArrayVec}
use Rattle.bx_frames.specs.Frames.{Found, found, and_then, continue_by, octet_in, octets_in, length_in, fits, is_message, frame_of, contents_in, sized_in, frame_kind_of, kind_in, frame_in}
use Rattle.bx_frames.specs.Reading.{IsCut}
use Rattle.bx_frames.specs.declared.fault.LinkFault.{LinkFault}
use Rattle.bx_frames.specs.declared.fault.LinkFault.TheVariants.{EndedInFrame, BadLength, MoreThan64Messages}
use Rattle.bx_frames.specs.declared.frame.Receiver.{Receiver}
use Rattle.bx_frames.specs.declared.frame.FrameKind.{FrameKind}
use Rattle.bx_frames.specs.declared.frame.Frame.{Frame}
use Rattle.bx_frames.proofs.ReadAnswers.{gave}

-- this was found, and it is found whatever comes after what was read
pub record IsTaken {A : Type 0} (finds : List ℕ → Found A) (text : List ℕ) (x : A) (rest : List ℕ) : Type 0 where
  pub read : List ℕ
  pub splits : text ≡ read ++ rest
  pub onward : (more : List ℕ) → finds (read ++ more) ≡ found (Ok x) more

-- what a definition finds is so for each text
abbrev pub IsLocal : {A : Type 0} → (List ℕ → Found A) → Type 0
IsLocal {A = A} finds = (text : List ℕ) (x : A) → gave x ≡ (finds text).answer → IsTaken finds text x (finds text).rest

-- ---- one definition after another

module _ {A B : Type 0} (first : List ℕ → Found A) (next : A → List ℕ → Found B) where
  abbrev Both : List ℕ → Found B
  Both text = and_then (first text) next

  pub then_local : IsLocal first → ((x : A) → IsLocal (next x)) → IsLocal Both
  then_local p q text y e = by_answer (first text).answer refl e where
    by_answer : (a : Result A LinkFault) → (first text).answer ≡ a → gave y ≡ (continue_by a (first text).rest next).answer → IsTaken Both text y (continue_by a (first text).rest next).rest
    by_answer (Ok x) s e =
        let a = p text x (sym s) in
        let b = q x (first text).rest y e in
        record {
          read = a.read ++ b.read;
          splits = a.splits ∙ ap (λ (l : List ℕ). a.read ++ l) b.splits ∙ sym (append_assoc a.read b.read (next x (first text).rest).rest);
          onward = λ more. ap Both (append_assoc a.read b.read more) ∙ ap (λ (f : Found A). and_then f next) (a.onward (b.read ++ more)) ∙ b.onward more;
        }
    by_answer (Err fault) s e = cc

  pub cut_first : (text : List ℕ) (left : Option (List ℕ)) → IsCut first text left → IsCut Both text left
  cut_first text left c = record { read = c.read; is_read = c.is_read; cut = ap (λ (f : Found A). and_then f next) c.cut }

  pub cut_later : (text : List ℕ) (x : A) (rest : List ℕ) (left : Option (List ℕ)) → IsTaken first text x rest → IsCut (next x) rest left → IsCut Both text left
  cut_later text x rest left a c = record {
    read = a.read ++ c.read;
    is_read = record { rest = c.is_read.rest; splits = a.splits ∙ ap (λ (l : List ℕ). a.read ++ l) c.is_read.splits ∙ sym (append_assoc a.read c.read c.is_read.rest); is_left = c.is_read.is_left };
    cut = ap (λ (f : Found A). and_then f next) (a.onward c.read) ∙ c.cut;
  }

-- ---- octets

pub octet_local : IsLocal octet_in
octet_local [] x e = cc
octet_local (octet ∷ rest) x e = let same : octet ≡ x = cc in record { read = octet ∷ []; splits = refl; onward = λ more. ap (λ (n : ℕ). found (Ok n) more) same }

pub answered_local : {A : Type 0} (y : A) → IsLocal (λ (rest : List ℕ). found (Ok y) rest)
answered_local y text x e = let same : x ≡ y = cc in record { read = []; splits = refl; onward = λ more. ap (λ z. found (Ok z) more) (sym same) }

abbrev pub octets_by : Bool → ℕ → List ℕ → Found (ArrayVec ℕ)
octets_by b n text = if b then found (Err EndedInFrame) [] else found (Ok (record { items = take n text })) (drop n text)

module _ (n : ℕ) (text : List ℕ) (enough : n ≤ length text) (more : List ℕ) where
  count : length (take n text) ≡ n
  count = length-take-le n text enough

  still_enough : nat_lt (length (take n text ++ more)) n ≡ false
  still_enough = let total = length-append (take n text) more in let prefix = count in grind (arith, nat_tests)

  same_octets : octets_in n (take n text ++ more) ≡ found (Ok (record { items = take n text })) more
  same_octets =
      let prefix : take n (take n text ++ more) ≡ take n text = ap (λ (k : ℕ). take k (take n text ++ more)) (sym count) ∙ take-append_seam (take n text) more in
      let following : drop n (take n text ++ more) ≡ more = ap (λ (k : ℕ). drop k (take n text ++ more)) (sym count) ∙ drop-append_seam (take n text) more in
      ap (λ (b : Bool). octets_by b n (take n text ++ more)) still_enough
      ∙ ap (λ (l : List ℕ). found (Ok (record { items = l })) (drop n (take n text ++ more))) prefix ∙ ap (λ (l : List ℕ). found (Ok (record { items = take n text })) l) following

pub octets_local : (n : ℕ) → IsLocal (octets_in n)
octets_local n text x e = by_test (nat_lt (length text) n) refl e where
  by_test : (b : Bool) → nat_lt (length text) n ≡ b → gave x ≡ (octets_by b n text).answer → IsTaken (octets_in n) text x (octets_by b n text).rest
  by_test true t e = cc
  by_test false t e =
      let enough : n ≤ length text = grind (arith, nat_tests) in
      let taken : ArrayVec ℕ = record { items = take n text } in
      let same : taken ≡ x = cc in
      record { read = take n text; splits = sym (take-append-drop n text); onward = λ more. same_octets n text enough more ∙ ap (λ (v : ArrayVec ℕ). found (Ok v) more) same }

-- ---- frames

pub length_local : IsLocal length_in
length_local =
    then_local octet_in (λ high more. and_then (octet_in more) (λ low rest. found (Ok (from_be_bytes w16 (high ∷ low ∷ []))) rest)) octet_local
    (λ high. then_local octet_in (λ low rest. found (Ok (from_be_bytes w16 (high ∷ low ∷ []))) rest) octet_local (λ low. answered_local (from_be_bytes w16 (high ∷ low ∷ []))))

contents_local : (kind : FrameKind) (n : ℕ) → IsLocal (contents_in kind n)
contents_local kind n = then_local (octets_in n) (λ octets rest. found (Ok (frame_of kind octets)) rest) (octets_local n) (λ octets. answered_local (frame_of kind octets))

abbrev pub sized_by : Bool → Bool → FrameKind → ℕ → List ℕ → Found Frame
sized_by b c kind n text = if b then found (Err BadLength) text else if c then found (Err MoreThan64Messages) text else contents_in kind n text

pub sized_local : (kind : FrameKind) (room n : ℕ) → IsLocal (sized_in kind room n)
sized_local kind room n = by_tests (not (fits kind n)) (is_message kind && (room == 0)) where
  by_tests : (b c : Bool) → IsLocal (sized_by b c kind n)
  by_tests true c text x e = cc
  by_tests false true text x e = cc
  by_tests false false text x e = contents_local kind n text x e

pub kind_local : (kind : Option FrameKind) (room : ℕ) → IsLocal (kind_in kind room)
kind_local None room text x e = cc
kind_local (Some kind) room text x e = then_local length_in (sized_in kind room) length_local (sized_local kind room) text x e

pub frame_local : (receiver : Receiver) (room : ℕ) → IsLocal (frame_in receiver room)
frame_local receiver room = then_local octet_in (λ octet rest. kind_in (frame_kind_of receiver octet) room rest) octet_local (λ octet. kind_local (frame_kind_of receiver octet) room)
