-- Putting one text after another.
use Rattle.std.proofs.Common.{◌≡◌, ℕ, ◌+◌, ◌<◌, ◌≤◌, List, [], ◌∷◌, ◌++◌, length, take, drop, get_or, Option, Result, Ok, Err, refl, sym, ap, ◌∙◌, subst, append_assoc}
use Rattle.std.specs.List.{flat_map}
use Rattle.std.specs.Io.KnownBytes.{Appends}
use Rattle.std.proofs.KnownBytes.{Appends-nil, Appends-trans}
use Rattle.std.proofs.lemmas.List.{append-nil, take_more, take_all, take-append-drop}
use Rattle.std.proofs.lemmas.Grind.{flat_map-append}
use Rattle.bx_devices.specs.Octets.{AppendsPrefix}
use Rattle.bx_devices.specs.Watching.{device_of, is_faulted, reads_of}
use Rattle.bx_devices.specs.declared.watched.Watched.{Watched}
use Rattle.bx_text.specs.declared.block.Block.{Block}
use Rattle.std.specs.Prelude.{OnOk, OnErr, IsTrue}
use Rattle.bx_devices.proofs.OctetLemmas.{AppendsPrefix-more, AppendsPrefix-after}
use Rattle.bx_text.specs.Lines.{line_text}
use Rattle.bx_text.specs.Writing.{Writes}
use Rattle.bx_text.specs.Gathering.{HeldBlock, Gathers, held, octets_of}

-- ---- what waits, and what is put

-- two texts
waiting_two : (x s t f g y z : List ℕ) → x ++ s ≡ f ++ y → y ++ t ≡ g ++ z → x ++ (s ++ t) ≡ (f ++ g) ++ z
waiting_two x s t f g y z p q = sym (append_assoc x s t) ∙ ap (λ (l : List ℕ). l ++ t) p ∙ append_assoc f y t ∙ ap (λ (l : List ℕ). f ++ l) q ∙ sym (append_assoc f g z)

-- a text, and one whose writing failed
waiting_prefix : (x s t f y : List ℕ) → x ++ s ≡ f ++ y → f ++ (y ++ t) ≡ x ++ (s ++ t)
waiting_prefix x s t f y p = sym (append_assoc f y t) ∙ ap (λ (l : List ℕ). l ++ t) (sym p) ∙ append_assoc x s t

abbrev pub done : {E : Type 0} → Result (Unit {0}) E
done = Ok tt

module _ {W E : Type 0} (contents : W → Option (List ℕ)) where
  -- nothing was put yet
  pub nothing_put : (a : HeldBlock W) → Gathers contents a a (done {E = E}) []
  nothing_put a = record { put = ([], Appends-nil (contents (device_of a.writer)), append-nil a.waiting); prefix = tt; faulted = tt; unfaulted = refl; reads = refl }

  -- a text after one that was put
  pub puts_then : {F : Type 0} (a b d : HeldBlock W) (r : Result (Unit {0}) E) (s t : List ℕ) → Gathers contents a b (done {E = F}) s → Gathers contents b d r t → Gathers contents a d r (s ++ t)
  puts_then a b d (Ok x) s t p q = record {
    put = (
      p.put.0 ++ q.put.0,
      Appends-trans (contents (device_of a.writer)) (contents (device_of b.writer)) (contents (device_of d.writer)) p.put.0 q.put.0 p.put.1 q.put.1,
      waiting_two a.waiting s t p.put.0 q.put.0 b.waiting d.waiting p.put.2 q.put.2,
    );
    prefix = tt;
    faulted = tt;
    unfaulted = q.unfaulted ∙ p.unfaulted;
    reads = q.reads ∙ p.reads;
  }
  puts_then a b d (Err e) s t p q = record {
    put = tt;
    prefix = subst (AppendsPrefix (contents (device_of a.writer)) (contents (device_of d.writer))) (waiting_prefix a.waiting s t p.put.0 b.waiting p.put.2)
        (AppendsPrefix-after (contents (device_of a.writer)) (contents (device_of b.writer)) (contents (device_of d.writer)) p.put.0 (b.waiting ++ t) p.put.1 q.prefix);
    faulted = q.faulted;
    unfaulted = tt;
    reads = q.reads ∙ p.reads;
  }

  -- a text that was written at once, since nothing waited
  pub put_at_once : (a b : Watched W) (block : Block) (r : Result (Unit {0}) E) (text : List ℕ) → octets_of block ≡ []
      → OnOk r (Appends (contents (device_of a)) (contents (device_of b)) text) → OnErr r (AppendsPrefix (contents (device_of a)) (contents (device_of b)) text)
      → OnErr r (IsTrue (is_faulted b)) → OnOk r (is_faulted b ≡ is_faulted a) → reads_of b ≡ reads_of a → Gathers contents (held a block) (held b block) r text
  put_at_once a b block (Ok x) text empty written prefix faulted unfaulted reads = record {
    put = (text, written, rw empty (sym (append-nil text)));
    prefix = tt;
    faulted = tt;
    unfaulted = unfaulted;
    reads = reads;
  }
  put_at_once a b block (Err e) text empty written prefix faulted unfaulted reads = record { put = tt; prefix = rw empty prefix; faulted = faulted; unfaulted = tt; reads = reads }

-- a text that was to be the prefix of another, where its writing failed
module _ {W E F : Type 0} (contents : W → Option (List ℕ)) where
  pub puts_failed : (a b : HeldBlock W) (e : E) (f : F) (s rest whole : List ℕ) → whole ≡ s ++ rest → Gathers {T = Unit {0}} contents a b (Err e) s → Gathers {T = Unit {0}} contents a b (Err f) whole
  puts_failed a b e f s rest whole same p = record {
    put = tt;
    prefix = subst (AppendsPrefix (contents (device_of a.writer)) (contents (device_of b.writer))) (append_assoc a.waiting s rest ∙ ap (λ (l : List ℕ). a.waiting ++ l) (sym same))
        (AppendsPrefix-more (contents (device_of a.writer)) (contents (device_of b.writer)) (a.waiting ++ s) rest p.prefix);
    faulted = p.faulted;
    unfaulted = tt;
    reads = p.reads;
  }

-- ---- a whole text, put into an empty block that is written out after it

module _ {W : Type 0} (contents : W → Option (List ℕ)) (a b : Watched W) (p q : Block) (text : List ℕ) (empty : octets_of p ≡ []) where
  pub whole_written : {E : Type 0} (r : Result (Unit {0}) E) → Gathers contents (held a p) (held b q) r text → OnOk r (octets_of q ≡ []) → Writes contents a b r text
  whole_written (Ok x) h left =
      let all : text ≡ h.put.0 = ap (λ (l : List ℕ). l ++ text) (sym empty) ∙ h.put.2 ∙ ap (λ (l : List ℕ). h.put.0 ++ l) left ∙ append-nil h.put.0 in
      record { written = subst (Appends (contents (device_of a)) (contents (device_of b))) (sym all) h.put.1; prefix = tt; faulted = tt; unfaulted = h.unfaulted; reads = h.reads }
  whole_written (Err e) h left = record { written = tt; prefix = subst (AppendsPrefix (contents (device_of a)) (contents (device_of b))) (ap (λ (l : List ℕ). l ++ text) empty) h.prefix; faulted = h.faulted; unfaulted = tt; reads = h.reads }

-- ---- lines, one after another

pub lines_more : (lines : List (List (List ℕ))) (i : ℕ) (fields : List (List ℕ)) → i < length lines → get_or lines i [] ≡ fields
    → flat_map line_text (take (i + 1) lines) ≡ flat_map line_text (take i lines) ++ line_text fields
lines_more lines i fields lt at =
    ap (flat_map line_text) (take_more lines i [] lt ∙ ap (λ (l : List (List ℕ)). take i lines ++ l ∷ []) at)
    ∙ flat_map-append line_text (take i lines) (fields ∷ []) ∙ ap (λ (r : List ℕ). flat_map line_text (take i lines) ++ r) (append-nil (line_text fields))

pub lines_split : (lines : List (List (List ℕ))) (n : ℕ) → flat_map line_text lines ≡ flat_map line_text (take n lines) ++ flat_map line_text (drop n lines)
lines_split lines n = ap (flat_map line_text) (sym (take-append-drop n lines)) ∙ flat_map-append line_text (take n lines) (drop n lines)

module _ {W E : Type 0} (contents : W → Option (List ℕ)) (lines : List (List (List ℕ))) (i : ℕ) where
  pub line_put : (a b d : HeldBlock W) (fields : List (List ℕ)) (text : List ℕ) → i < length lines → get_or lines i [] ≡ fields → text ≡ line_text fields
      → Gathers contents a b (done {E = E}) (flat_map line_text (take i lines)) → Gathers contents b d (done {E = E}) text
      → Gathers contents a d (done {E = E}) (flat_map line_text (take (i + 1) lines))
  line_put a b d fields text lt at same so_far next =
      let both = puts_then contents a b d (done {E = E}) (flat_map line_text (take i lines)) (line_text fields) so_far (rw same at next) in
      subst (λ (t : List ℕ). Gathers contents a d (done {E = E}) t) (sym (lines_more lines i fields lt at)) both

  pub line_failed : (a b d : HeldBlock W) (e f : E) (fields : List (List ℕ)) (text : List ℕ) → i < length lines → get_or lines i [] ≡ fields → text ≡ line_text fields
      → Gathers contents a b (done {E = E}) (flat_map line_text (take i lines)) → Gathers {T = Unit {0}} contents b d (Err e) text
      → Gathers {T = Unit {0}} contents a d (Err f) (flat_map line_text lines)
  line_failed a b d e f fields text lt at same so_far next =
      let both = puts_then contents a b d (Err e) (flat_map line_text (take i lines)) (line_text fields) so_far (rw same at next) in
      let whole : flat_map line_text lines ≡ (flat_map line_text (take i lines) ++ line_text fields) ++ flat_map line_text (drop (i + 1) lines)
      = lines_split lines (i + 1) ∙ ap (λ (t : List ℕ). t ++ flat_map line_text (drop (i + 1) lines)) (lines_more lines i fields lt at) in
      puts_failed contents a d e f (flat_map line_text (take i lines) ++ line_text fields) (flat_map line_text (drop (i + 1) lines)) (flat_map line_text lines) whole both

  pub lines_put : (a b : HeldBlock W) → length lines ≤ i → Gathers contents a b (done {E = E}) (flat_map line_text (take i lines)) → Gathers contents a b (done {E = E}) (flat_map line_text lines)
  lines_put a b le so_far = subst (λ (l : List (List (List ℕ))). Gathers contents a b (done {E = E}) (flat_map line_text l)) (take_all i lines le) so_far
