-- The reading gives a message exactly where the octets are one in the grammar, and else their first fault.
use Rattle.std.proofs.Common.{◌≡◌, ◌<◌, ◌≤◌, ◌==◌, ◌∙◌, ℕ, nat_lt, nat_le, List, [], ◌∷◌, ◌++◌, length, take, drop, take-append-drop, length-append, length-drop, Option, Some, None, Result, Ok, Err, refl, sym, ap, subst, arith, inl, inr}
use Rattle.std.specs.List.{flat_map}
use Rattle.std.proofs.Math.Seq.{take-append_seam, drop-append_seam}
use Rattle.std.proofs.lemmas.List.{length-take-le}
use Rattle.std.proofs.lemmas.Bool.{ltb-true, ltb-false, lt-ltb, le-ltb, leb-true, leb-false, le-leb, lt-leb, eqb-true, eqb-false, ne_eqb, cases_lt}
use Rattle.bx_q931.specs.Items.{PlainItem, item_octets, all_items}
use Rattle.bx_q931.specs.Kinds.{kind_of}
use Rattle.bx_q931.specs.References.{reference_of}
use Rattle.bx_q931.specs.Messages.{PlainMessage, plain_message, whole_message, kind_at, body_at, reference_at, discriminated_at, message_at}
use Rattle.bx_q931.specs.Grammar.{IsSpelled, IsMessage, IsBadLength, EndsEarly, IsNotQ931, HasBadLength, IsTornMessage, IsMessageFaultOf}
use Rattle.bx_q931.specs.declared.kind.Kind.{Kind}
use Rattle.bx_q931.specs.declared.reference.Reference.{Reference}
use Rattle.bx_q931.specs.declared.fault.MessageFault.{MessageFault}
use Rattle.bx_q931.specs.declared.fault.MessageFault.TheVariants.{TooShort, NotQ931, BadCallReference, TornElement, TooLong}
use Rattle.bx_q931.proofs.ItemLemmas.{chosen}
use Rattle.bx_q931.proofs.SpellingLemmas.{items_read, items_are}

abbrev Read : Type 0
Read = Result PlainMessage MessageFault

-- ---- octet 2

bad_length : (n : ℕ) → 2 < n → IsBadLength n
bad_length n h = elim (cases_lt n 16) [ inl low ↦ inr (omega arith) | inr high ↦ inl (omega arith) ]

long : (n : ℕ) → IsBadLength n → 2 < n
long n (inl h) = omega arith
long n (inr h) = omega arith

good_length : (n : ℕ) → n ≤ 2 → ¬ IsBadLength n
good_length n h bad = let l = long n bad in absurd (omega (arith, l, h))

short : (n : ℕ) → ¬ IsBadLength n → n ≤ 2
short n h = elim (cases_lt 2 n) [ inl l ↦ absurd (h (bad_length n l)) | inr l ↦ l ]

-- ---- a message that is read is in the grammar

whole_ok : (reference : Reference) (kind : Kind) (found : Option (List PlainItem)) (m : PlainMessage) → whole_message reference kind found ≡ Ok m → (found ≡ Some m.items) × (m.reference ≡ reference) × (m.kind ≡ kind)
whole_ok reference kind None m e = cc
whole_ok reference kind (Some items) m e =
    let q : plain_message reference kind items ≡ m = cc in
    (ap (λ r. Some r.items) q, sym (ap (λ r. r.reference) q), sym (ap (λ r. r.kind) q))

kind_ok : (reference : Reference) (rest : List ℕ) (m : PlainMessage) → kind_at reference rest ≡ Ok m → (octet : ℕ) × (after : List ℕ) × (rest ≡ octet ∷ after) × (all_items after ≡ Some m.items) × (m.reference ≡ reference) × (m.kind ≡ kind_of octet)
kind_ok reference [] m e = cc
kind_ok reference (octet ∷ after) m e =
    let w = whole_ok reference (kind_of octet) (all_items after) m e in
    (octet, after, refl, w.0, w.1, w.2)

body_ok : (len : ℕ) (rest : List ℕ) (m : PlainMessage) → length (8 ∷ len ∷ rest) ≤ 260 → len ≤ 2 → body_at len rest ≡ Ok m → IsMessage (8 ∷ len ∷ rest) m
body_ok len rest m few h e = elim (chosen (nat_le (length rest) len) (Err TooShort) (kind_at (reference_of (take len rest)) (drop len rest)) (Ok m) e) [
  | inl t ↦ cc (t.1)
  | inr f ↦
      let k = kind_ok (reference_of (take len rest)) (drop len rest) m f.1 in
      let items = items_are k.1 m.items k.3 in
      let size : length (take len rest) ≡ len = length-take-le len rest (let l = leb-false (length rest) len f.0 in omega (arith, l)) in
      let rest_is : rest ≡ take len rest ++ k.0 ∷ flat_map item_octets m.items =
      sym (take-append-drop len rest) ∙ ap (λ l. take len rest ++ l) (k.2 ∙ ap (λ l. k.0 ∷ l) items.spelled) in (
        take len rest,
        k.0,
        record {
          few = few;
          short = subst (λ n. n ≤ 2) (sym size) h;
          spelled = ap (λ n. 8 ∷ n ∷ rest) (sym size) ∙ ap (λ l. 8 ∷ length (take len rest) ∷ l) rest_is;
          each = items.each;
          reference_is = k.4;
          kind_is = k.5;
        },
      )
]

reference_ok : (rest : List ℕ) (m : PlainMessage) → length (8 ∷ rest) ≤ 260 → reference_at rest ≡ Ok m → IsMessage (8 ∷ rest) m
reference_ok [] m few e = cc
reference_ok (len ∷ rest) m few e = elim (chosen (nat_lt 2 len) (Err BadCallReference) (body_at len rest) (Ok m) e) [
  | inl t ↦ cc (t.1)
  | inr f ↦ body_ok len rest m few (ltb-false 2 len f.0) f.1
]

discriminated_ok : (octets : List ℕ) (m : PlainMessage) → length octets ≤ 260 → discriminated_at octets ≡ Ok m → IsMessage octets m
discriminated_ok [] m few e = cc
discriminated_ok (first ∷ rest) m few e = elim (chosen (first == 8) (reference_at rest) (Err NotQ931) (Ok m) e) [
  | inl t ↦ subst (λ n. IsMessage (n ∷ rest) m) (sym (eqb-true first 8 t.0)) (reference_ok rest m few t.1)
  | inr f ↦ cc (f.1)
]

pub read_is_message : (octets : List ℕ) (m : PlainMessage) → message_at octets ≡ Ok m → IsMessage octets m
read_is_message octets m e = elim (chosen (nat_lt 260 (length octets)) (Err TooLong) (discriminated_at octets) (Ok m) e) [
  | inl t ↦ cc (t.1)
  | inr f ↦ discriminated_ok octets m (ltb-false 260 (length octets) f.0) f.1
]

-- ---- a message in the grammar is read

body_again : (reference : List ℕ) (octet : ℕ) (rest : List ℕ) → body_at (length reference) (reference ++ octet ∷ rest) ≡ kind_at (reference_of reference) (octet ∷ rest)
body_again reference octet rest =
    rw (lt-leb (length (reference ++ octet ∷ rest)) (length reference) (omega (arith, length-append reference (octet ∷ rest))), take-append_seam reference (octet ∷ rest), drop-append_seam reference (octet ∷ rest)) refl

-- after the discriminator and a length that is none too many
opened : (len : ℕ) (rest : List ℕ) → length (8 ∷ len ∷ rest) ≤ 260 → len ≤ 2 → message_at (8 ∷ len ∷ rest) ≡ body_at len rest
opened len rest few h = rw (le-ltb 260 (length (8 ∷ len ∷ rest)) few, le-ltb 2 len h) refl

same_message : (reference : Reference) (kind : Kind) (m : PlainMessage) → m.reference ≡ reference → m.kind ≡ kind → ◌≡◌ {A = Read} (Ok (plain_message reference kind m.items)) (Ok m)
same_message reference kind m p q = ap {B = Read} (λ r. Ok (plain_message r kind m.items)) (sym p) ∙ ap {B = Read} (λ k. Ok (plain_message m.reference k m.items)) (sym q)

spelled_read : (octets reference : List ℕ) (octet : ℕ) (m : PlainMessage) → IsSpelled octets reference octet m → message_at octets ≡ Ok m
spelled_read octets reference octet m s =
    let items = flat_map item_octets m.items in
    let whole : all_items items ≡ Some m.items = items_read items m.items (record { spelled = refl; each = s.each }) in
    ap message_at s.spelled
    ∙ (opened (length reference) (reference ++ octet ∷ items) (subst (λ l. length l ≤ 260) s.spelled s.few) s.short
    ∙ (body_again reference octet items
    ∙ (ap (whole_message (reference_of reference) (kind_of octet)) whole
    ∙ same_message (reference_of reference) (kind_of octet) m s.reference_is s.kind_is)))

pub message_is_read : (octets : List ℕ) (m : PlainMessage) → IsMessage octets m → message_at octets ≡ Ok m
message_is_read octets m (reference, octet, s) = spelled_read octets reference octet m s

-- ---- a fault that is answered is the first

fault_is : (octets : List ℕ) (a e : MessageFault) → ◌≡◌ {A = Read} (Err a) (Err e) → IsMessageFaultOf octets a → IsMessageFaultOf octets e
fault_is octets a e q h = let same : a ≡ e = cc in subst (IsMessageFaultOf octets) same h

some_none : (items : List PlainItem) (found : Option (List PlainItem)) → found ≡ None → found ≡ Some items → ⊥
some_none items found n s = cc

whole_err : (reference : Reference) (kind : Kind) (found : Option (List PlainItem)) (e : MessageFault) → whole_message reference kind found ≡ Err e → (found ≡ None) × (TornElement ≡ e)
whole_err reference kind None e q = (refl, cc)
whole_err reference kind (Some items) e q = cc

torn : (reference : List ℕ) (octet : ℕ) (after octets : List ℕ) (e : MessageFault) → length octets ≤ 260 → length reference ≤ 2 → octets ≡ 8 ∷ length reference ∷ reference ++ octet ∷ after → whole_message (reference_of reference) (kind_of octet) (all_items after) ≡ Err e → IsMessageFaultOf octets e
torn reference octet after octets e few h spelled q =
    let w = whole_err (reference_of reference) (kind_of octet) (all_items after) e q in
    subst (IsMessageFaultOf octets) w.1 (few, (reference, octet, after, spelled, h, λ items are. some_none items (all_items after) w.0 (items_read after items are)))

kind_err : (reference rest octets : List ℕ) (e : MessageFault) → length octets ≤ 260 → length reference ≤ 2 → octets ≡ 8 ∷ length reference ∷ reference ++ rest → 0 < length rest → kind_at (reference_of reference) rest ≡ Err e → IsMessageFaultOf octets e
kind_err reference [] octets e few h spelled some q = absurd (omega (arith, some))
kind_err reference (octet ∷ after) octets e few h spelled some q = torn reference octet after octets e few h spelled q

body_err : (len : ℕ) (rest : List ℕ) (e : MessageFault) → length (8 ∷ len ∷ rest) ≤ 260 → len ≤ 2 → body_at len rest ≡ Err e → IsMessageFaultOf (8 ∷ len ∷ rest) e
body_err len rest e few h q = elim (chosen (nat_le (length rest) len) (Err TooShort) (kind_at (reference_of (take len rest)) (drop len rest)) (Err e) q) [
  | inl t ↦ fault_is (8 ∷ len ∷ rest) TooShort e t.1 (few, inr (inr (len, rest, refl, good_length len h, leb-true (length rest) len t.0)))
  | inr f ↦
      let more = leb-false (length rest) len f.0 in
      let size : length (take len rest) ≡ len = length-take-le len rest (omega (arith, more)) in
      kind_err (take len rest) (drop len rest) (8 ∷ len ∷ rest) e few (subst (λ n. n ≤ 2) (sym size) h)
      (ap (λ n. 8 ∷ n ∷ rest) (sym size) ∙ ap (λ l. 8 ∷ length (take len rest) ∷ l) (sym (take-append-drop len rest)))
      (omega (arith, length-drop len rest, more)) f.1
]

reference_err : (rest : List ℕ) (e : MessageFault) → length (8 ∷ rest) ≤ 260 → reference_at rest ≡ Err e → IsMessageFaultOf (8 ∷ rest) e
reference_err [] e few q = fault_is (8 ∷ []) TooShort e q (few, inr (inl refl))
reference_err (len ∷ rest) e few q = elim (chosen (nat_lt 2 len) (Err BadCallReference) (body_at len rest) (Err e) q) [
  | inl t ↦ fault_is (8 ∷ len ∷ rest) BadCallReference e t.1 (few, (len, rest, refl, bad_length len (ltb-true 2 len t.0)))
  | inr f ↦ body_err len rest e few (ltb-false 2 len f.0) f.1
]

discriminated_err : (octets : List ℕ) (e : MessageFault) → length octets ≤ 260 → discriminated_at octets ≡ Err e → IsMessageFaultOf octets e
discriminated_err [] e few q = fault_is [] TooShort e q (few, inl refl)
discriminated_err (first ∷ rest) e few q = elim (chosen (first == 8) (reference_at rest) (Err NotQ931) (Err e) q) [
  | inl t ↦ subst (λ n. IsMessageFaultOf (n ∷ rest) e) (sym (eqb-true first 8 t.0)) (reference_err rest e few t.1)
  | inr f ↦ fault_is (first ∷ rest) NotQ931 e f.1 (few, (first, rest, refl, eqb-false first 8 f.0))
]

pub fault_is_first : (octets : List ℕ) (e : MessageFault) → message_at octets ≡ Err e → IsMessageFaultOf octets e
fault_is_first octets e q = elim (chosen (nat_lt 260 (length octets)) (Err TooLong) (discriminated_at octets) (Err e) q) [
  | inl t ↦ fault_is octets TooLong e t.1 (ltb-true 260 (length octets) t.0)
  | inr f ↦ discriminated_err octets e (ltb-false 260 (length octets) f.0) f.1
]

-- ---- the first fault is answered

not_long : (octets : List ℕ) → length octets ≤ 260 → message_at octets ≡ discriminated_at octets
not_long octets few = rw (le-ltb 260 (length octets) few) refl

early_read : (octets : List ℕ) → length octets ≤ 260 → EndsEarly octets → message_at octets ≡ Err TooShort
early_read octets few (inl e) = ap message_at e
early_read octets few (inr (inl e)) = ap message_at e
early_read octets few (inr (inr (len, rest, e, good, ends))) =
    ap message_at e
    ∙ (opened len rest (subst (λ l. length l ≤ 260) e few) (short len good)
    ∙ rw (le-leb (length rest) len ends) refl)

other_read : (octets : List ℕ) → length octets ≤ 260 → IsNotQ931 octets → message_at octets ≡ Err NotQ931
other_read octets few (first, rest, e, other) = not_long octets few ∙ (ap discriminated_at e ∙ rw (ne_eqb first 8 other) refl)

bad_read : (octets : List ℕ) → length octets ≤ 260 → HasBadLength octets → message_at octets ≡ Err BadCallReference
bad_read octets few (len, rest, e, bad) = not_long octets few ∙ (ap discriminated_at e ∙ rw (lt-ltb 2 len (long len bad)) refl)

whole_none : (reference : Reference) (kind : Kind) (found : Option (List PlainItem)) → ((items : List PlainItem) → found ≡ Some items → ⊥) → whole_message reference kind found ≡ Err TornElement
whole_none reference kind None h = refl
whole_none reference kind (Some items) h = absurd (h items refl)

torn_read : (octets : List ℕ) → length octets ≤ 260 → IsTornMessage octets → message_at octets ≡ Err TornElement
torn_read octets few (reference, octet, rest, e, h, none) =
    ap message_at e
    ∙ (opened (length reference) (reference ++ octet ∷ rest) (subst (λ l. length l ≤ 260) e few) h
    ∙ (body_again reference octet rest
    ∙ whole_none (reference_of reference) (kind_of octet) (all_items rest) (λ items q. none items (items_are rest items q))))

pub first_fault_is_read : (octets : List ℕ) (e : MessageFault) → IsMessageFaultOf octets e → message_at octets ≡ Err e
first_fault_is_read octets TooLong h = rw (lt-ltb 260 (length octets) h) refl
first_fault_is_read octets TooShort h = early_read octets h.0 h.1
first_fault_is_read octets NotQ931 h = other_read octets h.0 h.1
first_fault_is_read octets BadCallReference h = bad_read octets h.0 h.1
first_fault_is_read octets TornElement h = torn_read octets h.0 h.1
