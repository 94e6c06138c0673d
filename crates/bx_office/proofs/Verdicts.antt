-- What the gate answers to the parts of a head is its answer to the head.
use Rattle.std.proofs.Common.{◌≡◌, subst, sym, ap, ◌∙◌, ℕ, Bool, List, Option, Some, None, MatchOption, Result, map, take, codes}
use Rattle.std.specs.Borrow.{Bor}
use Rattle.httparse.specs.Grammar.{RequestHead}
use Rattle.httparse.specs.Spans.{IsRequestAt, header_bytes, span_bytes, name_and_value}
use Rattle.httparse.specs.declared.spans.HeaderSpan.{HeaderSpan}
use Rattle.httparse.specs.declared.spans.RequestSpans.{RequestSpans}
use Rattle.http1.specs.Fields.{Header, values_named}
use Rattle.bx_office.specs.Gate.{Question, IsGated}
use Rattle.bx_office.specs.Targets.{text_of}
use Rattle.bx_office.specs.Heads.{IsVerdict, question_by, value_named, are_doubled, are_coded, says_length}
use Rattle.bx_office.specs.declared.gate.Place.{Place}
use Rattle.bx_office.specs.declared.gate.Refusal.{Refusal}
use Rattle.bx_office.specs.declared.gate.Route.{Route}

-- the text of what was found
pub found : (value : Option (Bor (List ℕ))) (x : Option (List ℕ)) → MatchOption value (x ≡ None) (λ v. x ≡ Some v.now) → text_of value ≡ x
found None x e = sym e
found (Some v) x e = sym e

abbrev asked : List ℕ → List ℕ → Option (List ℕ) → Option (List ℕ) → Option (List ℕ) → Option (List ℕ) → Bool → Bool → Bool → Question
asked m t h o c i d k l = record { method = m; target = t; host = h; origin = o; content = c; key = i; is_doubled = d; is_coded = k; has_length = l }

-- the parts that the gate looks at are those of these fields
pub is_question : (q : Question) (method target : List ℕ) (fields : List Header) → q.method ≡ method → q.target ≡ target → q.host ≡ value_named (codes "host") fields → q.origin ≡ value_named (codes "origin") fields
    → q.content ≡ value_named (codes "content-type") fields → q.key ≡ value_named (codes "idempotency-key") fields → q.is_doubled ≡ are_doubled fields → q.is_coded ≡ are_coded (values_named (codes "content-encoding") fields) → q.has_length ≡ says_length fields → q ≡ question_by method target fields
is_question q method target fields em et eh eo ec ei ed ek el =
    let host = value_named (codes "host") fields in
    let origin = value_named (codes "origin") fields in
    let content = value_named (codes "content-type") fields in
    let key = value_named (codes "idempotency-key") fields in
    let doubled = are_doubled fields in
    let coded = are_coded (values_named (codes "content-encoding") fields) in
    ap (λ (x : List ℕ). asked x q.target q.host q.origin q.content q.key q.is_doubled q.is_coded q.has_length) em
    ∙ ap (λ (x : List ℕ). asked method x q.host q.origin q.content q.key q.is_doubled q.is_coded q.has_length) et
    ∙ ap (λ (x : Option (List ℕ)). asked method target x q.origin q.content q.key q.is_doubled q.is_coded q.has_length) eh
    ∙ ap (λ (x : Option (List ℕ)). asked method target host x q.content q.key q.is_doubled q.is_coded q.has_length) eo
    ∙ ap (λ (x : Option (List ℕ)). asked method target host origin x q.key q.is_doubled q.is_coded q.has_length) ec
    ∙ ap (λ (x : Option (List ℕ)). asked method target host origin content x q.is_doubled q.is_coded q.has_length) ei
    ∙ ap (λ (x : Bool). asked method target host origin content key x q.is_coded q.has_length) ed
    ∙ ap (λ (x : Bool). asked method target host origin content key doubled x q.has_length) ek
    ∙ ap (asked method target host origin content key doubled coded) el

pub verdict_is : (place : Place) (input : List ℕ) (spans : List HeaderSpan) (r : RequestSpans) (h : RequestHead) (q : Question) (result : Result Route Refusal)
    → IsRequestAt input spans r h → q ≡ question_by (span_bytes input r.method) (span_bytes input r.path) (map (header_bytes input) (take r.headers spans)) → IsGated place q result → IsVerdict place h result
verdict_is place input spans r h q result at is g =
    let fields : map (header_bytes input) (take r.headers spans) ≡ map name_and_value h.fields = at.fields in
    let same : q ≡ question_by h.method h.target (map name_and_value h.fields) =
    is ∙ ap (λ (m : List ℕ). question_by m (span_bytes input r.path) (map (header_bytes input) (take r.headers spans))) at.method ∙ ap (λ (t : List ℕ). question_by h.method t (map (header_bytes input) (take r.headers spans))) at.path ∙ ap (question_by h.method h.target) fields in
    subst (λ (x : Question). IsGated place x result) same g
