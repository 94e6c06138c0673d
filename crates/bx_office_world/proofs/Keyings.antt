-- The keys of requests.
use Rattle.std.proofs.Common.{◌≡◌, ◌<◌, ℕ, List, [], length, Option, Some, None, set, get_or, sym, ap, ◌∙◌, subst}
use Rattle.std.proofs.lemmas.List.{length-map, get_or-map}
use Rattle.std.proofs.Math.Seq.{map-set_same}
use Rattle.bx_sales.specs.declared.tag.Tag.{Tag}
use Rattle.bx_office_world.specs.declared.ledger.Keyed.{Keyed}
use Rattle.bx_office_world.specs.KnownKeys.{keys_in, key_at, KnowsKey}
use Rattle.bx_office_world.specs.KeysTaken.{KeepsKeys}

pub key_count : (requests : List Keyed) → length (keys_in requests) ≡ length requests
key_count requests = length-map requests (λ (r : Keyed). r.tag.key)

-- the key of a request that is there
pub key_is : (requests : List Keyed) (i : ℕ) (r : Keyed) → r ≡ get_or requests i r → i < length requests → key_at (keys_in requests) i ≡ r.tag.key
key_is requests i r is inside = get_or-map (λ (x : Keyed). x.tag.key) requests i r [] inside ∙ sym (ap (λ (x : Keyed). x.tag.key) is)

-- a request with the same key stands in its place
pub keys_kept : (requests : List Keyed) (i : ℕ) (r new : Keyed) → r ≡ get_or requests i r → new.tag.key ≡ r.tag.key → keys_in (set requests i new) ≡ keys_in requests
keys_kept requests i r new is same = map-set_same (λ (x : Keyed). x.tag.key) requests i new r (same ∙ ap (λ (x : Keyed). x.tag.key) is)

pub known_still : (old new : List (List ℕ)) (key : List ℕ) (i : ℕ) → new ≡ old → i < length old → key_at old i ≡ key → KnowsKey new key × KeepsKeys old new
known_still old new key i same inside is = (subst (λ (ks : List (List ℕ)). KnowsKey ks key) (sym same) (i, inside, is), λ k known. subst (λ (ks : List (List ℕ)). KnowsKey ks k) (sym same) known)

pub same_tag : (s t : Tag) → ◌≡◌ {A = Option Tag} (Some s) (Some t) → s ≡ t
same_tag s t e = ap (λ (o : Option Tag). or_else o s) e where
  or_else : Option Tag → Tag → Tag
  or_else None d = d
  or_else (Some x) d = x
