-- What the head of a request says to the gate.
use Rattle.std.specs.Prelude.{ℕ, Bool, true, false, not, ◌||◌, List, [], ◌∷◌, map, codes, Option, Some, None, is_some, Result}
use Rattle.httparse.specs.Grammar.{RequestHead}
use Rattle.httparse.specs.Spans.{name_and_value}
use Rattle.http1.specs.Fields.{Header, values_named}
use Rattle.http1.specs.Text.{eq_ignore_case}
use Rattle.bx_office.specs.Gate.{Question, IsGated}
use Rattle.bx_office.specs.Keys.{key_of}
use Rattle.bx_office.specs.declared.gate.Place.{Place}
use Rattle.bx_office.specs.declared.gate.Refusal.{Refusal}
use Rattle.bx_office.specs.declared.gate.Route.{Route}

abbrev pub first_field_of : List (List ℕ) → Option (List ℕ)
first_field_of [] = None
first_field_of (value ∷ more) = Some value

-- the value of the first field of this name
abbrev pub value_named : List ℕ → List Header → Option (List ℕ)
value_named name fields = first_field_of (values_named name fields)

-- there are more values than one, or, after one, any
abbrev pub are_more : Bool → List (List ℕ) → Bool
are_more has_one [] = false
are_more true (value ∷ more) = true
are_more false (value ∷ more) = are_more true more

abbrev pub is_doubled : List (List ℕ) → Bool
is_doubled values = are_more false values

-- one of the fields that may stand once stands there twice (`Host` is told by the connection itself)
abbrev pub are_doubled : List Header → Bool
are_doubled fields = is_doubled (values_named (codes "origin") fields) || (is_doubled (values_named (codes "content-type") fields) || (is_doubled (values_named (codes "content-length") fields) || is_doubled (values_named (codes "idempotency-key") fields)))

-- a coding of the content is anything but `identity`
abbrev pub are_coded : List (List ℕ) → Bool
are_coded [] = false
are_coded (value ∷ more) = not (eq_ignore_case value (codes "identity")) || are_coded more

-- the head says how long the body is: by a length, or by chunks
abbrev pub says_length : List Header → Bool
says_length fields = is_some (value_named (codes "content-length") fields) || is_some (value_named (codes "transfer-encoding") fields)

abbrev pub question_by : List ℕ → List ℕ → List Header → Question
question_by method target fields = record {
  method = method;
  target = target;
  host = value_named (codes "host") fields;
  origin = value_named (codes "origin") fields;
  content = value_named (codes "content-type") fields;
  key = value_named (codes "idempotency-key") fields;
  is_doubled = are_doubled fields;
  is_coded = are_coded (values_named (codes "content-encoding") fields);
  has_length = says_length fields;
}

-- what the gate looks at of a head
abbrev pub question_in : RequestHead → Question
question_in h = question_by h.method h.target (map name_and_value h.fields)

-- the key that the first such field says, where it says one
abbrev pub key_in : Option (List ℕ) → Option (List ℕ)
key_in None = None
key_in (Some value) = key_of value

abbrev pub key_asked : RequestHead → Option (List ℕ)
key_asked h = key_in (value_named (codes "idempotency-key") (map name_and_value h.fields))

-- what the gate answers to a head
abbrev pub IsVerdict : Place → RequestHead → Result Route Refusal → Type 0
IsVerdict place h verdict = IsGated place (question_in h) verdict
