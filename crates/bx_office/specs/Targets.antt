-- The target of a request: a path, and after the first question mark a query; an absolute one names a host before them.
use Rattle.std.specs.Prelude.{◌+◌, ◌∷◌, [], ◌==◌, not, if◌then◌else◌, ℕ, List, length, take, drop, codes, Option, Some, None, option_map}
use Rattle.std.specs.Borrow.{Bor}
use Rattle.std.specs.List.{prefix_len}
use Rattle.http1.specs.Text.{eq_ignore_case}

-- the text of a field, where a request has it
abbrev pub text_of : Option (Bor (List ℕ)) → Option (List ℕ)
text_of = option_map (λ x. x.now)

abbrev pub path_len : List ℕ → ℕ
path_len target = prefix_len (λ c. not (c == 63)) target

abbrev pub path_in : List ℕ → List ℕ
path_in target = take (path_len target) target

abbrev pub query_in : List ℕ → List ℕ
query_in target = drop (path_len target + 1) target

-- what stands after these words, whatever their case
abbrev pub past : List ℕ → List ℕ → Option (List ℕ)
past words text = if eq_ignore_case (take (length words) text) words then Some (drop (length words) text) else None

-- ---- the absolute form, `http://HOST/PATH` (RFC 9112, section 3.2.2)

abbrev pub absolute_in : List ℕ → Option (List ℕ)
absolute_in target = past (codes "http://") (path_in target)

abbrev pub host_len : List ℕ → ℕ
host_len text = prefix_len (λ c. not (c == 47)) text

-- its host counts in place of the field `Host`
abbrev pub named_host : Option (List ℕ) → Option (List ℕ) → Option (List ℕ)
named_host field None = field
named_host field (Some rest) = Some (take (host_len rest) rest)

-- an empty path is the root
abbrev pub rooted : List ℕ → List ℕ
rooted [] = codes "/"
rooted (c ∷ more) = c ∷ more

abbrev pub local_path : List ℕ → Option (List ℕ) → List ℕ
local_path path None = path
local_path path (Some rest) = rooted (drop (host_len rest) rest)

-- the path that a target asks for, and the host that it or the field names
abbrev pub path_asked : List ℕ → List ℕ
path_asked target = local_path (path_in target) (absolute_in target)

abbrev pub host_asked : Option (List ℕ) → List ℕ → Option (List ℕ)
host_asked field target = named_host field (absolute_in target)
