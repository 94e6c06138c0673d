-- What a script says of the calls that are offered.
use Rattle.std.specs.Prelude.{ℕ, Bool, true, false, List, [], ◌∷◌, Option, Some, None, unwrap_or, if◌then◌else◌}
use Rattle.std.specs.Str.{bytes_eq}
use Rattle.bx_calls.specs.declared.user_state.Policy.{Policy}
use Rattle.bx_calls.specs.declared.user_state.Policy.TheVariants.{Answer}
use Rattle.bx_far.specs.declared.row.ScriptRow.{ScriptRow}
use Rattle.bx_far.specs.declared.row.ScriptRow.TheVariants.{Follows, Calls}

-- a row for any number is for each call, and one for a number for calls of just that one
abbrev pub fits_number : Option (List ℕ) → Option (List ℕ) → Bool
fits_number None called = true
fits_number (Some number) None = false
fits_number (Some number) (Some called) = bytes_eq number called

-- what a row does with a call of this number, if it is for it
abbrev pub policy_for : ScriptRow → Option (List ℕ) → Option Policy
policy_for (Follows number policy) called = if fits_number number called then Some policy else None
policy_for (Calls number moment channel) called = None

-- the policy of the first row that is for this number, and Answer 0 where there is none
abbrev pub policy_of : List ScriptRow → Option (List ℕ) → Policy
policy_of [] called = Answer 0
policy_of (row ∷ rows) called = unwrap_or (policy_for row called) (policy_of rows called)
