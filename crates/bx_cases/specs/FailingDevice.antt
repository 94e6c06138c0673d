-- A reader or a writer that gives little, and then fails.
use Rattle.std.specs.Prelude.{ℕ, ◌==◌, List, Option, None, if◌then◌else◌}
use Rattle.bx_cases.specs.declared.failing.Failing.{Failing}

abbrev pub failing_device : {T : Type 0} → Failing T → T
failing_device f = f.inner

abbrev pub calls_left : {T : Type 0} → Failing T → ℕ
calls_left f = f.calls

abbrev pub most_of : {T : Type 0} → Failing T → ℕ
most_of f = f.most

-- what is left to read, where a read may give an octet
abbrev pub failing_remaining : {T : Type 0} → (T → Option (List ℕ)) → Failing T → Option (List ℕ)
failing_remaining remaining f = if f.most == 0 then None else remaining f.inner
