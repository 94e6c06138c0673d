-- What the calls of a disk do to what a crash may leave on it.
use Rattle.std.specs.Prelude.{◌≡◌, ◌⊎◌, ℕ, ◌≤◌, List, ◌++◌, take, Option, Some, length}

-- after an append that a crash cuts short: a prefix of these octets stands after what was there
abbrev pub IsTorn : List ℕ → List ℕ → List ℕ → Type 0
IsTorn octets old new = (n : ℕ) × (new ≡ old ++ take n octets)

-- after a cut to so many octets that a crash cuts short: at least these are there, and no other octets
abbrev pub IsCutAt : ℕ → List ℕ → List ℕ → Type 0
IsCutAt len old new = (n : ℕ) × (len ≤ n) × (new ≡ take n old)

-- each new outcome of a crash is an old outcome after a step
abbrev pub Follows : (List ℕ → List ℕ → Type 0) → (List ℕ → Type 0) → (List ℕ → Type 0) → Type 0
Follows step old new = (c : List ℕ) → new c → (d : List ℕ) × old d × step d c

-- a crash leaves this and nothing else
abbrev pub Only : List ℕ → (List ℕ → Type 0) → Type 0
Only text outcomes = (c : List ℕ) → outcomes c → c ≡ text

-- Time goes on: a crash since t might have left what it might have left before, or what it may leave now.
pub record Elapses (before now : ℕ) (past since : ℕ → List ℕ → Type 0) (may_leave : List ℕ → Type 0) : Type 0 where
  pub later : before ≤ now
  pub nothing_else : (t : ℕ) (c : List ℕ) → t ≤ before → since t c → past t c ⊎ may_leave c
  pub keeps : (t : ℕ) (c : List ℕ) → t ≤ before → past t c → since t c

-- A crash at any moment since old leaves a text that has P.
pub record LeavesOnly {D : Type 0} (moment : D → ℕ) (left_since : D → ℕ → List ℕ → Type 0) (old new : D) (P : List ℕ → Type 0) : Type 0 where
  pub later : moment old ≤ moment new
  pub each : (c : List ℕ) → left_since new (moment old) c → P c
  -- for a run that began earlier
  pub before : (t : ℕ) (c : List ℕ) → t ≤ moment old → left_since new t c → left_since old t c ⊎ P c

-- after an append each outcome of a crash is an old one, or a prefix of these octets stands after what was there
abbrev pub LeavesTorn : {D : Type 0} → (D → List ℕ → Type 0) → (D → List ℕ → Type 0) → List ℕ → D → D → Type 0
LeavesTorn holds may_leave octets old new =
    (c : List ℕ) →
    may_leave new c →
    may_leave old c ⊎ ((text : List ℕ) → holds old text → IsTorn octets text c)

-- what holds a known text of at least len octets holds the first len of them afterwards
abbrev pub IsCutTo : {F : Type 0} → (F → Option (List ℕ)) → ℕ → F → F → Type 0
IsCutTo contents len old new =
    (text : List ℕ) →
    contents old ≡ Some text →
    len ≤ length text →
    contents new ≡ Some (take len text)
