-- Events that are logged one after another, and what a crash leaves of them.
use Rattle.std.proofs.Common.{ℕ, suc, ◌≤◌, List, [], ◌∷◌, ◌++◌, take, Ok, ap, sym, ◌∙◌, subst, append_assoc, arith}
use Rattle.std.proofs.lemmas.List.{append-nil, take-take}
use Rattle.bx_events.specs.Events.{LiveEvent}
use Rattle.bx_journal.specs.declared.head.Head.{Head}
use Rattle.bx_journal.specs.Disk.{LeavesOnly}
use Rattle.bx_journal.specs.Logging.{IsSettled, IsPrefix, AreLogged}
use Rattle.bx_journal.proofs.Moments.{started, weaker}
use Rattle.bx_journal.proofs.Logged.{settled_prefix}
use Rattle.bx_journal.proofs.Prefixes.{leaves_then}

-- a prefix of the first of events is one of them all
first_of : (head : Head) (before : List LiveEvent) (e : LiveEvent) (es : List LiveEvent) (c : List ℕ) → IsPrefix head before (e ∷ []) c → IsPrefix head before (e ∷ es) c
first_of head before e es c f =
    let all = e ∷ es in
    let few : f.0 ≤ 1 = omega (arith, f.1) in
    (f.0, omega (arith, few), f.2 ∙ ap (λ (l : List LiveEvent). Ok (before ++ l)) (take-take f.0 1 all few))

-- a prefix of those after the first
rest_of : (head : Head) (before : List LiveEvent) (e : LiveEvent) (es : List LiveEvent) (c : List ℕ) → IsPrefix head (before ++ e ∷ []) es c → IsPrefix head before (e ∷ es) c
rest_of head before e es c f = (suc f.0, omega (arith, f.1), f.2 ∙ ap Ok (append_assoc before (e ∷ []) (take f.0 es)))

module _ {D : Type 0} (holds may_leave : D → List ℕ → Type 0) (moment : D → ℕ) (left_since : D → ℕ → List ℕ → Type 0) (only_now : (disk : D) (c : List ℕ) → left_since disk (moment disk) c → may_leave disk c) where
  settled_after : (head : Head) (before done : List LiveEvent) (first last : D) → IsSettled holds may_leave first head before → AreLogged holds may_leave moment left_since first done last → IsSettled holds may_leave last head (before ++ done)
  settled_after head before [] first last s run = subst (IsSettled holds may_leave last head) (sym (append-nil before)) (subst (λ (d : D). IsSettled holds may_leave d head before) run s)
  settled_after head before (e ∷ done) first last s run =
      subst (IsSettled holds may_leave last head) (append_assoc before (e ∷ []) done) (settled_after head (before ++ e ∷ []) done run.0 last (run.1.logged head before s) run.2)

  leaves : (head : Head) (before rest : List LiveEvent) (first last : D) → IsSettled holds may_leave first head before → AreLogged holds may_leave moment left_since first rest last → LeavesOnly moment left_since first last (IsPrefix head before rest)
  leaves head before [] first last s run =
      subst (λ (d : D). LeavesOnly moment left_since first d (IsPrefix head before [])) run (started moment left_since first (IsPrefix head before []) (λ c left. settled_prefix head before c s.day_is s.events_are (s.durable c (only_now first c left))))
  leaves head before (e ∷ rest) first last s run =
      let one = weaker moment left_since first run.0 (IsPrefix head before (e ∷ [])) (IsPrefix head before (e ∷ rest)) (run.1.any_moment head before s) (first_of head before e rest) in
      leaves_then moment left_since first run.0 last (IsPrefix head before (e ∷ rest)) (IsPrefix head (before ++ e ∷ []) rest) one
      (leaves head (before ++ e ∷ []) rest run.0 last (run.1.logged head before s) run.2) (rest_of head before e rest)

  pub prefix_left_over : (head : Head) (before done rest : List LiveEvent) (first mid last : D) → IsSettled holds may_leave first head before → AreLogged holds may_leave moment left_since first done mid
      → AreLogged holds may_leave moment left_since mid rest last → LeavesOnly moment left_since mid last (IsPrefix head (before ++ done) rest)
  prefix_left_over head before done rest first mid last s so_far run = leaves head (before ++ done) rest mid last (settled_after head before done first mid s so_far) run
