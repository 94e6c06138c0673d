-- Private: what its functions promise one another.
use Rattle.std.specs.Prelude.{◌≡◌, Result, Ok, Err}
use Rattle.bx_planfile.specs.declared.fault.PlanTextFault.{PlanTextFault}

-- the same where no memory is taken: a fault is always that of reading
abbrev pub AnswersRead : {X Y : Type 0} → (X → Y) → Result X PlanTextFault → Result Y PlanTextFault → Type 0
AnswersRead view (Ok x) read = read ≡ Ok (view x)
AnswersRead view (Err e) read = read ≡ Err e
