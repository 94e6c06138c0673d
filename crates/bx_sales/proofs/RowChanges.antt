-- What is known of a row that may be given up or changed.
use Rattle.std.proofs.Common.{◌≡◌, ℕ, ◌-◌, ◌<◌, List, length, Result, Ok, Err, OnOk, subst, ap, ◌∙◌, arith}
use Rattle.bx_base.specs.Bookings.{Row}
use Rattle.bx_day.specs.Day.{Day, entry_at}
use Rattle.bx_day.specs.declared.entry.Entry.{Entry}
use Rattle.bx_sales.specs.Changing.{IsPromised, MayBecome, MayBeChanged}

pub ok_then : {A E P Q : Type 0} (r : Result A E) → (P → Q) → OnOk r P → OnOk r Q
ok_then (Ok a) f p = f p
ok_then (Err e) f p = tt

module _ (d : Day) (row : ℕ) (promised : IsPromised d.entries row) where
  -- what stands at the row
  pub entry_there : (es : List Entry) (e : Entry) → es ≡ d.entries → (row - 1 < length es → e ≡ entry_at es (row - 1)) → e ≡ entry_at d.entries (row - 1)
  entry_there es e same there =
      let n = ap (λ (xs : List Entry). length xs) same in
      there (omega (arith, promised.named, promised.inside, n)) ∙ ap (λ (xs : List Entry). entry_at xs (row - 1)) same

  pub may_there : (t : ℕ) (e : Entry) (b : Row) → t ≡ d.moment → e ≡ entry_at d.entries (row - 1) → MayBecome t e b → MayBeChanged d row b
  may_there t e b now there may = record {
    promised = promised;
    may = subst (λ (m : ℕ). MayBecome m (entry_at d.entries (row - 1)) b) now (subst (λ (x : Entry). MayBecome t x b) there may);
  }
