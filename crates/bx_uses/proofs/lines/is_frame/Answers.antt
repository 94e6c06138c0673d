use Rattle.std.proofs.Common.{◌≡◌, ◌∙◌, is_ok, true, Result, Ok, Err, refl, sym}
use Rattle.bx_uses.proofs.lines.is_frame.Goals as goal

found : {A E : Type 0} (r : Result A E) → is_ok r ≡ true → (x : A) × (r ≡ Ok x)
found (Ok x) e = (x, refl)
found (Err fault) e = cc

pub returns : goal.returns
returns c = λ told.
    let frame = found c.read_frame.result (sym c.is_ok.ensures.value ∙ told) in
    (frame.0, sym c.read_frame.ensures.read ∙ frame.1)
