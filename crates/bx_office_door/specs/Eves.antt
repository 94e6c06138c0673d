-- Private: what there is to be said before the day begins.
use Rattle.std.specs.Prelude.{◌≡◌, ℕ, ◌≤◌, ◌<◌, ◌+◌, ◌-◌, ◌/◌, min, Bool, List, Option, Some, None, option_map, Vec}
use Rattle.std.specs.declared.alloc.Global.{Global}
use Rattle.bx_office.specs.Targets.{text_of}
use Rattle.bx_office.specs.declared.early.Eve.{Eve}

-- a part of a second counts as one
abbrev pub seconds_until : ℕ → ℕ → ℕ
seconds_until opens now = min ((opens - now + 999_999_999) / 1_000_000_000) 4_294_967_295

abbrev pub figures_of : Option (Vec ℕ Global) → Option (List ℕ)
figures_of = option_map (λ text. text.items)

-- what there is to be said: how long it is until then, whether the other end was heard, and the figures that are kept
pub record IsEveOf (opens now : ℕ) (is_heard : Bool) (figures : Option (Vec ℕ Global)) (eve : Eve) : Type 0 where
  pub early : now < opens
  pub wait : eve.wait ≡ seconds_until opens now
  pub heard : eve.is_heard ≡ is_heard
  pub told : text_of eve.figures ≡ figures_of figures

abbrev pub IsEveAt : ℕ → ℕ → Bool → Option (Vec ℕ Global) → Option Eve → Type 0
IsEveAt opens now is_heard figures None = opens ≤ now
IsEveAt opens now is_heard figures (Some eve) = IsEveOf opens now is_heard figures eve
