-- Steps that shorten lengths, and steps that there are.
use Rattle.std.specs.Prelude.{◌≡◌, ℕ, ◌+◌, ◌<◌, ◌≤◌, List, length, ℤ, nat_abs, ◌+ℤ◌, ◌≤ℤ◌, ◌<ℤ◌, slice_set}
use Rattle.bx_line.specs.Network.{Network, places_of}
use Rattle.bx_dist.specs.declared.step.Step.{Step}
use Rattle.bx_dist.specs.declared.step.Step.TheVariants.{Idle, Back, Take, Give}
use Rattle.bx_dist.specs.Residual.{step_from, step_to, step_cost, height_at}

-- the step shortens nothing
abbrev pub ShortensNothing : Network → List ℤ → Step → Type 0
ShortensNothing line lengths step = height_at lengths (step_to line step) ≤ℤ (height_at lengths (step_from line step) +ℤ step_cost line step)

-- the step gives its end a lower number
pub record Shortens (line : Network) (step : Step) (old new : List ℤ) : Type 0 where
  pub now : new ≡ slice_set old (step_to line step) (height_at old (step_from line step) +ℤ step_cost line step)
  pub lower : (height_at old (step_from line step) +ℤ step_cost line step) <ℤ height_at old (step_to line step)

-- numbers that may be added in 64 bits: at most twice the limit of AreSmall, and an arc's pay
abbrev pub AreMedium : List ℤ → Type 0
AreMedium heights = (v : ℕ) → nat_abs (height_at heights v) ≤ 1110000000000000000

-- the step names places and rows that there are
abbrev pub IsStep : Network → Step → Type 0
IsStep line (Idle v) = v + 1 < places_of line
IsStep line (Back v) = v + 1 < places_of line
IsStep line (Take row) = (1 ≤ row) × (row ≤ length line.arcs)
IsStep line (Give row) = (1 ≤ row) × (row ≤ length line.arcs)
