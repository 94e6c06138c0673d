-- What one more unit does to a flow.
use Rattle.std.specs.Prelude.{◌+◌, ◌-◌, List, [], ◌∷◌, true, false, length, replicate, slice_set}
use Rattle.bx_line.specs.Network.{Network, gaps_of}
use Rattle.bx_line.specs.Flows.{Flow, flow_of, idle_at}
use Rattle.bx_dist.specs.declared.step.Step.{Step}
use Rattle.bx_dist.specs.declared.step.Step.TheVariants.{Idle, Back, Take, Give}

-- the flow that carries nothing
abbrev pub empty_flow : Network → Flow
empty_flow line = flow_of (replicate (length line.arcs) false) (replicate (gaps_of line) 0) 0

-- the flow after a unit took the step: an idle unit more or less, or a row that carries it or no longer does
abbrev pub after_step : Flow → Step → Flow
after_step flow (Idle v) = record flow { idle = slice_set flow.idle v (idle_at flow v + 1) }
after_step flow (Back v) = record flow { idle = slice_set flow.idle v (idle_at flow v - 1) }
after_step flow (Take row) = record flow { accepted = slice_set flow.accepted (row - 1) true }
after_step flow (Give row) = record flow { accepted = slice_set flow.accepted (row - 1) false }

-- the flow after a unit took each step of the walk
abbrev pub after_walk : Flow → List Step → Flow
after_walk flow [] = flow
after_walk flow (step ∷ walk) = after_walk (after_step flow step) walk

-- the flow with one more unit, which took the walk
abbrev pub sent : Flow → List Step → Flow
sent flow walk = record (after_walk flow walk) { units = flow.units + 1 }
