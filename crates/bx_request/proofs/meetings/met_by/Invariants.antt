use Rattle.std.proofs.Common.{ℕ, List, drop}
use Rattle.std.specs.List.{All}
use Rattle.bx_request.specs.Locations.{IsApart, MeetsAny}
use Rattle.bx_request.proofs.meetings.met_by.Given as goal

-- what holds of the files that are left holds of all
abbrev pub invariant-loop-file : goal.invariant-loop-file
invariant-loop-file g l =
    (All (IsApart (g.H.Locates.tells l.rt) l.name l.is_written) (drop l.file-index l.files) → All (IsApart (g.H.Locates.tells l.rt) l.name l.is_written) l.files)
    × ((met : List ℕ) → MeetsAny (g.H.Locates.tells l.rt) l.name l.is_written (drop l.file-index l.files) met → MeetsAny (g.H.Locates.tells l.rt) l.name l.is_written l.files met)
