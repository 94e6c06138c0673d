use Rattle.std.proofs.Common.{ℕ, List, drop}
use Rattle.bx_request.specs.Locations.{AreApart, HaveMet}
use Rattle.bx_request.proofs.meetings.met_among.Given as goal

-- what holds of the files that are left holds of all
abbrev pub invariant-loop-place : goal.invariant-loop-place
invariant-loop-place g l =
    (AreApart (g.H.Locates.tells l.rt) (drop l.place l.files) → AreApart (g.H.Locates.tells l.rt) l.files)
    × ((met : List ℕ) → HaveMet (g.H.Locates.tells l.rt) (drop l.place l.files) met → HaveMet (g.H.Locates.tells l.rt) l.files met)
